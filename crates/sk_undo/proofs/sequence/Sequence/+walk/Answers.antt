use Rattle.std.proofs.Common.{append_assoc, arith, map, ap}
use Rattle.std.proofs.lemmas.List.{map-append}
use Rattle.sk_undo.proofs.Ranges.{range_around}
use Rattle.sk_undo.proofs.sequence.Sequence.+walk.Goals as goal

pub returns-in_ok-visit-in-Some : goal.returns-in_ok-visit-in-Some
returns-in_ok-visit-in-Some g t c =
    let e = ap (map (g.V.Visit.output)) (range_around c.in-Some.l.now c.in-Some.x.now c.in-Some.r.now c.args.first c.args.end (omega (arith, c.if-here-first.false, c.len-here.ensures.is)) (omega (arith, c.if-end-here.false, c.len-here.ensures.is))) in
    grind (arith, append_assoc, map-append, e, c.in-Some.ensures.is, c.walk-else-here-first-2.ensures, c.in_ok-visit-in-Some.ensures, c.in_ok-walk-in-Some.ensures)
