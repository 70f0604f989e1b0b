use Rattle.std.proofs.Common.{rules, ◌≡◌, true, subst, arith, length-append}
use Rattle.std.specs.Ordering.{is_le}
use Rattle.sk_undo.specs.Partitioned.{is_partitioned}
use Rattle.sk_undo.proofs.Descents.{partitioned_left, partitioned_right}
use Rattle.sk_undo.proofs.sequence.Sequence.+seek_behind.Goals as goal

pub seek_behind-requires : goal.seek_behind-requires
seek_behind-requires g t c κs within =
    let whole = subst (λ xs. is_partitioned (λ x. is_le (g.P.Probe.order c.args.probe.now x)) xs ≡ true) c.in-Some.ensures.is c.requires.rises in
    (grind (arith, length-append, c.in-Some.ensures.is), (search rules, (search rules, (partitioned_left (λ x. is_le (g.P.Probe.order c.args.probe.now x)) c.in-Some.l.now c.in-Some.x.now c.in-Some.r.now whole, grind (arith, length-append, c.in-Some.ensures.is, c.requires.small)))))

pub seek_behind-requires-else-is_le : goal.seek_behind-requires-else-is_le
seek_behind-requires-else-is_le g t c κs within =
    let whole = subst (λ xs. is_partitioned (λ x. is_le (g.P.Probe.order c.args.probe.now x)) xs ≡ true) c.in-Some.ensures.is c.requires.rises in
    (grind (arith, length-append, c.in-Some.ensures.is), (search rules, (search rules, (partitioned_right (λ x. is_le (g.P.Probe.order c.args.probe.now x)) c.in-Some.l.now c.in-Some.x.now c.in-Some.r.now whole, grind (arith, length-append, c.in-Some.ensures.is, c.requires.small, c.len.ensures.is)))))
