use Rattle.std.proofs.Common.{ap, arith, ◌∙◌}
use Rattle.std.specs.List.{position_or_len}
use Rattle.sk_places.specs.declared.row.Place.TheVariants.{Set}
use Rattle.sk_places.specs.Rows.{rows_at}
use Rattle.sk_places.specs.Segments.{is_text}
use Rattle.sk_places.proofs.MembersTaken.{found_from}
use Rattle.sk_places.proofs.rows.Rows.look_up_wanted.Goals as goal

pub returns-else-at-first : goal.returns-else-at-first
returns-else-at-first c =
    let within = rw c.in-Set-Member.is-0 at c.requires.within in
    let there = c.position_in_set.ensures ∙ ap (λ text. position_or_len (is_text text) (rows_at (Set c.in-Set-Member.set) c.args.self.now.list.current)) c.bytes.ensures in
    rw (c.in-Set-Member.is-0, c.in-Set-Member.is-1) (found_from (Set c.in-Set-Member.set) (is_text c.in-Set-Member.text.now) c.args.self.now.list.current c.position_in_set.result c.min-at.result c.args.first c.args.end there c.min-at.ensures (omega (arith, c.if-at-first.false)) within)
