use Rattle.std.proofs.Common.{arith}
use Rattle.sk_places.proofs.Parted.{at_itself}
use Rattle.sk_places.proofs.row_filter.picks.Goals as goal

pub returns-in-Member : goal.returns-in-Member
returns-in-Member c = let at = at_itself c.args.place.now (c.args.score, c.args.text.now) in rw (c.in-Member.is) (grind (arith, at))

pub returns-then-micros-eq0 : goal.returns-then-micros-eq0
returns-then-micros-eq0 c = let at = at_itself c.args.place.now (c.args.score, c.args.text.now) in rw (c.in-Copies.is) (grind (arith, at, c.if-micros-eq0.true))
