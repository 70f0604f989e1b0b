use Rattle.std.proofs.Common.{arith}
use Rattle.sk_places.proofs.Finds.{found_text, no_text}
use Rattle.sk_places.proofs.find.find_payload.Goals as goal

pub returns-then-at-len-clause-is : goal.returns-then-at-len-clause-is
returns-then-at-len-clause-is c = found_text c.args.place.now c.args.rows.now.list.current c.len_at-len.ensures.order c.args.payload.now c.position_of_payload-at.result c.position_of_payload-at.ensures (omega (arith, c.if-at-len.true, c.len_at-len.ensures.is))

pub returns-else-at-len-clause-is : goal.returns-else-at-len-clause-is
returns-else-at-len-clause-is c = no_text c.args.place.now c.args.rows.now.list.current c.len_at-len.ensures.order c.args.payload.now c.position_of_payload-at.result c.position_of_payload-at.ensures (omega (arith, c.if-at-len.false, c.len_at-len.ensures.is))
