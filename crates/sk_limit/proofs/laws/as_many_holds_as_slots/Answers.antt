use Rattle.sk_limit.proofs.SlotLaws.{one_hold_a_slot}
use Rattle.sk_limit.proofs.laws.as_many_holds_as_slots.Goals as goal

pub returns : goal.returns
returns c = one_hold_a_slot
