use Rattle.sk_limit.proofs.SlotLaws.{one_hold}
use Rattle.sk_limit.proofs.laws.one_hold_of_a_slot.Goals as goal

pub returns : goal.returns
returns c = one_hold
