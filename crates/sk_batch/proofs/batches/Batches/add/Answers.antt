use Rattle.sk_batch.proofs.Wholes.{sound_either}
use Rattle.sk_batch.proofs.batches.Batches.add.Goals as goal

pub invariant_of-self : goal.invariant_of-self
invariant_of-self c = sound_either c.join.result c.self.inside.batches.list c.join.new.batches.list c.self.inside.members.list c.join.new.members.list _ _ c.self.invariant c.join.ensures.batches c.join.ensures.members c.join.ensures.kept c.join.ensures.err_batches c.join.ensures.err_members
