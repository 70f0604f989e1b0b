use Rattle.sk_batch.proofs.Wholes.{sound_either}
use Rattle.sk_batch.proofs.batches.Batches.make.Goals as goal

pub invariant_of-self : goal.invariant_of-self
invariant_of-self c = sound_either c.make.result c.self.inside.batches.list c.make.new.batches.list c.self.inside.members.list c.make.new.members.list _ _ c.self.invariant c.make.ensures.batches c.make.ensures.members c.make.ensures.kept c.make.ensures.err_batches c.make.ensures.err_members
