use Rattle.sk_batch.proofs.Wholes.{sound_begun}
use Rattle.sk_batch.proofs.batches.Batches.begin.Goals as goal

pub invariant_of-self : goal.invariant_of-self
invariant_of-self c = sound_begun c.self.inside.batches.list c.begin.new.self.list c.self.inside.members.list c.begin-2.new.self.list c.self.invariant c.begin.ensures c.begin-2.ensures.list
