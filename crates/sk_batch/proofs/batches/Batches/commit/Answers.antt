use Rattle.sk_batch.proofs.Wholes.{sound_committed}
use Rattle.sk_batch.proofs.batches.Batches.commit.Goals as goal

pub invariant_of-self : goal.invariant_of-self
invariant_of-self c = sound_committed c.self.inside.batches.list c.commit.new.self.list c.self.inside.members.list c.commit-2.new.self.list c.self.invariant c.commit.ensures c.commit-2.ensures
