use Rattle.sk_batch.proofs.Wholes.{sound_undone}
use Rattle.sk_batch.proofs.batches.Batches.undo.Goals as goal

pub invariant_of-self : goal.invariant_of-self
invariant_of-self c = sound_undone c.self.inside.batches.list c.undo.new.self.list c.self.inside.members.list c.undo-2.new.self.list c.self.invariant c.undo.ensures c.undo-2.ensures
