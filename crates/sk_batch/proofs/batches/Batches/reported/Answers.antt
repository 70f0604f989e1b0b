use Rattle.sk_batch.proofs.Wholes.{sound_either}
use Rattle.sk_batch.proofs.batches.Batches.reported.Goals as goal

pub invariant_of-self : goal.invariant_of-self
invariant_of-self c = sound_either c.notify.result c.self.inside.batches.list c.notify.new.batches.list c.self.inside.members.list c.notify.new.members.list _ _ c.self.invariant c.notify.ensures.batches c.notify.ensures.members c.notify.ensures.kept c.notify.ensures.err_batches c.notify.ensures.err_members
