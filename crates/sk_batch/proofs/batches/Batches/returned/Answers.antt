use Rattle.std.proofs.Common.{◌≡◌, IfOk, subst}
use Rattle.sk_batch.specs.Batched.{Batched}
use Rattle.sk_batch.specs.Events.{returned_fires}
use Rattle.sk_batch.proofs.Wholes.{sound_either, notified_whole}
use Rattle.sk_batch.specs.declared.event.Event.TheVariants as event
use Rattle.sk_undo.specs.Versions.{Versions}
use Rattle.sk_batch.proofs.batches.Batches.returned.Goals as goal

pub returns-clause-fires : goal.returns-clause-fires
returns-clause-fires c = subst (λ (v : Versions Batched). IfOk c.notify.result (λ firings. firings.items ≡ returned_fires c.args.bid.now c.args.jid.now v.current)) c.self.view_is c.notify.ensures.fires

pub returns-clause-ok : goal.returns-clause-ok
returns-clause-ok c = notified_whole c.notify.result event.Returned c.args.bid.now c.args.jid.now c.self.inside.most c.self.inside.batches.list c.notify.new.batches.list c.self.inside.members.list c.notify.new.members.list c.args.self.now c.self.view_is c.notify.ensures.batches c.notify.ensures.members

pub invariant_of-self : goal.invariant_of-self
invariant_of-self c = sound_either c.notify.result c.self.inside.batches.list c.notify.new.batches.list c.self.inside.members.list c.notify.new.members.list _ _ c.self.invariant c.notify.ensures.batches c.notify.ensures.members c.notify.ensures.kept c.notify.ensures.err_batches c.notify.ensures.err_members
