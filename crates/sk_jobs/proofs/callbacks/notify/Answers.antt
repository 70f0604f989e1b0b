use Rattle.std.proofs.Common.{IfOk, subst, sym}
use Rattle.std.specs.Prelude.{Option}
use Rattle.sk_batch.specs.declared.member.Member.{Member}
use Rattle.sk_store.specs.Stored.{world}
use Rattle.sk_jobs.specs.Callbacks.{IsNotified, notify_member}
use Rattle.sk_jobs.proofs.callbacks.notify.Goals as goal

pub returns-in-Some-clause-ok : goal.returns-in-Some-clause-ok
returns-in-Some-clause-ok c =
    let old = world c.args.store.now in
    let new = world c.notify_batch.new.store in
    subst (λ (member : Option Member). IfOk c.notify_batch.result (λ fired. IsNotified old new fired.items (notify_member c.args.event old member))) (sym c.in-Some.is) c.notify_batch.ensures.ok
