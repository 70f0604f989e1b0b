use Rattle.std.proofs.Common.{ap}
use Rattle.sk_batch.specs.declared.event.Event.TheVariants as event
use Rattle.sk_model.proofs.Tools.Outcomes.{if_ok}
use Rattle.sk_store.specs.Stored.{world}
use Rattle.sk_jobs.specs.Callbacks.{counts_processed}
use Rattle.sk_jobs.proofs.Notifying.{notified_comes}
use Rattle.sk_jobs.proofs.runs.succeed_open.Goals as goal

pub returns-clause-ok : goal.returns-clause-ok
returns-clause-ok c = if_ok _ _ c.as_reply.result (λ reply named.
    let old = c.args.store.now in
    let v = world old in
    notified_comes v (world (record old { counters = c.raise.new.self })) (world c.notify.new.store) event.Returned c.args.text.now c.in_ok-member.member counts_processed c.in_ok-fired.fired.items reply
    (ap (λ s. record v { counters = s.current }) c.in_ok-raise.ensures.ok) c.in_ok-member.ensures c.in_ok-fired.ensures.ok named) c.as_reply.ensures
