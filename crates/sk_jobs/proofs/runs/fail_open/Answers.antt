use Rattle.std.proofs.Common.{◌∙◌, ap}
use Rattle.sk_batch.specs.declared.event.Event.TheVariants.{Reported}
use Rattle.sk_counters.specs.Counters.{counted_at, failed}
use Rattle.sk_model.proofs.Tools.Outcomes.{if_ok}
use Rattle.sk_store.specs.Stored.{world}
use Rattle.sk_jobs.specs.Callbacks.{counts_failed}
use Rattle.sk_jobs.proofs.Notifying.{notified_comes}
use Rattle.sk_jobs.proofs.runs.fail_open.Goals as goal

pub returns-clause-ok : goal.returns-clause-ok
returns-clause-ok c = if_ok _ _ c.as_reply.result (λ reply named.
    let old = c.args.store.now in
    let v = world old in
    let counted = ap (λ s. s.current) c.in_ok-raise-2.ensures.ok ∙ ap (λ s. counted_at v.moment failed s.current) c.in_ok-raise.ensures.ok in
    notified_comes v (world (record old { counters = c.raise-2.new.self })) (world c.notify.new.store) Reported c.args.text.now c.in_ok-member.member counts_failed c.in_ok-fired.fired.items reply
    (ap (λ k. record v { counters = k }) counted) c.in_ok-member.ensures c.in_ok-fired.ensures.ok named) c.as_reply.ensures
