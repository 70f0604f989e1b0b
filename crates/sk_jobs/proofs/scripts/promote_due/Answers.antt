use Rattle.std.proofs.Common.{◌≡◌, ◌∙◌, ap, of_z, rules, subst, sym, take, to_z, w64}
use Rattle.std.specs.Prelude.{nat_abs}
use Rattle.sk_model.specs.Jobs.{each, reports, promote}
use Rattle.sk_model.specs.Outcome.{Realizes}
use Rattle.sk_model.proofs.Tools.Outcomes.{if_ok}
use Rattle.sk_store.specs.Stored.{world}
use Rattle.sk_jobs.specs.Routing.{due_in, set_rows}
use Rattle.sk_jobs.proofs.scripts.promote_due.Goals as goal

pub returns-clause-ok : goal.returns-clause-ok
returns-clause-ok c =
    let v = world c.args.store.now in
    let new = world c.promote_front.new.store in
    let same : to_z w64 (of_z w64 c.args.limit) ≡ c.args.limit = search rules in
    let front = ap (λ n. due_in c.args.set (nat_abs n) v) (sym same) ∙ c.due_count-count.ensures.is in
    if_ok _ _ c.into_reply.result (λ reply tells. subst (λ list. Realizes v (reports (each promote v list)) reply new) (sym front)
    (tells v new (each promote v (take c.due_count-count.result (set_rows c.args.set v))) c.in_ok-report.ensures.ok)) c.into_reply.ensures
