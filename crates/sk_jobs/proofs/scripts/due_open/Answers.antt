use Rattle.std.proofs.Common.{◌≡◌, IfOk, ap, of_z, rules, subst, sym, to_z, w64}
use Rattle.std.specs.Prelude.{nat_abs}
use Rattle.sk_cmd.specs.declared.argument.Scored.{Scored}
use Rattle.sk_cmd.specs.declared.argument.Scored.TheVariants.{Dead, Retry, Schedule}
use Rattle.sk_model.specs.Jobs.{due, each, nothing, reports, promote}
use Rattle.sk_model.specs.Outcome.{Realizes}
use Rattle.sk_model.proofs.Tools.Outcomes.{if_ok}
use Rattle.sk_store.specs.Stored.{world}
use Rattle.sk_jobs.proofs.Fronts.{take_none}
use Rattle.sk_jobs.proofs.Routing.{nothing_sent}
use Rattle.sk_jobs.proofs.scripts.due_open.Goals as goal

pub returns-in-Schedule-clause-ok : goal.returns-in-Schedule-clause-ok
returns-in-Schedule-clause-ok c =
    let v = world c.args.store.now in
    let new = world c.promote_due.new.store in
    let same : to_z w64 (of_z w64 c.args.limit) ≡ c.args.limit = search rules in
    subst (λ (s : Scored). IfOk c.promote_due.result (λ reply. Realizes v (due v s (nat_abs c.args.limit)) reply new)) (sym c.in-Schedule.is)
    (subst (λ n. IfOk c.promote_due.result (λ reply. Realizes v (due v Schedule (nat_abs n)) reply new)) same c.promote_due.ensures.ok)

pub returns-in-Retry-clause-ok : goal.returns-in-Retry-clause-ok
returns-in-Retry-clause-ok c =
    let v = world c.args.store.now in
    let new = world c.promote_due-in-Retry.new.store in
    let same : to_z w64 (of_z w64 c.args.limit) ≡ c.args.limit = search rules in
    subst (λ (s : Scored). IfOk c.promote_due-in-Retry.result (λ reply. Realizes v (due v s (nat_abs c.args.limit)) reply new)) (sym c.in-Retry.is)
    (subst (λ n. IfOk c.promote_due-in-Retry.result (λ reply. Realizes v (due v Retry (nat_abs n)) reply new)) same c.promote_due-in-Retry.ensures.ok)

pub returns-in-Dead-clause-ok : goal.returns-in-Dead-clause-ok
returns-in-Dead-clause-ok c = if_ok _ _ c.into_reply.result (λ reply tells.
    let v = world c.args.store.now in
    let n = nat_abs c.args.limit in
    let none : due v Dead n ≡ reports nothing = ap (λ rows. reports (each promote v rows)) (take_none n) in
    subst (λ (s : Scored). Realizes v (due v s n) reply v) (sym c.in-Dead.is)
    (subst (λ o. Realizes v o reply v) (sym none) (tells v v nothing (nothing_sent v c.nothing.result c.nothing.ensures.none.0 c.nothing.ensures.none.1 c.nothing.ensures.texts.0 c.nothing.ensures.texts.1)))) c.into_reply.ensures
