use Rattle.std.proofs.Common.{◌∙◌, ap, sym}
use Rattle.std.specs.Prelude.{Ok}
use Rattle.sk_undo.specs.Versions.{Versions}
use Rattle.sk_leases.specs.Leased.{Leased}
use Rattle.sk_model.specs.Change.{perform}
use Rattle.sk_model.specs.Unique.{push_or_schedule}
use Rattle.sk_store.specs.Stored.{world}
use Rattle.sk_jobs.proofs.UniquePushes.{comes_locked}
use Rattle.sk_jobs.proofs.unique.push_open.Goals as goal

pub returns-clause-ok : goal.returns-clause-ok
returns-clause-ok c =
    let u = world c.args.store.now in
    let none = c.in_default.is in
    let leased = ap (λ (s : Versions Leased). s.current) (c.in_ok-holder.ensures.made (ap Ok none)) in
    comes_locked u _ c.args.payload c.args.score c.args.lock (sym c.in_ok-holder.ensures.holder ∙ none)
    (c.in_ok-push_or_schedule.ensures.ok ∙ ap (λ (l : Leased). perform (record u { leases = l }) (push_or_schedule u c.args.payload c.args.score)) leased)
