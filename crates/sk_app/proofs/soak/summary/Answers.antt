use Rattle.std.proofs.Common.{◌≡◌, ◌∙◌, Ok, ap, subst, sym}
use Rattle.sk_drill.specs.SoakText.{soak_text}
use Rattle.sk_drill.specs.Soaked.{IsSummaryOf}
use Rattle.sk_app.specs.Soaking.{Soaks, soaked}
use Rattle.sk_app.proofs.SoakRuns.{no_memory}
use Rattle.sk_app.proofs.soak.summary.Goals as goal

pub returns-in_err-summary-clause-told : goal.returns-in_err-summary-clause-told
returns-in_err-summary-clause-told c = no_memory _ c.from_residual.result c.from_residual.ensures.1

pub returns-in_err-write_soak-clause-told : goal.returns-in_err-write_soak-clause-told
returns-in_err-write_soak-clause-told c = no_memory _ c.from_residual-in_err-write_soak.result c.from_residual-in_err-write_soak.ensures.1

pub returns-clause-told : goal.returns-clause-told
returns-clause-told c =
    let seed = c.args.line.seed in
    let summary = c.in_ok-summary.summary in
    let jobs : c.from-jobs.result ≡ c.args.line.jobs = c.from-jobs.ensures in
    let text : c.in_ok-write_soak.field-0 ≡ soak_text seed c.args.line.jobs summary = c.in_ok-write_soak.ensures ∙ ap (λ n. soak_text seed n summary) jobs in
    subst (λ t. Soaks c.args.line (Ok t)) (sym text) (soaked summary (subst (λ n. IsSummaryOf seed n summary) jobs c.in_ok-summary.ensures.run))
