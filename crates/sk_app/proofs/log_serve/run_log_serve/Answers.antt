use Rattle.sk_app.proofs.LogServeRuns.{log_serve_causes, not_a_line}
use Rattle.sk_app.proofs.LogServeStatuses.{line_alone}
use Rattle.sk_app.proofs.log_serve.run_log_serve.Goals as goal

pub returns-clause-causes : goal.returns-clause-causes
returns-clause-causes g c = log_serve_causes _ _ _ _ _ _ _ _ _ _ _ _ c.outcome_by-outcome.result _ _ _ c.outcome_by-outcome.ensures.ran c.settle.ensures.told

pub returns-clause-refused : goal.returns-clause-refused
returns-clause-refused g c = λ e. not_a_line _ _ _ _ _ _ _ _ _ _ _ _ c.outcome_by-outcome.result c.outcome_by-outcome.ensures.ran
    (line_alone _ _ _ _ c.settle.ensures.told e)
