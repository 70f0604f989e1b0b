use Rattle.sk_app.proofs.LogDone.{log_completes}
use Rattle.sk_app.proofs.LogRuns.{log_causes}
use Rattle.sk_app.proofs.log_pipe.run_log_pipe.Goals as goal

pub returns-clause-told : goal.returns-clause-told
returns-clause-told g c = (c.outcome_by-outcome.result, c.outcome_by-outcome.new.sink, c.settle.ensures.told, c.outcome_by-outcome.ensures.told)

pub returns-clause-completes : goal.returns-clause-completes
returns-clause-completes g c = log_completes _ _ _ _ _ _ _ _ _ _ _ _ c.outcome_by-outcome.result _ c.outcome_by-outcome.ensures.told c.settle.ensures.told c.settle.ensures.silent

pub returns-clause-causes : goal.returns-clause-causes
returns-clause-causes g c = log_causes _ _ _ _ _ _ _ _ _ _ _ c.outcome_by-outcome.result _ _ c.outcome_by-outcome.ensures.told c.settle.ensures.told
