use Rattle.sk_app.proofs.LimitRuns.{limit_completes}
use Rattle.sk_app.proofs.Endings.{line_alone}
use Rattle.sk_app.proofs.limit.run_limit.Goals as goal

pub returns-clause-told : goal.returns-clause-told
returns-clause-told g c = (c.outcome_by-outcome.result, c.conclude.ensures.told, c.outcome_by-outcome.ensures.told)

pub returns-clause-untouched : goal.returns-clause-untouched
returns-clause-untouched g c = λ e. (c.conclude.ensures.silent e, c.outcome_by-outcome.ensures.untouched (line_alone _ _ _ _ c.conclude.ensures.told e))

pub returns-clause-completes : goal.returns-clause-completes
returns-clause-completes g c = λ line is whole. limit_completes _ _ _ _ _ _ line _ _ _ _ is c.outcome_by-outcome.ensures.told c.conclude.ensures.told whole
