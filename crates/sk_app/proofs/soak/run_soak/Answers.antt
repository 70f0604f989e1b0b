use Rattle.sk_app.proofs.Completes.{soak_completes}
use Rattle.sk_app.proofs.soak.run_soak.Goals as goal

pub returns-clause-told : goal.returns-clause-told
returns-clause-told g c = (c.outcome_by-outcome.result, c.conclude.ensures.told, c.outcome_by-outcome.ensures)

pub returns-clause-completes : goal.returns-clause-completes
returns-clause-completes g c = λ line is whole. soak_completes _ line _ _ _ _ is c.outcome_by-outcome.ensures c.conclude.ensures.told whole
