use Rattle.sk_app.proofs.Completes.{page_done}
use Rattle.sk_app.proofs.status.run_status.Goals as goal

pub returns-clause-completes : goal.returns-clause-completes
returns-clause-completes g c = λ line is whole. page_done _ _ _ _ _ (c.run_question.ensures.completes line is whole)
