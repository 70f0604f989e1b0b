use Rattle.std.proofs.Common.{refl}
use Rattle.sk_app.specs.Questions.{spoke}
use Rattle.sk_app.proofs.QuestionRuns.{no_line}
use Rattle.sk_app.proofs.question.outcome_by.Goals as goal

pub returns-in_err-question-clause-told : goal.returns-in_err-question-clause-told
returns-in_err-question-clause-told g c = no_line _ _ _ c.in_err-question.field-0.0 c.from_residual.result c.from_residual.ensures.1 c.in_err-question.ensures refl

pub returns-clause-told : goal.returns-clause-told
returns-clause-told g c = spoke c.in_ok-question.question c.dial.result c.in_ok-question.ensures c.dial.ensures.told
