use Rattle.std.proofs.Common.{◌≡◌, Ok, Err, subst}
use Rattle.sk_base.proofs.Scores.{score_same}
use Rattle.sk_base.specs.Score.{IsScore}
use Rattle.sk_line.proofs.value.score.Goals as goal

pub returns-in-Err : goal.returns-in-Err
returns-in-Err c = λ z h.
    let none : IsScore c.args.text.now (Err c.in-Err.field-0) = subst (λ t. IsScore t (Err c.in-Err.field-0)) c.as_bytes.ensures.value c.in-Err.ensures in
    let same : Ok z ≡ Err c.in-Err.field-0 = score_same c.args.text.now (Ok z) (Err c.in-Err.field-0) h none in
    cc
