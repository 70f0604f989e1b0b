use Rattle.std.proofs.Common.{◌∷◌, subst, sym, ◌∙◌, ap, Ok}
use Rattle.sk_cmd.specs.Arguments.{IsScoreText}
use Rattle.sk_cmd.specs.Arguments.{IsScores}
use Rattle.sk_cmd.proofs.pairs.read_scores.Goals as goal

pub loop-score-preserved : goal.loop-score-preserved
loop-score-preserved c = λ out h. c.loop-score.invariant out
    (subst (λ xs. IsScores xs c.loop-score.list.items out) (sym (c.in-Some.ensures.items ∙ ap (λ xs. c.in-Some.score ∷ xs) c.in-Some-next.ensures.items))
    (Ok c.in_ok-score.score, subst (λ r. IsScoreText c.in-Some.score r) c.in_ok-score.was (subst (λ t. IsScoreText t c.read_score.result) c.bytes.ensures c.read_score.ensures), subst (λ l. IsScores c.next-in-Some.new.self.rest.items l out) c.in-Ok.ensures.items h))
