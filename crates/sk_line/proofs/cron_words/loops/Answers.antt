use Rattle.std.proofs.Common.{◌<◌, ◌++◌, ◌∷◌, [], get_or, length, take, subst, sym, arith}
use Rattle.std.proofs.lemmas.List.{take_all, take_more}
use Rattle.std.specs.List.{AllZip}
use Rattle.sk_line.specs.Work.{IsLoop}
use Rattle.sk_line.proofs.Lists.{zip_at, zip_map, zip_push, zip_unmap}
use Rattle.sk_line.proofs.Reading.{passed_as}
use Rattle.sk_line.proofs.cron_words.loops.Goals as goal

pub returns : goal.returns
returns c = zip_map (λ word. word.now) IsLoop c.args.words.now c.loop-word.loops.items
    (subst (λ words. AllZip (λ word one. IsLoop word.now one) words c.loop-word.loops.items) (take_all c.loop-word.word-index c.args.words.now (omega arith)) c.loop-word.invariant)

pub loop-word-preserved : goal.loop-word-preserved
loop-word-preserved c =
    let there : c.loop-word.word-index < length c.args.words.now = omega arith in
    let more = zip_push (λ word one. IsLoop word.now one) (take c.loop-word.word-index c.args.words.now) c.loop-word.loops.items
    (get_or c.args.words.now c.loop-word.word-index (record { ref_ptr = (0, 0); now = [] })) c.in_ok-loop_of.field-0 c.loop-word.invariant c.in_ok-loop_of.ensures in
    subst (λ words. AllZip (λ word one. IsLoop word.now one) words c.push.new.self.items) (sym (take_more c.args.words.now c.loop-word.word-index (record { ref_ptr = (0, 0); now = [] }) there))
    (subst (λ ones. AllZip (λ word one. IsLoop word.now one) (take c.loop-word.word-index c.args.words.now ++ get_or c.args.words.now c.loop-word.word-index (record { ref_ptr = (0, 0); now = [] }) ∷ []) ones)
    (sym c.in_ok-push.ensures.items) more)

pub returns-in_err-loop_of : goal.returns-in_err-loop_of
returns-in_err-loop_of c = passed_as (λ v. v.items) _ _ c.from_residual.ensures.1 c.in_err-loop_of.ensures
    (λ ones p. zip_at (λ word one. IsLoop word.now one) c.args.words.now ones c.loop-word.word-index _ (omega arith)
    (zip_unmap (λ word. word.now) IsLoop c.args.words.now ones p))
