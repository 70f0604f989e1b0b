use Rattle.std.proofs.Common.{◌≡◌, ◌∙◌, [], arith, codes, false, subst, sym, true}
use Rattle.std.proofs.lemmas.List.{get_or-map, take-map}
use Rattle.sk_cron.specs.Times.{Means}
use Rattle.sk_line.specs.Work.{joined}
use Rattle.sk_line.proofs.Crons.{same_names}
use Rattle.sk_line.proofs.Reading.{passed}
use Rattle.sk_line.proofs.cron_words.loop_by.Goals as goal

pub returns-then-is_loop : goal.returns-then-is_loop
returns-then-is_loop c = record {
  name_is = c.in_ok-text.ensures;
  cron = subst (λ texts. Means (joined (codes " ") texts) c.in_ok-cron.cron) (sym (take-map (λ part. part.now) 5 c.args.parts.now)) c.in_ok-cron.ensures;
  class = c.in_ok-text-2.ensures ∙ sym (get_or-map (λ part. part.now) c.args.parts.now 5 _ [] (omega (arith, c.requires)));
  queue = c.in_ok-text-3.ensures ∙ sym (get_or-map (λ part. part.now) c.args.parts.now 6 _ [] (omega (arith, c.requires)));
  names = sym c.is_loop.ensures ∙ c.if-is_loop.true;
}

pub returns-in_err-cron : goal.returns-in_err-cron
returns-in_err-cron c = passed _ _ c.from_residual.ensures.1 c.in_err-cron.ensures
    (λ l p. (l.cron, subst (λ texts. Means (joined (codes " ") texts) l.cron) (take-map (λ part. part.now) 5 c.args.parts.now) p.cron))

pub returns-else-is_loop : goal.returns-else-is_loop
returns-else-is_loop c = λ l p.
    let class = c.in_ok-text-2.ensures ∙ sym (get_or-map (λ part. part.now) c.args.parts.now 5 _ [] (omega (arith, c.requires))) in
    let queue = c.in_ok-text-3.ensures ∙ sym (get_or-map (λ part. part.now) c.args.parts.now 6 _ [] (omega (arith, c.requires))) in
    let same = same_names l _ (p.name_is ∙ sym c.in_ok-text.ensures) (p.class ∙ sym class) (p.queue ∙ sym queue) in
    let bad : true ≡ false = sym p.names ∙ same ∙ sym c.is_loop.ensures ∙ c.if-is_loop.false in cc
