use Rattle.std.proofs.Common.{◌≡◌, ◌≤◌, ◌-◌, ◌++◌, ◌∙◌, suc, ap, append_assoc, arith, length, take}
use Rattle.sk_model.specs.Change.{perform}
use Rattle.sk_store.proofs.Steps.{joined}
use Rattle.sk_store.specs.Stored.{world}
use Rattle.sk_jobs.specs.Routing.{dead_rows, texts_of, trims}
use Rattle.sk_jobs.proofs.Fronts.{one_trimmed}
use Rattle.sk_jobs.proofs.dead.trim_front.Goals as goal

pub loop-left-preserved : goal.loop-left-preserved
loop-left-preserved c =
    let old = c.loop-left.store in
    let next = c.trim_first.new.store in
    let v = world old in
    let k = c.loop-left.left - 1 in
    let number : suc k ≡ c.loop-left.left = omega (arith, c.loop-left-test.true) in
    let was = c.loop-left.invariant in
    let enough : suc k ≤ length (dead_rows v) = omega (arith, number, was.enough) in
    let one = one_trimmed old next c.in_ok-trim_first.field-0 k enough c.in_ok-trim_first.ensures.ok in
    record {
      texts = ap (λ texts. texts ++ texts_of (take k (dead_rows (world next)))) c.in_ok-push.ensures.items
          ∙ append_assoc c.loop-left.gone.items _ _
          ∙ ap (λ texts. c.loop-left.gone.items ++ texts) (one.texts ∙ ap (λ n. texts_of (take n (dead_rows v))) number)
          ∙ was.texts;
      trimmed = one.trimmed ∙ ap (λ n. perform v (trims (take n (dead_rows v)))) number ∙ was.trimmed;
      enough = one.enough;
      aside = λ test others aside is. one.aside test others aside (was.aside test others aside is);
      step = joined c.args.store.now old next was.step c.in_ok-trim_first.ensures.step;
    }
