use Rattle.std.proofs.Common.{◌≡◌, ◌∷◌, ◌++◌, ◌∙◌, ap, append_assoc, arith, length, sym}
use Rattle.sk_model.specs.Change.{perform}
use Rattle.sk_model.specs.Notify.{push_callback, fired_texts}
use Rattle.sk_model.proofs.Changes.Lawful.{perform-append}
use Rattle.sk_store.proofs.Steps.{joined}
use Rattle.sk_store.specs.Stored.{world}
use Rattle.sk_jobs.specs.Callbacks.{callback_pushes}
use Rattle.sk_jobs.proofs.callbacks.push_callbacks.Goals as goal

pub push_callback-requires : goal.push_callback-requires
push_callback-requires c = omega (arith, c.loop-firing.invariant.few, ap length c.in-Some.ensures.steps.0)

pub loop-firing-preserved : goal.loop-firing-preserved
loop-firing-preserved c =
    let was = c.loop-firing.invariant in
    let firing = c.in-Some.firing in
    let more = c.next.new.self.rest.items in
    let v = world c.loop-firing.store in
    let rest : c.loop-firing.firing-iterator.rest.items ≡ firing ∷ more = c.in-Some.ensures.steps.0 in
    record {
      called = ap (λ u. perform u (callback_pushes more)) c.in_ok-push_callback.ensures.ok ∙ sym (perform-append v (push_callback firing.payload) (callback_pushes more)) ∙ ap (λ fs. perform v (callback_pushes fs)) (sym rest) ∙ was.called;
      told = ap (λ t. t ++ fired_texts more) c.in_ok-push_callback.ensures.texts ∙ append_assoc c.loop-firing.fired.items _ _ ∙ ap (λ fs. c.loop-firing.fired.items ++ fired_texts fs) (sym rest) ∙ was.told;
      aside = λ test others aside is. c.in_ok-push_callback.ensures.aside test others aside (was.aside test others aside is);
      few = omega (arith, was.few, c.in_ok-push_callback.ensures.few, ap length rest);
      step = joined c.args.store.now c.loop-firing.store c.push_callback.new.store was.step c.in_ok-push_callback.ensures.step;
    }
