use Rattle.sk_middle.proofs.Chains.{KeepsIdentity-trans, Passes-next, StopsAt-next, Passes-all}
use Rattle.sk_middle.proofs.chain.ClientChain.apply.Goals as goal

pub returns-in-None-clause-chained : goal.returns-in-None-clause-chained
returns-in-None-clause-chained g c =
    StopsAt-next (λ s draft next. (goal.Fn-dyn g).post (s.call.vtable, s.call.value) (draft, tt) next) c.args.self.now.steps.items c.deref-step-items.result.now
    c.deref-step-items.ensures.value c.loop-place.place c.step-item.result c.args.draft c.loop-place.draft
    c.loop-place-test.true c.step-item.is c.loop-place.invariant.0 c.in-None.ensures.answer

pub loop-place-preserved : goal.loop-place-preserved
loop-place-preserved g c = (
  Passes-next (λ s draft next. (goal.Fn-dyn g).post (s.call.vtable, s.call.value) (draft, tt) next) c.args.self.now.steps.items c.deref-step-items.result.now
      c.deref-step-items.ensures.value c.loop-place.place c.step-item.result c.args.draft c.loop-place.draft
      c.in-Some.next c.loop-place-test.true c.step-item.is c.loop-place.invariant.0 c.in-Some.ensures.answer,
  KeepsIdentity-trans c.args.draft c.loop-place.draft c.in-Some.next c.loop-place.invariant.1 c.in-Some.ensures.same,
)

pub returns-clause-chained : goal.returns-clause-chained
returns-clause-chained g c =
    Passes-all (λ s draft next. (goal.Fn-dyn g).post (s.call.vtable, s.call.value) (draft, tt) next) c.args.self.now.steps.items c.deref-step-items.result.now
    c.deref-step-items.ensures.value c.loop-place.place c.args.draft c.loop-place.draft c.loop-place-test.false c.loop-place.invariant.0
