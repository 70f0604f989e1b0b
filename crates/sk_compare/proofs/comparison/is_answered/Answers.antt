use Rattle.std.proofs.Common.{refl, subst, sym}
use Rattle.sk_compare.specs.Alike.{AllAnswered}
use Rattle.sk_compare.proofs.comparison.is_answered.Goals as goal

pub loop-entry-preserved : goal.loop-entry-preserved
loop-entry-preserved c = λ rest. c.loop-entry.invariant (subst AllAnswered (sym c.in-Some.ensures.steps) (c.if-not-has_reply.ensures refl, rest))

pub returns : goal.returns
returns c = λ _. c.loop-entry.invariant (subst AllAnswered (sym c.in-None.ensures.steps.0) tt)
