use Rattle.std.proofs.Common.{take}
use Rattle.sk_middle.specs.Chain.{Passes}
use Rattle.sk_middle.specs.Identity.{KeepsIdentity}
use Rattle.sk_middle.proofs.chain.ClientChain.apply.Given as goal

abbrev pub invariant-loop-place : goal.invariant-loop-place
invariant-loop-place g l =
    Passes (λ s draft next. (goal.Fn-dyn g).post (s.call.vtable, s.call.value) (draft, tt) next) (take l.place l.self.steps.items) l.fn.draft l.draft
    × KeepsIdentity l.fn.draft l.draft
