-- What a chain makes of a draft.
use denote.Param.Members.{Mut}
use Rattle.std.specs.Prelude.{Option}
use Rattle.sk_payload.specs.declared.draft.JobDraft.{JobDraft}
use Rattle.sk_middle.specs.Chain.{Chained}
use Rattle.sk_middle.specs.declared.chain.ClientChain.{ClientChain}
use Rattle.sk_middle.specs.declared.chain.ChainStep.{ChainStep}
use Rattle.sk_middle.specs.declared.chain.Through.{Through}

module _ {F : Type 0} {OfF : F → Type 0} {Calls : Mut ((f : F) × OfF f) (JobDraft × Unit {0}) (Option JobDraft)} where
  -- The function may answer this on this draft.
  abbrev pub answers : ChainStep F OfF Calls → JobDraft → Option JobDraft → Type 0
  answers step draft next = Calls.post (step.call.vtable, step.call.value) (draft, tt) next

  -- The chain may answer this on this draft.
  abbrev pub applied : ClientChain F OfF Calls → JobDraft → Through → Type 0
  applied chain draft through = Chained answers chain.steps.items draft through
