-- Which job a draft is of.
use Rattle.std.specs.Prelude.{◌≡◌}
use Rattle.sk_payload.specs.declared.draft.JobDraft.{JobDraft}

-- The draft became one of the same job: it has the same jid, class and bid.
pub record KeepsIdentity (draft next : JobDraft) : Type 0 where
  pub jid : next.jid ≡ draft.jid
  pub class : next.class ≡ draft.class
  pub bid : next.bid ≡ draft.bid
