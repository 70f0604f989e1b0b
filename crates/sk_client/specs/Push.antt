-- What a client sends in one request, and what may come of it.
use Rattle.std.specs.Prelude.{◌≡◌, Bool, true, false, List, [], ◌∷◌}
use Rattle.sk_resp.specs.Spelling.{Bytes}
use Rattle.sk_resp.specs.declared.reply.Reply.{Reply}
use Rattle.sk_resp.specs.declared.reply.Reply.TheVariants as reply
use Rattle.sk_link.specs.Call.{Call, answered, lost}
use Rattle.sk_link.specs.Asking.{answers}
use Rattle.sk_link.specs.declared.asking.Answer.{Answer}
use Rattle.sk_payload.specs.declared.draft.JobDraft.{JobDraft}
use Rattle.sk_client.specs.Drafts.{AreBuilt, IsFirstFault}
use Rattle.sk_client.specs.declared.client_fault.ClientFault.{ClientFault}
use Rattle.sk_client.specs.declared.client_fault.ClientFault.TheVariants as fault

-- One request that pushes jobs.
pub record Push : Type 0 where
  -- the drafts whose texts it carries, in the order in which they are built
  pub drafts : List JobDraft
  -- the words
  pub words : List Bytes
  -- the kind of its answer
  pub wanted : Answer

-- The reply accepts the request: it is an answer, and names no job that holds the lock.
abbrev pub accepts : Answer → Reply → Bool
accepts wanted (reply.Bulk jid) = false
accepts wanted r = answers wanted r

-- The request with this reply is all that the link carried.
abbrev pub Carries : (List Call → Type 0) → Push → Reply → Type 0
Carries Carried push r = Carried (answered push.words r ∷ [])

-- Every draft was built, and the reply accepts the request.
abbrev pub AcceptedBy : (List Call → Type 0) → Push → Reply → Type 0
AcceptedBy Carried push r = AreBuilt push.drafts × Carries Carried push r × (accepts push.wanted r ≡ true)

abbrev pub Accepted : (List Call → Type 0) → Push → Type 0
Accepted Carried push = (r : Reply) × AcceptedBy Carried push r

-- What each fault says. Draft: the first draft that can't be built has it, and nothing was sent. Link: the request was lost by that fault.
-- Refused: its reply is no answer. Held: its answer is the job that holds the lock. Memory: nothing was sent.
abbrev pub Fails : (List Call → Type 0) → Push → ClientFault → Type 0
Fails Carried push (fault.Draft f) = IsFirstFault push.drafts f × Carried []
Fails Carried push (fault.Link f) = AreBuilt push.drafts × Carried (lost push.words f ∷ [])
Fails Carried push (fault.Refused r) = AreBuilt push.drafts × Carries Carried push r × (answers push.wanted r ≡ false)
Fails Carried push (fault.Held jid) = AreBuilt push.drafts × Carries Carried push (reply.Bulk jid) × (answers push.wanted (reply.Bulk jid) ≡ true)
Fails Carried push fault.Memory = Carried []
