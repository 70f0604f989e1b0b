-- What comes of a push through a chain.
use Rattle.std.specs.Prelude.{◌≡◌, List}
use Rattle.sk_link.specs.Call.{Call}
use Rattle.sk_client.specs.Push.{Accepted, Fails}
use Rattle.sk_client.specs.Requests.{lpush}
use Rattle.sk_client.specs.declared.client_fault.ClientFault.{ClientFault}
use Rattle.sk_payload.specs.declared.draft.JobDraft.{JobDraft}
use Rattle.sk_middle.specs.Identity.{KeepsIdentity}
use Rattle.sk_middle.specs.declared.chain.Through.{Through}
use Rattle.sk_middle.specs.declared.chain.Through.TheVariants as through
use Rattle.sk_middle.specs.declared.sent.Sent.{Sent}
use Rattle.sk_middle.specs.declared.sent.Sent.TheVariants.{Pushed, Stopped}

-- The chain gave a draft of the same job, and this came of its push.
abbrev pub PushesOn : (Through → Type 0) → JobDraft → (JobDraft → Type 0) → Type 0
PushesOn Gives draft Comes = (last : JobDraft) × Gives (through.Push last) × KeepsIdentity draft last × Comes last

-- Pushed: the store accepted the one request that pushes the draft which the chain gave, and nothing else was sent. Stopped: the chain stopped the
-- draft there, and the link is as it was.
abbrev pub Sends : (Through → Type 0) → (List Call → Type 0) → {L : Type 0} → L → L → JobDraft → Sent → Type 0
Sends Gives Carried old new draft Pushed = PushesOn Gives draft (λ last. Accepted Carried (lpush last))
Sends Gives Carried old new draft (Stopped place) = Gives (through.Stopped place) × (new ≡ old)

-- The push of the draft which the chain gave ended with this fault.
abbrev pub SendFails : (Through → Type 0) → (List Call → Type 0) → JobDraft → ClientFault → Type 0
SendFails Gives Carried draft f = PushesOn Gives draft (λ last. Fails Carried (lpush last) f)
