-- Many jobs pushed to one queue, slice by slice.
use Rattle.std.specs.Prelude.{◌≡◌, ◌<◌, ◌≤◌, ◌++◌, ◌⊎◌, ℕ, Bool, true, false, List, [], ◌∷◌, Result, Ok, Err, length, drop, All}
use Rattle.sk_base.specs.declared.limits.TheConstants.{LONGEST_COMMAND}
use Rattle.sk_resp.specs.Spelling.{Bytes, total_length}
use Rattle.sk_resp.specs.declared.reply.Reply.{Reply}
use Rattle.sk_link.specs.Call.{Call}
use Rattle.sk_link.specs.Asking.{is_number}
use Rattle.sk_link.specs.declared.link.LinkFault.{LinkFault}
use Rattle.sk_payload.specs.declared.draft.JobDraft.{JobDraft}
use Rattle.sk_client.specs.Drafts.{AreBuilt, IsFirstFault, texts}
use Rattle.sk_client.specs.Requests.{lpush_words}
use Rattle.sk_client.specs.declared.client_fault.ClientFault.{ClientFault}
use Rattle.sk_client.specs.declared.client_fault.ClientFault.TheVariants as fault

-- the queue that the first of them names
abbrev pub queue_of : List JobDraft → Bytes
queue_of [] = []
queue_of (draft ∷ drafts) = draft.queue

-- All of them name that queue.
abbrev pub NameOneQueue : List JobDraft → Type 0
NameOneQueue drafts = All (λ draft. draft.queue ≡ queue_of drafts) drafts

-- the bytes of the request that pushes these texts to the queue
abbrev pub request_length : Bytes → List Bytes → ℕ
request_length queue texts = total_length (lpush_words queue texts)

-- The next slice of what is left to push, and what is left behind it: at most so many texts, in a request of at most 16 MiB. It is shorter
-- only where no text is left, or where the request with the next one would pass that.
pub record IsSlice (queue : Bytes) (most : ℕ) (left slice rest : List Bytes) : Type 0 where
  pub is : left ≡ slice ++ rest
  pub some : 0 < length slice
  pub few : length slice ≤ most
  pub small : request_length queue slice ≤ LONGEST_COMMAND
  pub full : (next : Bytes) (more : List Bytes) → length slice < most → rest ≡ next ∷ more → LONGEST_COMMAND < request_length queue (slice ++ next ∷ [])

-- A request was answered with a number.
abbrev pub is_counted : Result Reply LinkFault → Bool
is_counted (Ok r) = is_number r
is_counted (Err f) = false

-- The calls push the texts, up to these that are left: each the next slice, and each accepted with a number.
abbrev pub PushesSlices : Bytes → ℕ → List Bytes → List Call → List Bytes → Type 0
PushesSlices queue most texts [] left = left ≡ texts
PushesSlices queue most texts (call ∷ calls) left =
    (slice rest : List Bytes) × IsSlice queue most texts slice rest × (call.request ≡ lpush_words queue slice) × (is_counted call.reply ≡ true)
    × PushesSlices queue most rest calls left

-- The link carried calls that push the first so many of the texts, slice by slice.
abbrev pub PushesFirst : (List Call → Type 0) → Bytes → ℕ → List Bytes → ℕ → Type 0
PushesFirst Carried queue most texts sent = (calls : List Call) × Carried calls × (sent ≤ length texts) × PushesSlices queue most texts calls (drop sent texts)

-- It carried such calls, and then the request of the next slice, of which this came.
pub record EndsAtSlice (Carried : List Call → Type 0) (queue : Bytes) (most : ℕ) (texts : List Bytes) (sent : ℕ) (reply : Result Reply LinkFault) : Type 0 where
  pub calls : List Call
  pub slice : List Bytes
  pub rest : List Bytes
  pub within : sent ≤ length texts
  pub pushed : PushesSlices queue most texts calls (drop sent texts)
  pub next : IsSlice queue most (drop sent texts) slice rest
  pub carried : Carried (calls ++ record { request = lpush_words queue slice; reply = reply } ∷ [])

-- What ended a push of texts that are built, when so many of them were pushed: the request of the next slice was lost, or its reply is no number; or
-- there was no memory for it, and it wasn't sent.
abbrev pub StopsAt : (List Call → Type 0) → Bytes → ℕ → List Bytes → ℕ → ClientFault → Type 0
StopsAt Carried queue most texts sent (fault.Draft f) = ⊥
StopsAt Carried queue most texts sent (fault.Link f) = EndsAtSlice Carried queue most texts sent (Err f)
StopsAt Carried queue most texts sent (fault.Refused r) = EndsAtSlice Carried queue most texts sent (Ok r) × (is_number r ≡ false)
StopsAt Carried queue most texts sent (fault.Held jid) = ⊥
StopsAt Carried queue most texts sent fault.Memory = PushesFirst Carried queue most texts sent

-- Every draft was built, and every text was pushed.
abbrev pub PushesAll : (List Call → Type 0) → List JobDraft → ℕ → ℕ → Type 0
PushesAll Carried drafts most sent = AreBuilt drafts × (sent ≡ length drafts) × PushesFirst Carried (queue_of drafts) most (texts drafts) sent

-- nothing was sent
abbrev pub SendsNone : (List Call → Type 0) → ℕ → Type 0
SendsNone Carried sent = Carried [] × (sent ≡ 0)

-- Every draft was built, and so many of the texts, the first ones, were pushed; then it ended.
abbrev pub StopsBuilt : (List Call → Type 0) → List JobDraft → ℕ → ℕ → ClientFault → Type 0
StopsBuilt Carried drafts most sent f = AreBuilt drafts × StopsAt Carried (queue_of drafts) most (texts drafts) sent f

-- The first draft that can't be built has that fault, and nothing was sent. Or all were built, and it ended at a slice. There may be no memory for the
-- texts, when nothing was sent, or for a request once all are built.
abbrev pub FailsAt : (List Call → Type 0) → List JobDraft → ℕ → ℕ → ClientFault → Type 0
FailsAt Carried drafts most sent (fault.Draft f) = IsFirstFault drafts f × SendsNone Carried sent
FailsAt Carried drafts most sent (fault.Link f) = StopsBuilt Carried drafts most sent (fault.Link f)
FailsAt Carried drafts most sent (fault.Refused r) = StopsBuilt Carried drafts most sent (fault.Refused r)
FailsAt Carried drafts most sent (fault.Held jid) = ⊥
FailsAt Carried drafts most sent fault.Memory = SendsNone Carried sent ⊎ StopsBuilt Carried drafts most sent fault.Memory
