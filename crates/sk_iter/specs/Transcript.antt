-- The transcript of a call of `iterate`: the events, and the result.
use Rattle.std.specs.Prelude.{◌≡◌, ◌∷◌, [], ℕ, Bool, List, Option, Result, Ok, Err, true, false}
use Rattle.sk_resp.specs.Spelling.{Bytes}
use Rattle.sk_resp.specs.declared.reply.Reply.{Reply}
use Rattle.sk_link.specs.Asking.{is_popped}
use Rattle.sk_link.specs.Call.{Call, answered, lost}
use Rattle.sk_iter.specs.Cursor.{IsCursor}
use Rattle.sk_iter.specs.Deeds.{whole}
use Rattle.sk_iter.specs.Ends.{StopsAt}
use Rattle.sk_iter.specs.Event.{Did, Event, ItemRun, asked}
use Rattle.sk_iter.specs.Performs.{EndsIn}
use Rattle.sk_iter.specs.Reads.{IsNoCursor}
use Rattle.sk_iter.specs.Request.{get_words}
use Rattle.sk_iter.specs.declared.call.Bounds.{Bounds}
use Rattle.sk_iter.specs.declared.iter_end.IterEnd.{IterEnd}
use Rattle.sk_iter.specs.declared.iter_end.IterFault.{IterFault}
use Rattle.sk_iter.specs.declared.iter_end.IterFault.TheVariants as fault
use Rattle.sk_iter.specs.declared.iteration.Iteration.{Iteration}

-- The end is this one, where there is an end.
abbrev pub IsEnd : Result IterEnd IterFault → IterEnd → Type 0
IsEnd (Ok found) end = found ≡ end
IsEnd (Err f) end = Unit {0}

-- The call read its cursor from this reply. Behind that it did what a call does of which `n` items return and that stops so, or a front of it.
pub record IsCall (jid : Bytes) (b : Bounds) (events : List Event) (result : Result IterEnd IterFault) : Type 0 where
  pub reply : Reply
  pub cursor : ℕ
  pub is_cursor : IsCursor b.len reply cursor
  pub behind : List Event
  pub are : events ≡ asked (answered (get_words jid) reply) ∷ behind
  pub n : ℕ
  pub end : IterEnd
  pub stops : StopsAt b cursor n end
  pub ended : IsEnd result end
  pub ends : EndsIn jid (whole (record { jid = jid; every = b.every; cursor = cursor }) n end) behind result

-- It ended at its GET.
abbrev pub IsUnread : Bytes → Bounds → List Event → Result IterEnd IterFault → Type 0
IsUnread jid b events (Ok end) = ⊥
IsUnread jid b events (Err (fault.Cursor r)) =
    (events ≡ asked (answered (get_words jid) r) ∷ []) × (is_popped r ≡ true) × IsNoCursor b.len r
IsUnread jid b events (Err (fault.Refused r)) = (events ≡ asked (answered (get_words jid) r) ∷ []) × (is_popped r ≡ false)
IsUnread jid b events (Err (fault.Link f)) = events ≡ asked (lost (get_words jid) f) ∷ []
IsUnread jid b events (Err fault.Memory) = events ≡ []

pub data Transcript (jid : Bytes) (b : Bounds) (events : List Event) (result : Result IterEnd IterFault) : Type 0 where
  unread : IsUnread jid b events result → Transcript jid b events result
  read : IsCall jid b events result → Transcript jid b events result

-- the end of an iteration, without the cursor that it read
abbrev pub end_in : Result Iteration IterFault → Result IterEnd IterFault
end_in (Ok i) = Ok i.end
end_in (Err f) = Err f

-- It is the transcript of this iteration, which read its cursor, or of a call without an end.
abbrev pub ReadsFrom : Bytes → Bounds → List Event → Result Iteration IterFault → Type 0
ReadsFrom jid b events (Ok i) = (call : IsCall jid b events (Ok i.end)) × (call.cursor ≡ i.cursor)
ReadsFrom jid b events (Err f) = Transcript jid b events (Err f)

-- The link lost a request.
abbrev pub is_lost : Result IterEnd IterFault → Bool
is_lost (Ok end) = false
is_lost (Err (fault.Cursor r)) = false
is_lost (Err (fault.Link f)) = true
is_lost (Err (fault.Refused r)) = false
is_lost (Err fault.Memory) = false

-- how far a call goes, and how often it saves
abbrev pub reach : ℕ → ℕ → ℕ → Bounds
reach len every most = record { len = len; every = every; most = most }

-- A call on this job came to this result, over a link that carried these calls, and with items that tell their runs.
abbrev pub Iterates : (List Call → Type 0) → Option (List ItemRun) → Option (List ItemRun) → Bytes → Bounds → Result IterEnd IterFault → Type 0
Iterates Carried before after jid b result = (events : List Event) × Did Carried before after events × Transcript jid b events result

-- The same of an iteration, with its cursor.
abbrev pub GoesOn : (List Call → Type 0) → Option (List ItemRun) → Option (List ItemRun) → Bytes → Bounds → Result Iteration IterFault → Type 0
GoesOn Carried before after jid b result = (events : List Event) × Did Carried before after events × ReadsFrom jid b events result
