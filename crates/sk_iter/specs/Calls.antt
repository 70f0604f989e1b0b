-- Calls of `iterate` on one job, one after another, each over its end or cut off anywhere.
use Rattle.std.specs.Prelude.{◌≡◌, ◌≤◌, ◌<◌, ◌++◌, ◌∷◌, ℕ, List, Option, Some, None, Result}
use Rattle.sk_resp.specs.Spelling.{Bytes}
use Rattle.sk_resp.specs.declared.reply.Reply.{Reply}
use Rattle.sk_link.specs.Call.{answered}
use Rattle.sk_iter.specs.Cursor.{IsCursor}
use Rattle.sk_iter.specs.Event.{Event, asked}
use Rattle.sk_iter.specs.Request.{get_words}
use Rattle.sk_iter.specs.Transcript.{Transcript}
use Rattle.sk_iter.specs.declared.call.Bounds.{Bounds}
use Rattle.sk_iter.specs.declared.call.TheConstants.{MOST_EVERY, MOST_ITEMS}
use Rattle.sk_iter.specs.declared.iter_end.IterEnd.{IterEnd}
use Rattle.sk_iter.specs.declared.iter_end.IterFault.{IterFault}

pub record IterCall : Type 0 where
  pub bounds : Bounds
  pub events : List Event
  -- the cursor that it read, where it read one
  pub cursor : Option ℕ
  -- None: it was cut off before it had a result
  pub result : Option (Result IterEnd IterFault)

-- The events begin with a GET that was answered by this cursor.
pub record Reads (jid : Bytes) (b : Bounds) (events : List Event) (cursor : ℕ) : Type 0 where
  pub reply : Reply
  pub behind : List Event
  pub are : events ≡ asked (answered (get_words jid) reply) ∷ behind
  pub is_cursor : IsCursor b.len reply cursor

abbrev pub HasRead : Bytes → Bounds → List Event → Option ℕ → Type 0
HasRead jid b events (Some cursor) = Reads jid b events cursor
HasRead jid b events None = (cursor : ℕ) → Reads jid b events cursor → ⊥

-- The events are those of a call with this result, or where it was cut off a front of some call's.
abbrev pub IsTold : Bytes → Bounds → List Event → Option (Result IterEnd IterFault) → Type 0
IsTold jid b events (Some result) = Transcript jid b events result
IsTold jid b events None = (more : List Event) × (result : Result IterEnd IterFault) × Transcript jid b (events ++ more) result

-- It is a call on the job.
pub record IsCallOn (jid : Bytes) (call : IterCall) : Type 0 where
  pub told : IsTold jid call.bounds call.events call.result
  pub read : HasRead jid call.bounds call.events call.cursor
  pub some : 1 ≤ call.bounds.every
  pub few : call.bounds.every ≤ MOST_EVERY
  pub len : call.bounds.len < MOST_ITEMS
