-- Grants in a window, as a table: what is sent at each stage, and where a reply leads.
use Rattle.std.specs.Prelude.{◌≡◌, ◌↔◌, ◌==◌, ℕ, ℤ, pos, negsuc, ◌≤ℤ◌, Bool, true, false, List, [], Result, Ok, Err, codes, if◌then◌else◌}
use Rattle.std.specs.Bool.{MatchBool}
use Rattle.sk_resp.specs.Spelling.{Bytes}
use Rattle.sk_resp.specs.declared.reply.Reply.{Reply}
use Rattle.sk_resp.specs.declared.reply.Reply.TheVariants as reply
use Rattle.sk_link.specs.Asking.{answers}
use Rattle.sk_link.specs.Call.{Call, answered}
use Rattle.sk_link.specs.Walk.{Walk}
use Rattle.sk_link.specs.declared.asking.Answer.{Answer}
use Rattle.sk_link.specs.declared.asking.Answer.TheVariants as answer
use Rattle.sk_limit.specs.Asking.{Stops, number_in}
use Rattle.sk_limit.specs.Limiter.{is_limiter}
use Rattle.sk_limit.specs.Requests.{bucket_key, count_words, expire_words, left_words, set_words}
use Rattle.sk_limit.specs.declared.limit_fault.LimitFault.{LimitFault}
use Rattle.sk_limit.specs.declared.stage.Next.{Next}
use Rattle.sk_limit.specs.declared.stage.Next.TheVariants.{Ask, Over}
use Rattle.sk_limit.specs.declared.stage.Stage.{Stage}
use Rattle.sk_limit.specs.declared.stage.Stage.TheVariants.{Opening, Counting, Looking, Bounding}

-- a window: its key, and how long it is
pub record Window : Type 0 where
  pub key : Bytes
  pub millis : ℕ

-- ## The table

abbrev pub request_at : Window → Stage → List Bytes
request_at window Opening = set_words window.key (codes "0") window.millis
request_at window (Counting fresh) = count_words window.key
request_at window (Looking count) = left_words window.key
request_at window (Bounding count) = expire_words window.key window.millis

-- SET is answered `+OK` or null, and the others by a number.
abbrev pub wanted_at : Stage → Answer
wanted_at Opening = answer.OkayOrNull
wanted_at stage = answer.Number

abbrev pub is_new : Reply → Bool
is_new reply.Null = false
is_new r = true

-- behind INCRBY: a window that was there may have no end
abbrev pub counted : Bool → ℤ → Next
counted fresh count = if fresh then Over count else Ask (Looking count)

abbrev pub is_endless : ℤ → Bool
is_endless (pos n) = false
is_endless (negsuc n) = n == 0

-- behind PTTL: at -1 the window has none
abbrev pub looked : ℤ → ℤ → Next
looked count left = if is_endless left then Ask (Bounding count) else Over count

-- where a reply of the kind wanted leads
abbrev pub after : Stage → Reply → Next
after Opening r = Ask (Counting (is_new r))
after (Counting fresh) r = counted fresh (number_in r)
after (Looking count) r = looked count (number_in r)
after (Bounding count) r = Over count

pub data Step (window : Window) : Next → Call → Next → Type 0 where
  asks : (stage : Stage) (r : Reply) → answers (wanted_at stage) r ≡ true → Step window (Ask stage) (answered (request_at window stage) r) (after stage r)

-- ## What each answer says

-- The answered calls lead from the opening to this point, and the link carried them.
pub record Leads (Carried : List Call → Type 0) (window : Window) (next : Next) : Type 0 where
  pub calls : List Call
  pub walk : Walk (Step window) (Ask Opening) calls next
  pub carried : Carried calls

-- The answered calls lead to a stage, whose request ended the call.
pub record Breaks (Carried : List Call → Type 0) (window : Window) (f : LimitFault) : Type 0 where
  pub calls : List Call
  pub stage : Stage
  pub walk : Walk (Step window) (Ask Opening) calls (Ask stage)
  pub stops : Stops Carried calls (request_at window stage) (wanted_at stage) f

-- the count that INCRBY answered, or what ended the calls
abbrev pub Counts : (List Call → Type 0) → Window → Result ℤ LimitFault → Type 0
Counts Carried window (Ok count) = Leads Carried window (Over count)
Counts Carried window (Err f) = Breaks Carried window f

abbrev pub window_of : Bytes → ℕ → Window
window_of name millis = record { key = bucket_key name; millis = millis }

-- Granted is exactly a count from 1 to the most.
abbrev pub Granted : (List Call → Type 0) → Window → ℕ → Result Bool LimitFault → Type 0
Granted Carried window most (Ok granted) = (count : ℤ) × Leads Carried window (Over count) × ((granted ≡ true) ↔ (pos 1 ≤ℤ count) × (count ≤ℤ pos most))
Granted Carried window most (Err f) = Breaks Carried window f

-- Where the name or the numbers are none of a limiter, nothing is sent.
abbrev pub Grants : (List Call → Type 0) → Bytes → ℕ → ℕ → Result Bool LimitFault → Type 0
Grants Carried name most millis result = MatchBool (is_limiter name most millis) (Granted Carried (window_of name millis) most result) (Carried [])
