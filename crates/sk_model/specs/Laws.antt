-- What holds of every run of events.
use Rattle.std.specs.Prelude.{◌≡◌, ◌==◌, ◌⊎◌, ℕ, ℤ, ◌+◌, List, [], ◌∷◌, Bool, true, false, ◌&&◌, cond, Option, Some, Ok}
use Rattle.std.specs.List.{list_all, list_any}
use Rattle.std.specs.Str.{bytes_eq}
use Rattle.sk_resp.specs.Spelling.{Bytes}
use Rattle.sk_resp.specs.declared.reply.Reply.{Reply}
use Rattle.sk_resp.specs.declared.reply.Reply.TheVariants as reply
use Rattle.sk_resp.specs.declared.say.Say.TheVariants as say
use Rattle.sk_cmd.specs.Table.{IsRead}
use Rattle.sk_cmd.specs.declared.command.Command.TheVariants as command
use Rattle.sk_cmd.specs.declared.command.ScriptCommand.TheVariants as script
use Rattle.sk_leases.specs.Leased.{holder_at, is_led_by_another}
use Rattle.sk_value.specs.Answer.{counted}
use Rattle.sk_model.specs.Causes.{IsSlot}
use Rattle.sk_payload.specs.Head.{head}
use Rattle.sk_payload.specs.declared.head.Head.{Head}
use Rattle.sk_model.specs.declared.limits.Limits.{Limits}
use Rattle.sk_places.specs.declared.row.Place.TheVariants.{Private}
use Rattle.sk_places.specs.declared.row.Row.{Row}
use Rattle.sk_places.specs.Rows.{is_same, row_at}
use Rattle.sk_seats.specs.declared.phase.Phase.{Phase}
use Rattle.sk_seats.specs.declared.phase.Phase.TheVariants.{Plain, Joined}
use Rattle.sk_seats.specs.Works.{is_done_as}
use Rattle.sk_model.specs.World.{World, first, phase_of}
use Rattle.sk_model.specs.Change.{Add, Take, Trim, Merge, PutBack, Free, Change, Moves, Passes, TakesSlot, changed}
use Rattle.sk_payload.specs.Digest.{digest}
use Rattle.sk_model.specs.Event.{Event, Ask, Cut, Run, Step, after}
use Rattle.sk_model.specs.Outcome.{Outcome}
use Rattle.sk_model.specs.Life.{Life, Unborn, Kept, Balanced, Knows, is_distinct, life_through}

-- ## Every live job stands

-- After each step every live job is kept, where the jobs had these lives before.
abbrev pub ConserveFrom : World → (Bytes → Life) → List Step → Type 0
ConserveFrom w lives [] = Unit {0}
ConserveFrom w lives (step ∷ steps) =
    let now : Bytes → Life = λ jid. life_through w jid (lives jid) step.outcome.changes in
    Kept (after w step) now × ConserveFrom (after w step) now steps

-- It is so from the first world on, before which no job was born.
abbrev pub LiveJobsStand : Limits → List Step → Type 0
LiveJobsStand limits steps = ConserveFrom (first limits) (λ jid. Unborn) steps

-- After every step of every run each live job stands, and is kept while a worker has it in its hands.
abbrev pub Conserve : Type 0
Conserve = (limits : Limits) (steps : List Step) → Run (first limits) steps → LiveJobsStand limits steps

-- ## Every pushed row is accounted for

-- Each row that was ever pushed had no head, or wasn't a fresh push of its job, or is of a job that is live now or has ended, each job counted
-- once. The jobs that count as live are those whose life is Live.
pub record Tallied (w : World) (lives : Bytes → Life) : Type 0 where
  pub balanced : Balanced w
  pub once : is_distinct w.live ≡ true
  pub known : (jid : Bytes) → Knows w jid (lives jid)

abbrev pub BalanceFrom : World → (Bytes → Life) → List Step → Type 0
BalanceFrom w lives [] = Unit {0}
BalanceFrom w lives (step ∷ steps) =
    let now : Bytes → Life = λ jid. life_through w jid (lives jid) step.outcome.changes in
    Tallied (after w step) now × BalanceFrom (after w step) now steps

abbrev pub Balance : Type 0
Balance = (limits : Limits) (steps : List Step) → Run (first limits) steps → BalanceFrom (first limits) (λ jid. Unborn) steps

-- ## Every text stands as often as it was brought and not taken

-- Brought is a text that was pushed, or put back by a worker. Taken is a row that a client's command took away, that a worker released, that was
-- trimmed from the dead set, or that became one with another row of its text.

-- how many of the rows have the text
abbrev pub copies_in : Bytes → List Row → ℕ
copies_in text [] = 0
copies_in text (row ∷ rows) = cond (bytes_eq text row.text) 1 0 + copies_in text rows

abbrev pub copies : Bytes → World → ℕ
copies text w = copies_in text w.rows

-- how many of the changes bring the text
abbrev pub pushed_by : Bytes → Change → ℕ
pushed_by text (Moves (Add row end from)) = cond (bytes_eq text row.text) 1 0
pushed_by text (Moves (PutBack row)) = cond (bytes_eq text row.text) 1 0
pushed_by text other = 0

abbrev pub pushed : Bytes → List Change → ℕ
pushed text [] = 0
pushed text (change ∷ changes) = pushed_by text change + pushed text changes

-- a row of the text stands in the private list
abbrev pub is_listed : World → Bytes → Bytes → Bool
is_listed w ident text = list_any (is_same (row_at (Private ident) text)) w.rows

-- whether the release of a job by a seat in this phase takes a row of the text
abbrev pub freed_by : Bytes → Bytes → World → Phase → ℕ
freed_by text freed w Plain = 0
freed_by text freed w (Joined ident works) = cond (list_any (is_done_as freed) works && (bytes_eq text freed && is_listed w ident freed)) 1 0

-- how many of the changes of this world take it away
abbrev pub taken_by : Bytes → World → Change → ℕ
taken_by text w (Moves (Take row from)) = cond (bytes_eq text row.text) 1 0
taken_by text w (Moves (Trim row)) = cond (bytes_eq text row.text) 1 0
taken_by text w (Moves (Merge row)) = cond (bytes_eq text row.text) 1 0
taken_by text w (Moves (Free seat freed)) = freed_by text freed w (phase_of w seat)
taken_by text w other = 0

abbrev pub taken : Bytes → World → List Change → ℕ
taken text w [] = 0
taken text w (change ∷ changes) = taken_by text w change + taken text (changed w change) changes

-- After each step the rows of a text and those that were taken are together as many as were brought, where so many were brought and taken before.
abbrev pub CopiesKeptFrom : World → (Bytes → ℕ) → (Bytes → ℕ) → List Step → Type 0
CopiesKeptFrom w before gone [] = Unit {0}
CopiesKeptFrom w before gone (step ∷ steps) =
    let all : Bytes → ℕ = λ text. pushed text step.outcome.changes + before text in
    let lost : Bytes → ℕ = λ text. taken text w step.outcome.changes + gone text in
    ((text : Bytes) → copies text (after w step) + lost text ≡ all text) × CopiesKeptFrom (after w step) all lost steps

abbrev pub CopiesKept : Type 0
CopiesKept = (limits : Limits) (steps : List Step) → Run (first limits) steps → CopiesKeptFrom (first limits) (λ text. 0) (λ text. 0) steps

-- ## A lock has one holder

-- the job that holds the lock under the digest once the store is handed the moment
abbrev pub holder_then : Bytes → ℕ → World → Option Bytes
holder_then digest now w = let v : World = changed w (Passes now) in holder_at digest v.moment v.leases

-- one of the store's refusals, or `-OOM`
abbrev pub is_refusal : Reply → Bool
is_refusal (reply.Say (say.Refused refusal)) = true
is_refusal (reply.Say say.Oom) = true
is_refusal other = false

abbrev pub is_time : Change → Bool
is_time (Passes now) = true
is_time other = false

-- The reply names the holder or is a refusal, and time alone goes on.
pub record IsTurnedAway (holder : Bytes) (o : Outcome) : Type 0 where
  pub reply : (o.reply ≡ reply.Bulk holder) ⊎ (is_refusal o.reply ≡ true)
  pub still : list_all is_time o.changes ≡ true

-- While a lock stands, an SK.UPUSH of a job with its digest is turned away.
abbrev pub KeepsHolder : World → Event → Outcome → Type 0
KeepsHolder w (Ask seat now words) o = (text : Bytes) (score : Option ℤ) (h : Head) (holder : Bytes)
    → IsRead words (Ok (command.Script (script.Upush text score))) → head text ≡ Some h → holder_then (digest h) now w ≡ Some holder → IsTurnedAway holder o
KeepsHolder w (Cut seat) o = Unit {0}

abbrev pub OneHolderFrom : World → List Step → Type 0
OneHolderFrom w [] = Unit {0}
OneHolderFrom w (step ∷ steps) = KeepsHolder w step.event step.outcome × OneHolderFrom (after w step) steps

-- It is so at every step of every run.
abbrev pub OneHolder : Type 0
OneHolder = (limits : Limits) (steps : List Step) → Run (first limits) steps → OneHolderFrom (first limits) steps

-- ## One process leads

-- The reply is 0 or a refusal, and time alone goes on.
pub record IsNotLed (o : Outcome) : Type 0 where
  pub reply : (o.reply ≡ counted 0) ⊎ (is_refusal o.reply ≡ true)
  pub still : list_all is_time o.changes ≡ true

-- While one process leads, no other one comes to.
abbrev pub KeepsLeader : World → Event → Outcome → Type 0
KeepsLeader w (Ask seat now words) o = (ident : Bytes) → IsRead words (Ok (command.Script (script.Lead ident)))
    → is_led_by_another ident (changed w (Passes now)).moment (changed w (Passes now)).leases ≡ true → IsNotLed o
KeepsLeader w (Cut seat) o = Unit {0}

abbrev pub OneLeaderFrom : World → List Step → Type 0
OneLeaderFrom w [] = Unit {0}
OneLeaderFrom w (step ∷ steps) = KeepsLeader w step.event step.outcome × OneLeaderFrom (after w step) steps

abbrev pub OneLeader : Type 0
OneLeader = (limits : Limits) (steps : List Step) → Run (first limits) steps → OneLeaderFrom (first limits) steps

-- ## Slots rise

-- the change gives the loop this slot
abbrev pub is_mark : Bytes → ℕ → Change → Bool
is_mark loop slot (TakesSlot other number text) = bytes_eq other loop && (number == slot)
is_mark loop slot other = false

-- Each slot that a loop gets is above its last one. The leader of that moment sent it, and it was open.
abbrev pub SlotsRiseFrom : World → List Step → Type 0
SlotsRiseFrom w [] = Unit {0}
SlotsRiseFrom w (step ∷ steps) = ((loop : Bytes) (slot : ℕ) → list_any (is_mark loop slot) step.outcome.changes ≡ true → (text : Bytes) × IsSlot w loop slot text step.event) × SlotsRiseFrom (after w step) steps

abbrev pub SlotsRise : Type 0
SlotsRise = (limits : Limits) (steps : List Step) → Run (first limits) steps → SlotsRiseFrom (first limits) steps
