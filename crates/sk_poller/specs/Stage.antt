-- The turn of a poller as a table: what is asked at each stage, and where each event leads.
use Rattle.std.specs.Prelude.{◌≡◌, ◌≤◌, ◌<◌, ◌+◌, ◌*◌, ◌^◌, ◌∷◌, ◌++◌, [], ℕ, ℤ, Bool, true, false, min, length, List, Option, Some, None, option_map, Result, Ok, Err, IfOk, codes, if◌then◌else◌}
use Rattle.sk_base.specs.Score.{last_moment}
use Rattle.sk_base.specs.Yields.{YieldsAll}
use Rattle.sk_base.specs.declared.limits.TheConstants.{MOST_REPORTED}
use Rattle.sk_resp.specs.Spelling.{Bytes}
use Rattle.sk_resp.specs.declared.reply.Reply.{Reply}
use Rattle.sk_link.specs.Asking.{is_okay}
use Rattle.sk_link.specs.Call.{Call, answered, lost}
use Rattle.sk_link.specs.Report.{report_of}
use Rattle.sk_link.specs.Walk.{Walk}
use Rattle.sk_link.specs.declared.link.LinkFault.{LinkFault}
use Rattle.sk_cron.specs.Slot.{IsLastSlot}
use Rattle.sk_poller.specs.Counts.{add_due, add_pushed, add_rescued, nothing}
use Rattle.sk_poller.specs.Event.{Event, asked, calls, drew, moments, read, slot, words}
use Rattle.sk_poller.specs.Loop.{Remaining, job_text}
use Rattle.sk_poller.specs.Passed.{is_passed, lead_of}
use Rattle.sk_poller.specs.Request.{beat_words, cron_words, due_words, lead_words, rescue_words}
use Rattle.sk_poller.specs.declared.poller.Loop.{Loop}
use Rattle.sk_poller.specs.declared.poller.Poller.{Poller}
use Rattle.sk_poller.specs.declared.report.PollFault.{PollFault}
use Rattle.sk_poller.specs.declared.report.PollFault.TheVariants as fault
use Rattle.sk_poller.specs.declared.report.PollReport.{PollReport}
use Rattle.sk_poller.specs.declared.stage.Stage.{Stage}
use Rattle.sk_poller.specs.declared.stage.Stage.TheVariants.{Resting, Beating, Scheduled, Retries, Rescuing, Leading, Looking, Due, Pushing, Over}

-- who polls
pub record Watch : Type 0 where
  pub ident : Bytes
  pub loops : List Loop
  -- how many minutes the clock is ahead of UTC
  pub offset : ℤ

abbrev pub watch_of : Poller → Watch
watch_of p = record { ident = p.ident; loops = p.loops.items; offset = p.offset }

-- where a turn begins
abbrev pub resting : Stage
resting = Resting

-- a look at the next of these loops, or the end
abbrev pub next_loop : ℕ → List Loop → PollReport → Stage
next_loop now_ [] n = Over n
next_loop now_ (l ∷ loops) n = Looking now_ (record { first = l; rest = loops }) n

-- ## The table: what is asked, and where a reply leads

abbrev pub request_at : Bytes → Stage → Option (List Bytes)
request_at ident (Beating now_) = Some (beat_words ident)
request_at ident (Scheduled now_ n) = Some (due_words (codes "schedule"))
request_at ident (Retries now_ n) = Some (due_words (codes "retry"))
request_at ident (Rescuing now_ n) = Some rescue_words
request_at ident (Leading now_ n) = Some (lead_words ident)
request_at ident (Pushing now_ last job loops n) = Some (cron_words ident loops.first last job)
request_at ident stage = None

-- None: the stage wants another reply.
abbrev pub after : List Loop → Stage → Reply → Option Stage
after all (Beating now_) r = if is_okay r then Some (Scheduled now_ nothing) else None
after all (Scheduled now_ n) r = option_map (λ report. Retries now_ (add_due n report)) (report_of r)
after all (Retries now_ n) r = option_map (λ report. Rescuing now_ (add_due n report)) (report_of r)
after all (Rescuing now_ n) r = option_map (λ report. Leading now_ (add_rescued n report)) (report_of r)
after all (Leading now_ n) r = option_map (λ leads. if leads then next_loop now_ all n else Over n) (lead_of r)
after all (Pushing now_ last job loops n) r =
    if is_okay r then Some (next_loop now_ loops.rest (add_pushed n)) else if is_passed r then Some (next_loop now_ loops.rest n) else None
after all stage r = None

-- where the last slot of the loop at hand leads; None: it has none of the last ten minutes
abbrev pub looked : ℕ → Remaining → PollReport → Option ℕ → Stage
looked now_ loops n None = next_loop now_ loops.rest n
looked now_ loops n (Some last) = Due now_ last loops n

-- ## Where each event leads

pub data Step (w : Watch) : Stage → Event → Stage → Type 0 where
  reads : (now_ : ℕ) → Step w Resting (read now_) (Beating now_)
  asks : (from next : Stage) (request : List Bytes) (r : Reply) → request_at w.ident from ≡ Some request → after w.loops from r ≡ Some next →
      Step w from (asked (answered request r)) next
  looks : (now_ : ℕ) (loops : Remaining) (n : PollReport) (last : Option ℕ) → IsLastSlot loops.first.cron w.offset (min now_ last_moment) last →
      Step w (Looking now_ loops n) (slot last) (looked now_ loops n last)
  draws : (now_ last : ℕ) (loops : Remaining) (n : PollReport) (first second : ℕ) →
      Step w (Due now_ last loops n) (drew first second) (Pushing now_ last (job_text loops.first first second now_) loops n)

-- ## Turns

-- The events lead to a stage, and the last of them is its request, of which this came: no reply that leads on.
pub record Ends (w : Watch) (from : Stage) (events : List Event) (reply : Result Reply LinkFault) : Type 0 where
  pub done : List Event
  pub stage : Stage
  pub walk : Walk (Step w) from done stage
  pub request : List Bytes
  pub asks_it : request_at w.ident stage ≡ Some request
  pub refused : IfOk reply (λ r. after w.loops stage r ≡ None)
  pub are : events ≡ done ++ asked (record { request = request; reply = reply }) ∷ []

-- The events are those of a turn, from this stage on: to its end with this report, or as far as they came.
abbrev pub PollTranscript : Watch → Stage → List Event → Result PollReport PollFault → Type 0
PollTranscript w from events (Ok n) = Walk (Step w) from events (Over n)
PollTranscript w from events (Err (fault.Link f)) = Ends w from events (Err f)
PollTranscript w from events (Err (fault.Refused r)) = Ends w from events (Ok r)
PollTranscript w from events (Err fault.Memory) = (stage : Stage) × Walk (Step w) from events stage

-- Each of the objects that a turn meets has its part in the events: the link, the clock and the dice.
pub record Parts (OfLink : List Call → Type 0) (OfClock OfDice : List ℕ → Type 0) (events : List Event) : Type 0 where
  pub link : OfLink (calls events)
  pub clock : OfClock (moments events)
  pub dice : OfDice (words events)

-- A whole turn came to this result, over a link that carried these calls, a clock and a dice.
pub record PollTurn (Carried : List Call → Type 0) (clock clock_now dice dice_now : Option (ℕ → ℕ)) (w : Watch)
    (result : Result PollReport PollFault) : Type 0 where
  pub events : List Event
  pub parts : Parts Carried (λ ms. YieldsAll clock ms clock_now) (λ ws. YieldsAll dice ws dice_now) events
  pub told : PollTranscript w resting events result

-- The poller took a turn with this result, and link, clock and dice came from the one state to the other.
abbrev pub Polls : {Link : Type 0} → (Link → Link → List Call → Type 0) → Link → Link → Option (ℕ → ℕ) → Option (ℕ → ℕ) → Option (ℕ → ℕ)
    → Option (ℕ → ℕ) → Poller → Result PollReport PollFault → Type 0
Polls Carried link link_now clock clock_now dice dice_now p result =
    PollTurn (Carried link link_now) clock clock_now dice dice_now (watch_of p) result

-- The link lost a request.
abbrev pub is_lost : Result PollReport PollFault → Bool
is_lost (Err (fault.Link f)) = true
is_lost result = false

-- ## Parts of a turn

-- What came of a stage's request, where there was memory for it.
abbrev pub Answers : (List Call → Type 0) → Watch → Stage → Result Stage PollFault → Type 0
Answers Carried w from (Ok next) =
    (request : List Bytes) × (r : Reply) × Step w from (asked (answered request r)) next × Carried (answered request r ∷ [])
Answers Carried w from (Err (fault.Link f)) = (request : List Bytes) × (request_at w.ident from ≡ Some request) × Carried (lost request f ∷ [])
Answers Carried w from (Err (fault.Refused r)) =
    (request : List Bytes) × (request_at w.ident from ≡ Some request) × (after w.loops from r ≡ None) × Carried (answered request r ∷ [])
Answers Carried w from (Err fault.Memory) = Carried []

-- A job of the loop was made with two words of the dice.
abbrev pub Draws : {E : Type 0} → Option (ℕ → ℕ) → Option (ℕ → ℕ) → Loop → ℕ → Result Bytes E → Type 0
Draws before after_ l now_ result =
    (first second : ℕ) × YieldsAll before (first ∷ second ∷ []) after_ × IfOk result (λ job. job ≡ job_text l first second now_)

-- No count can pass 2^64 - 1.
abbrev pub HasRoom : Stage → Type 0
HasRoom (Scheduled now_ n) = n ≡ nothing
HasRoom (Retries now_ n) = (n.promoted ≤ MOST_REPORTED) × (n.buried ≤ MOST_REPORTED) × (n.rescued ≡ 0) × (n.pushed ≡ 0)
HasRoom (Rescuing now_ n) = (n.buried ≤ 2 * MOST_REPORTED) × (n.rescued ≡ 0) × (n.pushed ≡ 0)
HasRoom (Leading now_ n) = n.pushed ≡ 0
HasRoom (Looking now_ loops n) = n.pushed + length loops.rest + 1 < 2 ^ 64
HasRoom (Due now_ last loops n) = n.pushed + length loops.rest + 1 < 2 ^ 64
HasRoom (Pushing now_ last job loops n) = n.pushed + length loops.rest + 1 < 2 ^ 64
HasRoom stage = Unit {0}
