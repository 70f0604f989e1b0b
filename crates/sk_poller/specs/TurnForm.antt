-- A whole turn as the list of its events: five requests, and then at most one SK.CRON for each loop, in order.
use Rattle.std.specs.Prelude.{◌≡◌, ◌+◌, ◌∷◌, ◌++◌, ◌&&◌, ◌||◌, [], ℕ, Bool, true, false, min, length, List, Option, Some, None, Result, Ok, Err, codes, bytes_eq, if◌then◌else◌}
use Rattle.sk_base.specs.Score.{last_moment}
use Rattle.sk_resp.specs.Spelling.{Bytes}
use Rattle.sk_resp.specs.declared.reply.Reply.{Reply}
use Rattle.sk_link.specs.Asking.{is_okay}
use Rattle.sk_link.specs.Call.{Call, answered}
use Rattle.sk_link.specs.Report.{report_of}
use Rattle.sk_link.specs.declared.link.LinkFault.{LinkFault}
use Rattle.sk_link.specs.declared.report.Report.{Report}
use Rattle.sk_cron.specs.Slot.{IsLastSlot}
use Rattle.sk_poller.specs.Event.{Event, asked, calls, drew, moments, read, slot}
use Rattle.sk_poller.specs.Loop.{job_text}
use Rattle.sk_poller.specs.Passed.{is_passed, lead_of}
use Rattle.sk_poller.specs.Request.{beat_words, cron_words, due_words, lead_words, rescue_words}
use Rattle.sk_poller.specs.Stage.{Watch}
use Rattle.sk_poller.specs.declared.poller.Loop.{Loop}
use Rattle.sk_poller.specs.declared.report.PollReport.{PollReport}

abbrev pub call : List Bytes → Reply → Event
call request r = asked (answered request r)

-- ## Loops

-- The SK.CRON of a loop: the slot, the two words that the job's id was made of, and the reply.
pub record Cron : Type 0 where
  pub last : ℕ
  pub first : ℕ
  pub second : ℕ
  pub reply : Reply

abbrev pub cron_request : Watch → ℕ → Loop → Cron → List Bytes
cron_request w now_ l c = cron_words w.ident l c.last (job_text l c.first c.second now_)

-- what happens for a loop, by whether it had a last slot
abbrev pub loop_events : Watch → ℕ → Loop → Option Cron → List Event
loop_events w now_ l None = slot None ∷ []
loop_events w now_ l (Some c) = slot (Some c.last) ∷ drew c.first c.second ∷ call (cron_request w now_ l c) c.reply ∷ []

-- one loop after another
abbrev pub loops_events : Watch → ℕ → List Loop → List (Option Cron) → List Event
loops_events w now_ (l ∷ loops) (c ∷ crons) = loop_events w now_ l c ++ loops_events w now_ loops crons
loops_events w now_ loops crons = []

-- It is for the loop's last slot at this moment, and it was accepted or passed over; or the loop had none.
abbrev pub IsCron : Watch → ℕ → Loop → Option Cron → Type 0
IsCron w now_ l None = IsLastSlot l.cron w.offset (min now_ last_moment) None
IsCron w now_ l (Some c) = IsLastSlot l.cron w.offset (min now_ last_moment) (Some c.last) × ((is_okay c.reply || is_passed c.reply) ≡ true)

-- one for each loop
abbrev pub AreCrons : Watch → ℕ → List Loop → List (Option Cron) → Type 0
AreCrons w now_ [] [] = Unit {0}
AreCrons w now_ (l ∷ loops) (c ∷ crons) = IsCron w now_ l c × AreCrons w now_ loops crons
AreCrons w now_ loops crons = ⊥

-- how many were answered `+OK`
abbrev pub accepted : List (Option Cron) → ℕ
accepted [] = 0
accepted (None ∷ crons) = accepted crons
accepted (Some c ∷ crons) = if is_okay c.reply then accepted crons + 1 else accepted crons

-- ## The whole turn

-- the loops that a process looks at: all where it leads, and else none
abbrev pub led : Bool → Watch → List Loop
led leads w = if leads then w.loops else []

pub record WholeTurn (w : Watch) (events : List Event) (n : PollReport) : Type 0 where
  pub now_ : ℕ
  pub beat : Reply
  pub schedule : Reply
  pub retry : Reply
  pub rescue : Reply
  pub lead : Reply
  pub leads : Bool
  pub crons : List (Option Cron)
  pub are : events ≡ read now_ ∷ call (beat_words w.ident) beat
      ∷ call (due_words (codes "schedule")) schedule ∷ call (due_words (codes "retry")) retry ∷ call rescue_words rescue
      ∷ call (lead_words w.ident) lead ∷ loops_events w now_ (led leads w) crons
  -- what the replies said
  pub beaten : is_okay beat ≡ true
  pub first : Report
  pub second : Report
  pub third : Report
  pub first_is : report_of schedule ≡ Some first
  pub second_is : report_of retry ≡ Some second
  pub third_is : report_of rescue ≡ Some third
  pub leads_is : lead_of lead ≡ Some leads
  pub slots : AreCrons w now_ (led leads w) crons
  -- the sums
  pub promoted : n.promoted ≡ first.moved + second.moved
  pub rescued : n.rescued ≡ third.moved
  pub buried : n.buried ≡ first.buried + second.buried + third.buried
  pub pushed : n.pushed ≡ accepted crons

-- ## Slots

abbrev pub is_accepted : Result Reply LinkFault → Bool
is_accepted (Ok r) = is_okay r
is_accepted (Err f) = false

abbrev pub is_cron : List Bytes → Bool
is_cron (name ∷ words) = bytes_eq name (codes "SK.CRON")
is_cron [] = false

-- the SK.CRON that were answered `+OK`: each marks its loop with its slot
abbrev pub marks : List Call → List (List Bytes)
marks [] = []
marks (call ∷ calls) = if is_cron call.request && is_accepted call.reply then call.request ∷ marks calls else marks calls

-- those of these loops that are marked, each once
abbrev pub marked : Watch → ℕ → List Loop → List (Option Cron) → List (List Bytes)
marked w now_ (l ∷ loops) (Some c ∷ crons) =
    if is_okay c.reply then cron_request w now_ l c ∷ marked w now_ loops crons else marked w now_ loops crons
marked w now_ (l ∷ loops) (None ∷ crons) = marked w now_ loops crons
marked w now_ loops crons = []

-- Each loop is marked with its last slot at the moment read, once at most, and the report counts the marks.
pub record MarkedOnce (w : Watch) (events : List Event) (n : PollReport) : Type 0 where
  pub now_ : ℕ
  pub read_once : moments events ≡ now_ ∷ []
  pub leads : Bool
  pub crons : List (Option Cron)
  pub slots : AreCrons w now_ (led leads w) crons
  pub marks_are : marks (calls events) ≡ marked w now_ (led leads w) crons
  pub pushed : n.pushed ≡ length (marks (calls events))
