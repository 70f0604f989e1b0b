-- What follows from the definition of a turn, as statements of one worker.
use Rattle.std.specs.Prelude.{◌≡◌, ◌∷◌, ℕ, List, Result, Ok, codes, length}
use Rattle.sk_resp.specs.Spelling.{Bytes}
use Rattle.sk_resp.specs.declared.reply.Reply.{Reply}
use Rattle.sk_payload.specs.declared.head.Head.{Head}
use Rattle.sk_worker.specs.Event.{Event, runs}
use Rattle.sk_worker.specs.Forms.{EmptyForm, IsEmptyOrMemory, IsStarted, RanOnce, call}
use Rattle.sk_worker.specs.Request.{script_words}
use Rattle.sk_worker.specs.Run.{returned_runs}
use Rattle.sk_worker.specs.Stage.{JobTranscript, Settings, holding}
use Rattle.sk_worker.specs.Turn.{TurnTranscript}
use Rattle.sk_worker.specs.declared.turn.Turn.{Turn}
use Rattle.sk_worker.specs.declared.turn.Turn.TheVariants as turn
use Rattle.sk_worker.specs.declared.turn.WorkFault.{WorkFault}

-- A turn that is empty found no job.
abbrev pub EmptyTurnsFindNoJob : Settings → Type 0
EmptyTurnsFindNoJob w = (before : List Bytes) (events : List Event) (after : List Bytes) →
    TurnTranscript w before events after (Ok turn.Empty) → EmptyForm w before events

-- A turn that finds no job is empty, unless there was no memory.
abbrev pub TurnsWithoutJobsAreEmpty : Settings → Type 0
TurnsWithoutJobsAreEmpty w = (before : List Bytes) (events : List Event) (after : List Bytes) (result : Result Turn WorkFault) →
    TurnTranscript w before events after result → EmptyForm w before events → IsEmptyOrMemory result

-- A job that was started runs once, whatever comes of the turn, unless there was no memory.
abbrev pub StartedJobsRunOnce : Settings → Type 0
StartedJobsRunOnce w = (c : Bytes) (h : Head) (start : Reply) (rest : List Event) (result : Result Turn WorkFault) → IsStarted w c h start →
    JobTranscript w (holding c) (call (script_words (codes "SK.START") c) start ∷ rest) result → RanOnce h rest result

-- how many runs return in a turn with this answer
abbrev pub returns_in : Turn → ℕ
returns_in turn.Empty = 0
returns_in turn.Done = 1
returns_in turn.Retried = 0
returns_in turn.Buried = 0
returns_in turn.Discarded = 0

-- A turn is done where one run in it returned. In every other turn without a fault none did.
abbrev pub DoneTurnsReturned : Settings → Type 0
DoneTurnsReturned w = (before : List Bytes) (events : List Event) (after : List Bytes) (t : Turn) →
    TurnTranscript w before events after (Ok t) → length (returned_runs (runs events)) ≡ returns_in t
