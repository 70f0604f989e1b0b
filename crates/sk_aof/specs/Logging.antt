-- What a command does to a pipe whose events are logged.
use Rattle.std.specs.Prelude.{◌≡◌, ◌⊎◌, ℕ, List, [], ◌∷◌, Option, Some, None, Result, IfOk}
use Rattle.sk_disk.specs.Images.{Images}
use Rattle.sk_resp.specs.declared.reply.Reply.{Reply}
use Rattle.sk_log.specs.File.{Body}
use Rattle.sk_log.specs.declared.fault.LogFault.{LogFault}
use Rattle.sk_model.specs.Change.{moment_after}
use Rattle.sk_model.specs.Event.{Event, Ask}
use Rattle.sk_cmd.specs.declared.command.Command.{Command}
use Rattle.sk_model.specs.Reading.{IsSaid, RunCommand, Words}
use Rattle.sk_model.specs.Replay.{Entry, Logged}
use Rattle.sk_model.specs.Run.{State}
use Rattle.sk_pipe.specs.Session.{HandlesLine}
use Rattle.sk_talk.specs.declared.talk_end.Stop.{Stop}
use Rattle.sk_talk.specs.declared.talk_end.Stop.TheVariants as stop
use Rattle.sk_talk.specs.declared.talker.Answer.{Answer}
use Rattle.sk_aof.specs.declared.log_session.LogSession.{LogSession}
use Rattle.sk_aof.specs.Bodies.{MayStand, body_of}
use Rattle.sk_aof.specs.Appends.{Appends, LeavesFront}
use Rattle.sk_aof.specs.Causes.{Hinders, fault_of}
use Rattle.sk_aof.specs.Stored.{AllMayStand, bodies_in}

-- The words came to a turn, as in a pipe, and this is what a log keeps of it.
pub record KeepsLine (old : State) (words : Words) (answer : Answer) (new : State) (entries : List Entry) : Type 0 where
  pub line : HandlesLine old words answer new
  pub logged : Logged old.world line.turn.steps entries
  pub may : AllMayStand entries

-- a pipe, where its log's closed gate stands, the disk, and why the log can't go on
pub record Place (D : Type 0) : Type 0 where
  pub state : State
  pub gate : ℕ
  pub disk : D
  pub fault : Option LogFault

abbrev pub place : {D : Type 0} → State → ℕ → D → Option LogFault → Place D
place state gate disk fault = record { state = state; gate = gate; disk = disk; fault = fault }

-- what a session that is logged has
abbrev pub place_of : {D : Type 0} → LogSession D → Place D
place_of s = place s.session.now s.log s.disk.now s.fault

-- the event of a command that comes in this state, at the moment at which it acts
abbrev pub asked : State → Words → Event
asked s words = Ask s.seat (moment_after s.now s.world) words

-- The record is that of a command, which may stand in a file.
pub record IsDraft (s : State) (words : Words) (entry : Body) : Type 0 where
  pub may : MayStand (asked s words)
  pub is : entry ≡ body_of (asked s words)

-- The words are this command, and the record is theirs.
pub record IsLogged (s : State) (command : Command) (entry : Body) (words : Words) : Type 0 where
  pub said : IsSaid words (RunCommand command)
  pub draft : IsDraft s words entry

-- The words are this command, and the record, if there was memory for it, is theirs.
pub record IsDrafted {E : Type 0} (s : State) (command : Command) (draft : Result Body E) (words : Words) : Type 0 where
  pub said : IsSaid words (RunCommand command)
  pub draft_is : IfOk draft (IsDraft s words)

module _ {D : Type 0} (may_leave : D → Images) (moment : D → ℕ) (left_since : D → ℕ → Images) where
  -- What a log keeps of it is in the log.
  pub record LogsLine (old : Place D) (words : Words) (answer : Answer) (new : Place D) : Type 0 where
    pub entries : List Entry
    pub keeps : KeepsLine old.state words answer new.state entries
    pub appends : Appends may_leave moment left_since (bodies_in entries) old.gate old.disk new.gate new.disk
    pub goes_on : new.fault ≡ old.fault

  -- The log has failed, and where it hadn't before there is a cause: what it would keep, if the command was done, may be in the file or not.
  pub record LosesLine (old : Place D) (words : Words) (new : Place D) : Type 0 where
    pub entries : List Entry
    pub why : ((new.state ≡ old.state) × (entries ≡ [])) ⊎ ((answer : Answer) × KeepsLine old.state words answer new.state entries)
    pub left : LeavesFront may_leave moment left_since (bodies_in entries) old.gate old.disk new.disk
    pub cause : old.fault ≡ None → Hinders old.gate (bodies_in entries) (fault_of new.fault)

  -- A reply is handed out only where what a log keeps is in it.
  abbrev pub AnswersLine : Place D → Words → Reply → Option Stop → Place D → Type 0
  AnswersLine old words reply (Some stop.Lost) new = LosesLine old words new
  AnswersLine old words reply (Some stop.Quit) new = LogsLine old words (record { reply = reply; stop = Some stop.Quit }) new
  AnswersLine old words reply (Some stop.Shutdown) new = LogsLine old words (record { reply = reply; stop = Some stop.Shutdown }) new
  AnswersLine old words reply None new = LogsLine old words (record { reply = reply; stop = None }) new

  -- The log has failed, and there is a cause: the body may be in the file or not.
  pub record MissesPut (body : Body) (old : Place D) (result : Answer) (new : Place D) : Type 0 where
    pub lost : result.stop ≡ Some stop.Lost
    pub left : LeavesFront may_leave moment left_since (body ∷ []) old.gate old.disk new.disk
    pub cause : Hinders old.gate (body ∷ []) (fault_of new.fault)

  -- The answer is handed out, and the body is in the log; or the log has failed.
  abbrev pub Puts : Body → Place D → Answer → Answer → Place D → Type 0
  Puts body old answer result new = ((result ≡ answer) × (new.fault ≡ old.fault) × Appends may_leave moment left_since (body ∷ []) old.gate old.disk new.gate new.disk) ⊎ MissesPut body old result new

  -- Whichever words of that kind came, the answer is theirs.
  abbrev pub Serves : (Words → Type 0) → LogSession D → Answer → LogSession D → Type 0
  Serves Is old answer new = (words : Words) → Is words → AnswersLine (place_of old) words answer.reply answer.stop (place_of new)
