-- What a talk with a pipe whose events are logged comes to.
use Rattle.std.specs.Prelude.{◌≡◌, ℕ, List, [], ◌∷◌, ◌++◌, Bool, true, false, Option, Some, None}
use Rattle.sk_disk.specs.Images.{Images}
use Rattle.sk_resp.specs.declared.reply.Reply.{Reply}
use Rattle.sk_model.specs.Reading.{Words}
use Rattle.sk_model.specs.Replay.{Entry, Logged}
use Rattle.sk_model.specs.Run.{Answers, steps_in}
use Rattle.sk_talk.specs.declared.talk_end.Stop.{Stop}
use Rattle.sk_talk.specs.declared.talk_end.Stop.TheVariants as stop
use Rattle.sk_resp.specs.Spelling.{Bytes}
use Rattle.sk_talk.specs.Talk.{Moves, Ends as TalkEnds}
use Rattle.sk_talk.specs.declared.talk_end.TalkEnd.{TalkEnd}
use Rattle.sk_talk.specs.declared.talk_end.TalkEnd.TheVariants as end
use Rattle.sk_pipe.specs.Pipe.{pipe_end}
use Rattle.sk_log.specs.declared.fault.LogFault.{LogFault}
use Rattle.sk_model.specs.World.{World}
use Rattle.sk_aof.specs.declared.log_session.LogSession.{LogSession}
use Rattle.sk_aof.specs.declared.log_end.LogEnd.{LogEnd}
use Rattle.sk_aof.specs.declared.log_end.LogEnd.TheVariants.{Pipe, Fault}
use Rattle.sk_aof.specs.Appends.{Appends}
use Rattle.sk_aof.specs.Causes.{fault_of}
use Rattle.sk_aof.specs.Logging.{LosesLine, Place, place, place_of}
use Rattle.sk_aof.specs.Stored.{AllMayStand, bodies_in}

-- A talk that lost its last reply ends at a fault of the log, any other as a pipe does.
abbrev pub IsEnd : TalkEnd → Option LogFault → LogEnd → Type 0
IsEnd end.Lost fault result = result ≡ Fault (fault_of fault)
IsEnd how fault result = result ≡ Pipe (pipe_end how)

module _ {D : Type 0} (may_leave : D → Images) (moment : D → ℕ) (left_since : D → ℕ → Images) where
  -- The commands came to these replies, as in a pipe, and all that a log keeps of their run is in the log, in order.
  pub record LogsAll (old : Place D) (commands : List Words) (replies : List Reply) (new : Place D) (ends : Bool) : Type 0 where
    pub answers : Answers old.state commands replies new.state ends
    pub entries : List Entry
    pub logged : Logged old.state.world (steps_in answers.turns) entries
    pub may : AllMayStand entries
    pub appends : Appends may_leave moment left_since (bodies_in entries) old.gate old.disk new.gate new.disk
    pub goes_on : new.fault ≡ old.fault

  -- The last command lost its reply, which was not handed out.
  pub record LosesLast (old : Place D) (commands : List Words) (replies : List Reply) (new : Place D) : Type 0 where
    pub before : List Words
    pub last : Words
    pub commands_are : commands ≡ before ++ last ∷ []
    pub answered : List Reply
    pub lost : Reply
    pub replies_are : replies ≡ answered ++ lost ∷ []
    pub mid : Place D
    pub logs : LogsAll old before answered mid false
    pub loses : LosesLine may_leave moment left_since mid last new

  abbrev pub LogAnswers : Place D → List Words → List Reply → Place D → Option Stop → Type 0
  LogAnswers old commands replies new None = LogsAll old commands replies new false
  LogAnswers old commands replies new (Some stop.Quit) = LogsAll old commands replies new true
  LogAnswers old commands replies new (Some stop.Shutdown) = LogsAll old commands replies new true
  LogAnswers old commands replies new (Some stop.Lost) = LosesLast old commands replies new

  -- Bytes were read, and these written, as the commands in them call for.
  pub record TalksOn (left left' taken taken' : Option Bytes) (old : Place D) (how : TalkEnd) (new : Place D) : Type 0 where
    pub bytes : Bytes
    pub written : Bytes
    pub moves : Moves left left' taken taken' bytes written
    pub ends : TalkEnds LogAnswers old how bytes left' new written

  -- So it is of a session, with what its source had left and its sink had taken before and after.
  abbrev pub SessionTalks : {S K : Type 0} → (S → Option Bytes) → (K → Option Bytes) → S → S → K → K → LogSession D → TalkEnd → LogSession D → Type 0
  SessionTalks left taken source source' sink sink' old how new = TalksOn (left source) (left source') (taken sink) (taken sink') (place_of old) how (place_of new)

  -- So it went from this store, its log and the disk on, and ended so, with the disk as it is now.
  pub record Talked {S K : Type 0} (left : S → Option Bytes) (taken : K → Option Bytes) (source source' : S) (sink sink' : K) (store : ℕ × World) (old disk : D) (result : LogEnd) : Type 0 where
    pub how : TalkEnd
    pub new : Place D
    pub is_end : IsEnd how new.fault result
    pub disk_is : new.disk ≡ disk
    pub talks : TalksOn (left source) (left source') (taken sink) (taken sink') (place (record { world = store.1; seat = 0; now = 0 }) store.0 old None) how new
