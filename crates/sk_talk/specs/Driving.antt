-- What the parts of a talk do to the sink. No public contract speaks of it.
use Rattle.std.specs.Prelude.{◌≡◌, ◌≢◌, ◌⊎◌, [], ◌++◌, map, List, Bool, true, false, Option, Some, None, Result, OnOk, IfErr}
use Rattle.sk_base.specs.Outside.{Takes, TakesFront, IsFront}
use Rattle.sk_resp.specs.Spelling.{Bytes, joined}
use Rattle.sk_resp.specs.Request.{Command}
use Rattle.sk_resp.specs.declared.wire_fault.WireFault.{WireFault}
use Rattle.sk_resp.specs.declared.wire_fault.WireFault.TheVariants as wire_fault
use Rattle.sk_talk.specs.declared.talk_end.Stop.{Stop}
use Rattle.sk_talk.specs.declared.talk_end.Stop.TheVariants as stop
use Rattle.sk_talk.specs.declared.talk_end.TalkEnd.{TalkEnd}
use Rattle.sk_talk.specs.declared.talk_end.TalkEnd.TheVariants.{Ended, Quit, Shutdown, Lost, Wire, Cut, ReadFault, WriteFault, Memory, Budget}
use Rattle.sk_talk.specs.Talk.{DoesAll, AnswersAll, IsHeard, LosesLast, refusal}
use Rattle.sk_resp.specs.Reply.{wire}
use Rattle.sk_resp.specs.declared.reply.Reply.{Reply}

-- ## A reply

-- an end that a failed reply brings
abbrev pub IsWriteStop : TalkEnd → Type 0
IsWriteStop WriteFault = Unit {0}
IsWriteStop Memory = Unit {0}
IsWriteStop _ = ⊥

-- the end that a command which stops the talk brings
abbrev pub end_at : Stop → TalkEnd
end_at stop.Quit = Quit
end_at stop.Shutdown = Shutdown
end_at stop.Lost = Lost

abbrev pub is_lost : Option Stop → Bool
is_lost (Some stop.Lost) = true
is_lost other = false

-- The talk ends so at a command: its reply was sent whole, and it stops the talk; or the reply failed, and some of it was sent.
abbrev pub StopsReply : TalkEnd → Option Stop → Bytes → Bytes → Type 0
StopsReply Quit ends text sent = (ends ≡ Some stop.Quit) × (sent ≡ text)
StopsReply Shutdown ends text sent = (ends ≡ Some stop.Shutdown) × (sent ≡ text)
StopsReply Lost ends text sent = (ends ≡ Some stop.Lost) × (sent ≡ [])
StopsReply WriteFault ends text sent = IsFront sent text × IsHeard ends
StopsReply Memory ends text sent = IsFront sent text × IsHeard ends
StopsReply _ ends text sent = ⊥

-- The command was done, and its reply was sent, or some of it.
pub record Answered {S : Type 0} (does : S → Command → Reply → Option Stop → S → Type 0) (old : S) (words : Command) (new : S) (result : Result (Unit {0}) TalkEnd) (before after : Option Bytes) : Type 0 where
  pub reply : Reply
  pub ends : Option Stop
  pub did : does old words reply ends new
  pub sent : OnOk result ((ends ≡ None) × Takes before (wire reply) after)
  pub stopped : IfErr result (λ end. (text : Bytes) × StopsReply end ends (wire reply) text × Takes before text after)

-- ## A series of commands

-- A series of the commands was done, from their front on, and its replies were sent, or some of them.
pub record AnsweredSome {S : Type 0} (does : S → Command → Reply → Option Stop → S → Type 0) (old : S) (commands : List Command) (new : S) (left : List Command) (result : Result (Unit {0}) TalkEnd) (before after : Option Bytes) : Type 0 where
  pub done : List Command
  pub replies : List Reply
  pub ends : Option Stop
  pub front : commands ≡ done ++ left
  pub did : DoesAll does old done replies new ends
  pub heard : IsHeard ends
  pub sent : OnOk result ((ends ≡ None) × Takes before (joined (map wire replies)) after)
  pub stopped : IfErr result (λ end. (text : Bytes) × StopsReply end ends (joined (map wire replies)) text × Takes before text after)

-- ## Commands

-- some of the replies to the commands, from their front
abbrev pub AnswersFront : {S : Type 0} → (does : S → Command → Reply → Option Stop → S → Type 0) → S → List Command → S → Bytes → Type 0
AnswersFront does old commands new written = (ends : Option Stop) × ((whole : Bytes) × AnswersAll (DoesAll does) ends old commands new whole × IsFront written whole × IsHeard ends)

-- The talk ends so at the last of the commands: it stops the talk, or its reply failed.
abbrev pub StopsAt : {S : Type 0} → (does : S → Command → Reply → Option Stop → S → Type 0) → TalkEnd → S → List Command → S → Bytes → Type 0
StopsAt does Quit old commands new written = AnswersAll (DoesAll does) (Some stop.Quit) old commands new written
StopsAt does Shutdown old commands new written = AnswersAll (DoesAll does) (Some stop.Shutdown) old commands new written
StopsAt does Lost old commands new written = LosesLast (DoesAll does) old commands new written
StopsAt does WriteFault old commands new written = AnswersFront does old commands new written
StopsAt does Memory old commands new written = AnswersFront does old commands new written
StopsAt does _ old commands new written = ⊥

-- ## A piece, and the end of input

-- an end that a piece of the stream can bring
abbrev pub IsPieceEnd : TalkEnd → Type 0
IsPieceEnd Quit = Unit {0}
IsPieceEnd Shutdown = Unit {0}
IsPieceEnd Lost = Unit {0}
IsPieceEnd Wire = Unit {0}
IsPieceEnd WriteFault = Unit {0}
IsPieceEnd Memory = Unit {0}
IsPieceEnd Ended = ⊥
IsPieceEnd Cut = ⊥
IsPieceEnd ReadFault = ⊥
IsPieceEnd Budget = ⊥

-- the end that the end of input brings, where the reader keeps these bytes
abbrev pub EndsAt : TalkEnd → Bytes → Type 0
EndsAt Ended rest = rest ≡ []
EndsAt Cut rest = rest ≢ []
EndsAt _ rest = ⊥

-- ## A fault of the reader

-- The sink took the text, and the talk ends at the fault; or some of the text, and it ends where that failed.
abbrev pub Sends : TalkEnd → Bytes → Option Bytes → Option Bytes → Type 0
Sends Wire text before after = Takes before text after
Sends WriteFault text before after = TakesFront before text after
Sends Memory text before after = TakesFront before text after
Sends _ text before after = ⊥

-- What comes of a fault of the reader: its text is sent, or there was no memory.
abbrev pub Stopped : WireFault → TalkEnd → Option Bytes → Option Bytes → Type 0
Stopped fault end before after = ((fault ≡ wire_fault.Memory) × (end ≡ Memory) × Takes before [] after)
    ⊎ ((fault ≢ wire_fault.Memory) × Sends end (refusal fault) before after)
