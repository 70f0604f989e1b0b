-- What is written in a talk when it ends, of the bytes that were read in it, over any relation that tells what a command comes to.
use Rattle.std.specs.Prelude.{◌≡◌, ◌≢◌, ◌⊎◌, ℕ, ◌<◌, ◌≤◌, ◌+◌, ◌++◌, List, [], ◌∷◌, length, map, Option, Some, None, IfSome, MatchOption}
use Rattle.sk_base.specs.Outside.{Gives, Takes, IsFront}
use Rattle.sk_base.specs.declared.limits.TheConstants.{LONGEST_TALK, PIECE}
use Rattle.sk_resp.specs.Spelling.{Bytes, joined}
use Rattle.sk_resp.specs.Request.{Command}
use Rattle.sk_resp.specs.Stream.{Opens, Reads, Faulty}
use Rattle.sk_resp.specs.Reply.{wire}
use Rattle.sk_resp.specs.declared.wire_fault.WireFault.{WireFault}
use Rattle.sk_resp.specs.declared.say.Say.TheVariants as say
use Rattle.sk_resp.specs.declared.reply.Reply.{Reply}
use Rattle.sk_resp.specs.declared.reply.Reply.TheVariants as reply
use Rattle.sk_talk.specs.declared.talk_end.Stop.{Stop}
use Rattle.sk_talk.specs.declared.talk_end.Stop.TheVariants as stop
use Rattle.sk_talk.specs.declared.talk_end.TalkEnd.{TalkEnd}
use Rattle.sk_talk.specs.declared.talk_end.TalkEnd.TheVariants.{Ended, Quit, Shutdown, Lost, Wire, Cut, ReadFault, WriteFault, Memory, Budget}

-- ## Commands

-- From the old state on, each command came to its reply, in order, as `does` tells of one of them. None but the last stopped the talk.
abbrev pub DoesAll : {S : Type 0} → (does : S → Command → Reply → Option Stop → S → Type 0) → S → List Command → List Reply → S → Option Stop → Type 0
DoesAll does old [] [] new stop = (new ≡ old) × (stop ≡ None)
DoesAll does old (words ∷ commands) (reply ∷ replies) new stop = (ends : Option Stop) × ((mid : _) × does old words reply ends mid
    × MatchOption ends (DoesAll does mid commands replies new stop) (λ e. (commands ≡ []) × (replies ≡ []) × (new ≡ mid) × (stop ≡ Some e)))
DoesAll does old [] (reply ∷ replies) new stop = ⊥
DoesAll does old (words ∷ commands) [] new stop = ⊥

-- ## Replies. Below, `Answers old commands replies new stop` tells what the commands came to, one after another, and whether the last stopped the talk.

-- These are the replies to the commands, end to end.
pub record AnswersAll {S : Type 0} (Answers : S → List Command → List Reply → S → Option Stop → Type 0) (stop : Option Stop) (old : S) (commands : List Command) (new : S) (written : Bytes) : Type 0 where
  pub replies : List Reply
  pub answers : Answers old commands replies new stop
  pub text : written ≡ joined (map wire replies)

-- the reply to a fault of the stream
abbrev pub refusal : WireFault → Bytes
refusal fault = wire (reply.Say (say.Protocol fault))

-- These are the replies to the commands, none of which stops the talk, and then that to the fault.
abbrev pub Refuses : {S : Type 0} → (Answers : S → List Command → List Reply → S → Option Stop → Type 0) → S → List Command → WireFault → S → Bytes → Type 0
Refuses Answers old commands fault new written = (served : Bytes) × AnswersAll Answers None old commands new served × (written ≡ served ++ refusal fault)

-- The reply is to be written.
abbrev pub IsHeard : Option Stop → Type 0
IsHeard ends = ends ≢ Some stop.Lost

-- What is due for the first commands of the bytes, the last of which may stop the talk, or for all of them and the fault behind them.
abbrev pub Due : {S : Type 0} → (Answers : S → List Command → List Reply → S → Option Stop → Type 0) → S → Bytes → S → Bytes → Type 0
Due Answers old bytes new whole = ((commands : List Command) × ((rest : Bytes) × ((ends : Option Stop) × Opens bytes commands rest × AnswersAll Answers ends old commands new whole × IsHeard ends)))
    ⊎ ((commands : List Command) × ((fault : WireFault) × Faulty bytes commands fault × Refuses Answers old commands fault new whole))

abbrev pub DueFront : {S : Type 0} → (Answers : S → List Command → List Reply → S → Option Stop → Type 0) → S → Bytes → S → Bytes → Type 0
DueFront Answers old bytes new written = (whole : Bytes) × Due Answers old bytes new whole × IsFront written whole

-- ## Ends

-- The source has nothing left, where it tells what it has.
abbrev pub IsAtEnd : Option Bytes → Type 0
IsAtEnd left = IfSome left (λ bytes. bytes ≡ [])

-- The bytes begin with commands, the last of which stops the talk, whatever follows it.
abbrev pub Stops : {S : Type 0} → (Answers : S → List Command → List Reply → S → Option Stop → Type 0) → S → Stop → Bytes → S → Bytes → Type 0
Stops Answers old ends bytes new written = (commands : List Command) × ((rest : Bytes) × Opens bytes commands rest × AnswersAll Answers (Some ends) old commands new written)

-- These are the replies to the commands but the last, which lost its reply, and stopped the talk.
pub record LosesLast {S : Type 0} (Answers : S → List Command → List Reply → S → Option Stop → Type 0) (old : S) (commands : List Command) (new : S) (written : Bytes) : Type 0 where
  pub replies : List Reply
  pub last : Reply
  pub answers : Answers old commands (replies ++ last ∷ []) new (Some stop.Lost)
  pub text : written ≡ joined (map wire replies)

-- The bytes begin with commands, the last of which lost its reply, whatever follows it.
abbrev pub Loses : {S : Type 0} → (Answers : S → List Command → List Reply → S → Option Stop → Type 0) → S → Bytes → S → Bytes → Type 0
Loses Answers old bytes new written = (commands : List Command) × ((rest : Bytes) × Opens bytes commands rest × LosesLast Answers old commands new written)

-- The budget of bytes is spent, with the piece that was last: 2^40 bytes, and less than 65,536 more.
abbrev pub IsSpent : ℕ → Type 0
IsSpent count = (LONGEST_TALK ≤ count) × (count < LONGEST_TALK + PIECE)

-- The talk began at the old state; these bytes were read and these written; it ended so, at the new state, and this was left to read then. At WriteFault and
-- Memory the last command that was done may be one that stops a talk, whose reply failed.
abbrev pub Ends : {S : Type 0} → (Answers : S → List Command → List Reply → S → Option Stop → Type 0) → S → TalkEnd → Bytes → Option Bytes → S → Bytes → Type 0
Ends Answers old Ended bytes left new written = (commands : List Command) × Reads bytes commands [] × AnswersAll Answers None old commands new written × IsAtEnd left
Ends Answers old Quit bytes left new written = Stops Answers old stop.Quit bytes new written
Ends Answers old Shutdown bytes left new written = Stops Answers old stop.Shutdown bytes new written
Ends Answers old Lost bytes left new written = Loses Answers old bytes new written
Ends Answers old Cut bytes left new written = (commands : List Command) × ((rest : Bytes) × (rest ≢ []) × Reads bytes commands rest × AnswersAll Answers None old commands new written × IsAtEnd left)
Ends Answers old Wire bytes left new written = (commands : List Command) × ((fault : WireFault) × Faulty bytes commands fault × Refuses Answers old commands fault new written)
Ends Answers old ReadFault bytes left new written = (commands : List Command) × ((rest : Bytes) × Reads bytes commands rest × AnswersAll Answers None old commands new written)
Ends Answers old Budget bytes left new written = (commands : List Command) × ((rest : Bytes) × Reads bytes commands rest × AnswersAll Answers None old commands new written × IsSpent (length bytes))
Ends Answers old WriteFault bytes left new written = DueFront Answers old bytes new written
Ends Answers old Memory bytes left new written = DueFront Answers old bytes new written

-- These bytes were read, and these written.
pub record Moves (left left' taken taken' : Option Bytes) (bytes written : Bytes) : Type 0 where
  pub gave : Gives left bytes left'
  pub took : Takes taken written taken'
