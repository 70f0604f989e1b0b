-- What a session is seen to do with its desk, its clock and its connection, one command after another.
use Rattle.std.specs.Prelude.{◌≡◌, ◌⊎◌, ℕ, List, Option, Some, None, Ok, Err, Bool, true, cond}
use Rattle.sk_base.specs.Yields.{Yields}
use Rattle.sk_base.specs.declared.clock.Clock as a_clock
use Rattle.sk_base.specs.declared.sink.Sink as a_sink
use Rattle.sk_base.specs.declared.source.Source as a_source
use Rattle.sk_resp.specs.Spelling.{Bytes}
use Rattle.sk_resp.specs.Request.{Command as Words}
use Rattle.sk_resp.specs.declared.reply.Reply.{Reply}
use Rattle.sk_resp.specs.declared.reply.Reply.TheVariants as reply
use Rattle.sk_resp.specs.declared.say.Say.TheVariants as say
use Rattle.sk_cmd.specs.Fault.{fault_say}
use Rattle.sk_cmd.specs.Table.{IsRead}
use Rattle.sk_cmd.specs.declared.cmd_fault.CmdFault.{CmdFault}
use Rattle.sk_cmd.specs.declared.command.Command.{Command}
use Rattle.sk_cmd.specs.declared.command.Command.TheVariants as command
use Rattle.sk_cmd.specs.declared.command.PlainCommand.TheVariants as plain
use Rattle.sk_model.specs.Acked.{Acknowledges}
use Rattle.sk_model.specs.Run.{is_ok}
use Rattle.sk_desk.specs.Calls.{AddsCall, call_of}
use Rattle.sk_desk.specs.declared.call.Call.{Call}
use Rattle.sk_desk.specs.declared.desk.Desk as a_desk
use Rattle.sk_talk.specs.Talk.{DoesAll, Ends, Moves}
use Rattle.sk_talk.specs.declared.talk_end.Stop.{Stop}
use Rattle.sk_talk.specs.declared.talker.Answer.{Answer}
use Rattle.sk_talk.specs.declared.talk_end.Stop.TheVariants as stop
use Rattle.sk_talk.specs.declared.talk_end.TalkEnd.{TalkEnd}

-- the calls that a desk tells, how many rows its replies acknowledged, and the moments that a clock is going to answer
pub record Seen : Type 0 where
  pub calls : Option (List Call)
  pub acked : ℕ
  pub moments : Option (ℕ → ℕ)

-- what is seen of a desk and a clock, by what each tells
abbrev pub seen : {D K : Type 0} → (D → Option (List Call)) → (D → ℕ) → (K → Option (ℕ → ℕ)) → D → K → Seen
seen calls acked moments desk clock = record { calls = calls desk; acked = acked desk; moments = moments clock }

-- QUIT and SHUTDOWN
abbrev pub stop_of : Command → Option Stop
stop_of (command.Plain plain.Quit) = Some stop.Quit
stop_of (command.Plain plain.Shutdown) = Some stop.Shutdown
stop_of other = None

-- the command stops the session, where it is one of these and was answered `+OK`
abbrev pub stop_at : Command → Reply → Option Stop
stop_at c answer = cond (is_ok answer) (stop_of c) None

-- The words are a command: the desk was called with it, once, at the moment that the clock then answered, and gave the reply.
pub record Called (old : Seen) (words : Words) (answer : Reply) (ends : Option Stop) (new : Seen) : Type 0 where
  pub c : Command
  pub now : ℕ
  pub read : IsRead words (Ok c)
  pub ticked : Yields old.moments now new.moments
  pub acked : Acknowledges c answer old.acked new.acked
  pub told : AddsCall old.calls (call_of words now answer) new.calls
  pub ends_is : ends ≡ stop_at c answer

-- The words are no command, and are answered by the first rule that they break; the desk isn't called.
pub record Refused (old : Seen) (words : Words) (answer : Reply) (ends : Option Stop) (new : Seen) : Type 0 where
  pub fault : CmdFault
  pub read : IsRead words (Err fault)
  pub says : answer ≡ reply.Say (fault_say fault)
  pub ends_is : ends ≡ None
  pub same : new ≡ old

-- There was no memory for the words, which the desk wants; it isn't called.
pub record Starved (wants_words : Bool) (old : Seen) (answer : Reply) (ends : Option Stop) (new : Seen) : Type 0 where
  pub wanted : wants_words ≡ true
  pub says : answer ≡ reply.Say say.Oom
  pub ends_is : ends ≡ None
  pub same : new ≡ old

-- one command of a session, at a desk that wants the words of its calls, or at one that doesn't
abbrev pub Does : Bool → Seen → Words → Reply → Option Stop → Seen → Type 0
Does wants_words old words answer ends new = Called old words answer ends new ⊎ Refused old words answer ends new ⊎ Starved wants_words old answer ends new

-- the same of an answer, of what two things show
abbrev pub DoesAt : {A B : Type 0} → Bool → (A → B → Seen) → A → B → Words → Answer → A → B → Type 0
DoesAt wants show a b words answer a' b' = Does wants (show a b) words answer.reply answer.stop (show a' b')

-- ## A whole session

-- Of a desk, a clock and a connection, by what each tells: the connection gave some bytes, and took what these call for; the calls of the desk are the
-- commands in them; and the session ended so.
pub record IsSession {D K C : Type 0} (wants_words : Bool) (calls : D → Option (List Call)) (acked : D → ℕ) (moments : K → Option (ℕ → ℕ)) (left taken : C → Option Bytes)
    (desk : D) (clock : K) (conn : C) (end : TalkEnd) (desk' : D) (clock' : K) (conn' : C) : Type 0 where
  pub bytes : Bytes
  pub written : Bytes
  pub moves : Moves (left conn) (left conn') (taken conn) (taken conn') bytes written
  pub ends : Ends (DoesAll (Does wants_words)) (seen calls acked moments desk clock) end bytes (left conn') (seen calls acked moments desk' clock') written

-- The same, by all that is told of the desk, the connection and the clock.
abbrev pub IsTalk : {D K C : Type 0} → a_desk.Ghosts D → a_source.Ghosts C → a_sink.Ghosts C → a_clock.Ghosts K → D → K → C → TalkEnd → D → K → C → Type 0
IsTalk Desk Source Sink Clock desk clock conn end desk' clock' conn' =
    IsSession Desk.wants_words Desk.calls Desk.acked Clock.moments Source.left Sink.taken desk clock conn end desk' clock' conn'
