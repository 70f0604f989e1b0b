-- What another program is asked for a run, and what the run comes to by its reply.
use Rattle.std.specs.Prelude.{◌==◌, ℕ, Bool, false, List, [], ◌∷◌, Option, Result, Ok, Err, codes, if◌then◌else◌}
use Rattle.std.specs.Fmt.{decimal}
use Rattle.std.specs.List.{after_first, before_first}
use Rattle.std.specs.Str.{is_utf8}
use Rattle.sk_base.specs.Outside.{Rose}
use Rattle.sk_base.specs.declared.sink.Sink as a_sink
use Rattle.sk_base.specs.declared.source.Source as a_source
use Rattle.sk_edge.specs.Collected.{Collected, Keeps, MakesRoom}
use Rattle.sk_edge.specs.Doors.{GivesFirst}
use Rattle.sk_edge.specs.declared.door.Door as a_door
use Rattle.sk_link.specs.Asking.{is_okay}
use Rattle.sk_link.specs.Call.{Call}
use Rattle.sk_link.specs.Wire.{WireCarries, WireState}
use Rattle.sk_link.specs.declared.link.LinkFault.{LinkFault}
use Rattle.sk_payload.specs.declared.head.Head.{Head}
use Rattle.sk_resp.specs.Spelling.{Bytes}
use Rattle.sk_resp.specs.declared.reply.Reply.{Reply}
use Rattle.sk_resp.specs.declared.reply.Reply.TheVariants as reply
use Rattle.sk_worker.specs.declared.job.Outcome.{Outcome}
use Rattle.sk_worker.specs.declared.job.Outcome.TheVariants as outcome

-- ## The request

-- `RUN class jid failures args`
abbrev pub run_request : Head → List Bytes
run_request head = codes "RUN" ∷ head.class ∷ head.jid ∷ decimal head.gen_ ∷ head.args ∷ []

-- ## The outcome

-- the run raised an error of this class, with this message
abbrev pub error_of : Bytes → Bytes → Outcome
error_of class message = outcome.Raised (record { class = class; message = message })

abbrev pub is_space : ℕ → Bool
is_space byte = byte == 32

-- the error that an error reply tells: its class stands before the first space, and its message behind it
abbrev pub told_error : Bytes → Outcome
told_error text = error_of (before_first is_space text) (after_first is_space text)

-- nobody took the connection
abbrev pub unreachable : Outcome
unreachable = error_of (codes "Unreachable") (codes "no program takes connections there")

-- no whole reply came
abbrev pub lost : Outcome
lost = error_of (codes "Lost") (codes "no reply came, or not in time")

-- a reply that a relay doesn't know
abbrev pub bad_reply : Outcome
bad_reply = error_of (codes "BadReply") (codes "the reply is neither +OK nor an error in UTF-8")

-- by a reply that isn't `+OK`
abbrev pub refused : Reply → Outcome
refused (reply.Error text) = if is_utf8 text then told_error text else bad_reply
refused r = bad_reply

-- by the reply, or by the fault in its place
abbrev pub outcome_by : Result Reply LinkFault → Outcome
outcome_by (Ok r) = if is_okay r then outcome.Returned else refused r
outcome_by (Err f) = lost

-- ## A run

-- what a door tells of connections, and its count of faults
pub record DoorTells (Conn : Type 0) : Type 0 where
  pub dialled : Option (List Conn)
  pub kept : Option (Collected Conn)
  pub faults : ℕ

-- The door gave this connection, and was left that one.
pub record Visits {Conn : Type 0} (before after : DoorTells Conn) (conn conn' : Conn) : Type 0 where
  pub given : GivesFirst before.dialled conn after.dialled
  pub room : Option (Collected Conn)
  pub made : MakesRoom before.kept 1 room
  pub left : Keeps room (conn' ∷ []) after.kept

-- A run of this request over a door. There was no connection, for a fault of the door; or a link over a connection of its own, from which nothing had
-- been read, carried this request alone, and the outcome is that of the reply to it.
pub data RunsBy {Conn : Type 0} (before after : DoorTells Conn) (Carries : WireState Conn → WireState Conn → List Call → Type 0) (request : List Bytes) :
    Outcome → Type 0 where
  closed : Rose before.faults after.faults → RunsBy before after Carries request unreachable
  asked : (conn : Conn) (end : WireState Conn) (came : Result Reply LinkFault) → Visits before after conn end.conn →
      Carries (record { conn = conn; pending = []; ended = false }) end (record { request = request; reply = came } ∷ []) →
      RunsBy before after Carries request (outcome_by came)

abbrev pub door_tells : {N Conn Ear : Type 0} → a_door.Ghosts N Conn Ear → N → DoorTells Conn
door_tells OfDoor net = record { dialled = OfDoor.dialled net; kept = OfDoor.kept net; faults = OfDoor.door_faults net }

-- The same of a door and its connections, by what these tell, for the job with this head.
abbrev pub RunsOver : {N Conn Ear : Type 0} → a_door.Ghosts N Conn Ear → a_source.Ghosts Conn → a_sink.Ghosts Conn → N → N → Head → Outcome → Type 0
RunsOver OfDoor OfSource OfSink net net_after head outcome = RunsBy (door_tells OfDoor net) (door_tells OfDoor net_after)
    (WireCarries OfSink.taken OfSource.left OfSource.read_faults OfSink.write_faults) (run_request head) outcome
