-- A program's one connection to the store.
use Rattle.std.specs.Prelude.{ℕ, false, List, [], ◌∷◌, Option, Result, Err}
use Rattle.sk_base.specs.Outside.{Rose}
use Rattle.sk_base.specs.declared.sink.Sink as a_sink
use Rattle.sk_base.specs.declared.source.Source as a_source
use Rattle.sk_edge.specs.declared.door.Door as a_door
use Rattle.sk_resp.specs.Spelling.{Bytes}
use Rattle.sk_edge.specs.Collected.{Collected, Keeps, MakesRoom}
use Rattle.sk_edge.specs.Doors.{GivesFirst}
use Rattle.sk_link.specs.Call.{Call}
use Rattle.sk_link.specs.Wire.{WireCarries, WireState}
use Rattle.sk_app.specs.declared.failure.Failure.{Failure}
use Rattle.sk_app.specs.declared.failure.Failure.TheVariants.{Door, Memory}

-- ## What is told

-- what a door tells of connections, and its count of faults
pub record DoorTells (Conn : Type 0) : Type 0 where
  -- those that it will make
  pub dialled : Option (List Conn)
  -- those that were left to it
  pub kept : Option (Collected Conn)
  pub faults : ℕ

abbrev pub door_tells : {N Conn Ear : Type 0} → a_door.Ghosts N Conn Ear → N → DoorTells Conn
door_tells OfDoor net = record { dialled = OfDoor.dialled net; kept = OfDoor.kept net; faults = OfDoor.door_faults net }

-- ## A link over a connection

-- before its first call
abbrev pub fresh : {Conn : Type 0} → Conn → WireState Conn
fresh conn = record { conn = conn; pending = []; ended = false }

-- ## A dialogue

-- The door gave this connection, and at the end it was left that one.
pub record Visits {Conn : Type 0} (before after : DoorTells Conn) (conn conn' : Conn) : Type 0 where
  pub given : GivesFirst before.dialled conn after.dialled
  pub room : Option (Collected Conn)
  pub made : MakesRoom before.kept 1 room
  pub left : Keeps room (conn' ∷ []) after.kept

-- There was no connection, for a fault of the door; or no memory; or a link over a connection came to the state in which it was left, and what was said
-- over it meanwhile came to the outcome.
pub data Dialogue {Conn : Type 0} (before after : DoorTells Conn) (Says : WireState Conn → WireState Conn → Result Bytes Failure → Type 0) : Result Bytes Failure → Type 0 where
  closed : Rose before.faults after.faults → Dialogue before after Says (Err Door)
  starved : Dialogue before after Says (Err Memory)
  held : (conn : Conn) (link : WireState Conn) (outcome : Result Bytes Failure) → Visits before after conn link.conn → Says (fresh conn) link outcome →
      Dialogue before after Says outcome

-- The same of a door and its connections, by what these tell: what was said is told by the calls that the link carried.
abbrev pub Dials : {N Conn Ear : Type 0} → a_door.Ghosts N Conn Ear → a_source.Ghosts Conn → a_sink.Ghosts Conn → N → N →
    ((List Call → Type 0) → Result Bytes Failure → Type 0) → Result Bytes Failure → Type 0
Dials OfDoor OfSource OfSink net net_after Says outcome = Dialogue (door_tells OfDoor net) (door_tells OfDoor net_after)
    (λ a b outcome. Says (WireCarries OfSink.taken OfSource.left OfSource.read_faults OfSink.write_faults a b) outcome) outcome
