-- What the store keeps, as the abstract store's world, and what a command does to it.
use Rattle.std.specs.Prelude.{◌≡◌, ◌≤◌, List, Ok, Err, IsSome, None, Result}
use Rattle.sk_base.specs.Score.{last_moment}
use Rattle.sk_resp.specs.declared.reply.Reply.{Reply}
use Rattle.sk_undo.specs.Versions.{begun, committed, undone}
use Rattle.sk_model.specs.Change.{Change, perform}
use Rattle.sk_model.specs.Outcome.{Realizes, Outcome}
use Rattle.sk_model.specs.World.{World}
use Rattle.sk_store.specs.declared.store.Store.{Store}

abbrev pub world : Store → World
world s = record {
  limits = s.limits;
  moment = s.moment;
  rows = s.places.current.rows;
  names = s.places.current.names;
  live = s.places.current.jobs.live;
  tally = s.places.current.jobs.totals;
  keys = s.keys;
  phases = s.seats;
  counters = s.counters.current;
  leases = s.leases.current;
  batches = s.batches.current;
}

-- no step is open, and the moment is one that is told apart
pub record IsReady (s : Store) : Type 0 where
  pub places : s.places.saved ≡ None
  pub leases : s.leases.saved ≡ None
  pub batches : s.batches.saved ≡ None
  pub counters : s.counters.saved ≡ None
  pub early : s.moment ≤ last_moment

-- The command came to this outcome and gave its reply; or memory was wanting, and nothing has changed.
abbrev pub Executes : {E : Type 0} → Store → Outcome → Result Reply E → Store → Type 0
Executes old o (Ok reply) new = Realizes (world old) o reply (world new) × IsReady new
Executes old o (Err wanting) new = new ≡ old

-- All of these changes were made; or memory was wanting, and nothing has changed.
abbrev pub IsAtomic : {A E : Type 0} → Store → List Change → Result A E → Store → Type 0
IsAtomic old changes (Ok done) new = (world new ≡ perform (world old) changes) × IsReady new
IsAtomic old changes (Err wanting) new = new ≡ old

-- ## The step

-- a step is open over all of it
pub record IsOpen (s : Store) : Type 0 where
  pub places : IsSome s.places.saved
  pub leases : IsSome s.leases.saved
  pub batches : IsSome s.batches.saved
  pub counters : IsSome s.counters.saved

-- The same step is open, and what no step is over stays.
pub record InStep (old new : Store) : Type 0 where
  pub places : new.places.saved ≡ old.places.saved
  pub leases : new.leases.saved ≡ old.leases.saved
  pub batches : new.batches.saved ≡ old.batches.saved
  pub counters : new.counters.saved ≡ old.counters.saved
  pub limits : new.limits ≡ old.limits
  pub moment : new.moment ≡ old.moment
  pub seats : new.seats ≡ old.seats
  pub keys : new.keys ≡ old.keys

abbrev pub begun_in : Store → Store
begun_in s = record s { places = begun s.places; leases = begun s.leases; batches = begun s.batches; counters = begun s.counters }

abbrev pub committed_in : Store → Store
committed_in s = record s { places = committed s.places; leases = committed s.leases; batches = committed s.batches; counters = committed s.counters }

abbrev pub undone_in : Store → Store
undone_in s = record s { places = undone s.places; leases = undone s.leases; batches = undone s.batches; counters = undone s.counters }
