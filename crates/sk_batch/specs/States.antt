-- Batches with all that is kept of each.
use Rattle.std.specs.Prelude.{◌≡◌, true, false, Bool, List, [], ◌∷◌}
use Rattle.std.specs.List.{list_all}
use Rattle.sk_resp.specs.Spelling.{Bytes}
use Rattle.sk_undo.specs.Versions.{Versions}
use Rattle.sk_batch.specs.Along.{retag}
use Rattle.sk_batch.specs.Batched.{Batched, BatchEntry, MemberEntry, has_bid, is_there}
use Rattle.sk_batch.specs.Fires.{retagged, with_kind}
use Rattle.sk_batch.specs.Numbers.{changed, no_numbers, numbers_in}
use Rattle.sk_batch.specs.Order.{is_ordered}
use Rattle.sk_batch.specs.declared.batch.Batch.{Batch}
use Rattle.sk_batch.specs.declared.firing.Firing.{Firing}
use Rattle.sk_batch.specs.declared.firing.Kind.{Kind}
use Rattle.sk_batch.specs.declared.numbers.Change.{Change}
use Rattle.sk_batch.specs.declared.numbers.Numbers.{Numbers}
use Rattle.sk_batch.specs.declared.state.State.{State}

abbrev pub StateEntry : Type 0
StateEntry = State × Batch

-- what the world sees of them
abbrev pub seen_of : List StateEntry → List BatchEntry
seen_of batches = retag (λ (b : StateEntry). b.0.fired) batches

-- these batches and members, whatever their limit
abbrev pub of_lists : List BatchEntry → List MemberEntry → Batched
of_lists batches members = record { most = 0; batches = batches; members = members }

-- batches with their numbers
abbrev pub with_numbers : (Batch → Numbers) → List BatchEntry → List StateEntry
with_numbers numbers batches = retag (λ (b : BatchEntry). record { fired = b.0; numbers = numbers b.1 }) batches

-- The numbers are those of the members, each member is of a batch that was made, and they stand in order.
pub record BatchInvariant (batches : List StateEntry) (members : List MemberEntry) : Type 0 where
  pub counted : batches ≡ with_numbers (numbers_in (seen_of batches) members) (seen_of batches)
  pub homes : list_all (λ m. is_there m.1.bid (seen_of batches)) members ≡ true
  pub ordered : is_ordered members ≡ true

-- ## What changes

-- of a batch that is made, without jobs or with some that are still to come
abbrev pub new_state : Bool → State
new_state empty = record { fired = record { complete = empty; success = empty; death = false }; numbers = no_numbers }

abbrev pub with_fired : Kind → State → State
with_fired kind state = record { fired = with_kind kind state.fired; numbers = state.numbers }

-- this was fired of them
abbrev pub all_fired : List Firing → List StateEntry → List StateEntry
all_fired [] batches = batches
all_fired (f ∷ fs) batches = all_fired fs (retagged (has_bid f.bid) (with_fired f.kind) batches)

-- a change has come to the batch of this bid
abbrev pub with_change : Change → Bytes → StateEntry → State
with_change change bid b = record { fired = b.0.fired; numbers = changed change (has_bid bid b) b.0.numbers }

-- only what is kept of the batches was edited
pub record AreEdited (old new : Versions (List StateEntry)) (batches : List BatchEntry) : Type 0 where
  pub current : seen_of new.current ≡ batches
  pub saved : new.saved ≡ old.saved
