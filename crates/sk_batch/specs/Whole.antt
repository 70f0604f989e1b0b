-- What the fields stand for.
use Rattle.std.specs.Prelude.{◌≡◌, List, Option, Some, None}
use Rattle.std.specs.Option.{is_some}
use Rattle.sk_undo.specs.Versions.{Versions, both, map_versions}
use Rattle.sk_batch.specs.Batched.{Batched, MemberEntry}
use Rattle.sk_batch.specs.States.{BatchInvariant, StateEntry, seen_of}
use Rattle.sk_batch.specs.declared.batches.Batches.TheInside.{Inside}

abbrev pub batched_in : Inside → Versions Batched
batched_in a = both (λ batches members. record { most = a.most; batches = batches; members = members }) (map_versions seen_of a.batches.list) a.members.list

abbrev pub were_kept : Option (List StateEntry) → Option (List MemberEntry) → Type 0
were_kept None members = Unit {0}
were_kept (Some batches) None = Unit {0}
were_kept (Some batches) (Some members) = BatchInvariant batches members

-- the two lists are in one step, and their numbers and their order are right, as they were at its begin
pub record IsSound (batches : Versions (List StateEntry)) (members : Versions (List MemberEntry)) : Type 0 where
  pub together : is_some batches.saved ≡ is_some members.saved
  pub current : BatchInvariant batches.current members.current
  pub saved : were_kept batches.saved members.saved

abbrev pub is_sound : Inside → Type 0
is_sound a = IsSound a.batches.list a.members.list
