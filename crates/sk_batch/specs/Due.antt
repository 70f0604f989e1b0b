-- What is due when a member gets marks, as the numbers of the batches tell before they change.
use Rattle.std.specs.Prelude.{Bool, not, ◌&&◌, List, [], ◌++◌, filter, map, nat_eq}
use Rattle.sk_batch.specs.Fires.{firing}
use Rattle.sk_batch.specs.Numbers.{left_after}
use Rattle.sk_batch.specs.States.{StateEntry}
use Rattle.sk_batch.specs.declared.event.Event.{Event}
use Rattle.sk_batch.specs.declared.event.Event.TheVariants as event
use Rattle.sk_batch.specs.declared.firing.Firing.{Firing}
use Rattle.sk_batch.specs.declared.firing.Kind.{Kind}
use Rattle.sk_batch.specs.declared.firing.Kind.TheVariants.{Complete, Success, Death}
use Rattle.sk_batch.specs.declared.member.Progress.{Progress}
use Rattle.sk_batch.specs.declared.numbers.Change.TheVariants.{Got}

-- the batch wasn't complete before, and no member under it is unreported then
abbrev pub completes_by : Progress → StateEntry → Bool
completes_by gained b = not b.0.fired.complete && nat_eq (left_after (Got gained) b.0.numbers.under).unreported 0

-- no member under the batch is open then, and one was before
abbrev pub settles_by : Progress → StateEntry → Bool
settles_by gained b = nat_eq (left_after (Got gained) b.0.numbers.under).unreturned 0 && not (nat_eq b.0.numbers.under.unreturned 0)

-- no member under the batch was buried before
abbrev pub dies_yet : StateEntry → Bool
dies_yet b = not b.0.fired.death

-- one kind, of the batches that pass, in their order
abbrev pub fires_where : Kind → (StateEntry → Bool) → List StateEntry → List Firing
fires_where kind test ancestors = map (λ b. firing kind b.1) (filter test ancestors)

abbrev pub later_due : Event → Progress → List StateEntry → List Firing
later_due event.Reported gained ancestors = []
later_due event.Returned gained ancestors = fires_where Success (settles_by gained) ancestors
later_due event.Died gained ancestors = fires_where Death dies_yet ancestors

-- of a batch and those that it is in
abbrev pub due : Event → Progress → List StateEntry → List Firing
due event gained ancestors = fires_where Complete (completes_by gained) ancestors ++ later_due event gained ancestors
