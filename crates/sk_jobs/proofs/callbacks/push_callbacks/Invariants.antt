use Rattle.std.proofs.Common.{◌≡◌, ◌≤◌, ◌+◌, ◌++◌, [], length}
use Rattle.sk_places.specs.Totals.{last_push, pushes_in}
use Rattle.sk_model.specs.Change.{perform}
use Rattle.sk_model.specs.Notify.{fired_texts}
use Rattle.sk_store.specs.Stored.{InStep, world}
use Rattle.sk_jobs.specs.Callbacks.{callback_pushes}
use Rattle.sk_jobs.specs.Routing.{Takes}
use Rattle.sk_jobs.proofs.callbacks.push_callbacks.Given as goal

-- what is left to be called comes behind what was
abbrev pub invariant-loop-firing : goal.invariant-loop-firing
invariant-loop-firing l = record {
  called : perform (world l.store) (callback_pushes l.firing-iterator.rest.items) ≡ perform (world l.initial.store) (callback_pushes l.initial.firing-iterator.rest.items);
  told : l.fired.items ++ fired_texts l.firing-iterator.rest.items ≡ fired_texts l.initial.firing-iterator.rest.items;
  aside : Takes [] l.initial.store l.store;
  few : pushes_in (world l.store).tally + length l.firing-iterator.rest.items ≤ last_push;
  step : InStep l.initial.store l.store;
}
