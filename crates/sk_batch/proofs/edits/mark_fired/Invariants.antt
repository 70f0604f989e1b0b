use Rattle.std.proofs.Common.{◌≡◌, ◌+◌, ◌≤◌, drop}
use Rattle.sk_batch.specs.States.{all_fired}
use Rattle.sk_batch.proofs.edits.mark_fired.Given as goal

abbrev pub invariant-loop-firing : goal.invariant-loop-firing
invariant-loop-firing l = record {
  rest : all_fired (drop l.firing-index l.firings) l.batches.list.current ≡ all_fired l.firings l.initial.batches.list.current;
  saved : l.batches.list.saved ≡ l.initial.batches.list.saved;
  room : l.initial.batches.room ≤ l.batches.room + l.firing-index;
}
