use Rattle.std.proofs.Common.{◌≡◌, ◌++◌, drop}
use Rattle.sk_batch.specs.Due.{fires_where}
use Rattle.sk_batch.specs.Places.{Climb, climbed}
use Rattle.sk_batch.proofs.ancestors.fire_where.Given as goal

abbrev pub invariant-loop-place : goal.invariant-loop-place
invariant-loop-place g l = record {
  climb : Climb (drop l.place-index l.places) l.batches.list.current;
  rest : l.firings.items ++ fires_where l.kind (g.F.Predicate.passes l.test) (climbed (drop l.place-index l.places) l.batches.list.current) ≡ l.initial.firings.items ++ fires_where l.kind (g.F.Predicate.passes l.test) (climbed l.places l.batches.list.current);
}
