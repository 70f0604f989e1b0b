use Rattle.std.proofs.Common.{◌≡◌, ◌∙◌, ◌+◌, ◌∷◌, ◌++◌, Global, List, Vec, ℕ, true, false, [], ap, drop, get_or, subst, sym}
use Rattle.sk_batch.specs.Due.{fires_where}
use Rattle.sk_batch.specs.Places.{Climb, climbed}
use Rattle.sk_batch.specs.States.{StateEntry}
use Rattle.sk_batch.specs.declared.firing.Firing.{Firing}
use Rattle.sk_batch.proofs.Climbs.{climbed_one, fired_one, next_place}
use Rattle.sk_batch.proofs.ancestors.fire_where.Goals as goal
use Rattle.sk_batch.proofs.ancestors.fire_where.Goals.{then-test+in_ok-firing+in_ok-push, else-test}

pub loop-place-preserved : goal.loop-place-preserved
loop-place-preserved g c =
    let batches = c.args.batches.now.list.current in
    let places = c.args.places.now in
    let i = c.loop-place.place-index in
    let above : List ℕ = drop (i + 1) places in
    let entry : StateEntry = c.get-entry.result.now in
    let test = g.F.Predicate.passes c.args.test.now in
    let next = next_place places i c.loop-place-test.true in
    let climb : Climb (get_or places i 0 ∷ above) batches = subst (λ (l : List ℕ). Climb l batches) next c.loop-place.invariant.climb in
    let all : climbed (drop i places) batches ≡ entry ∷ climbed above batches = ap (λ (l : List ℕ). climbed l batches) next ∙ climbed_one (get_or places i 0) above batches entry climb c.get-entry.ensures in
    let fires : List Firing = c.loop-place.firings.items in
    let more : c.if-test.firings.items ++ fires_where c.args.kind test (climbed above batches) ≡ fires ++ fires_where c.args.kind test (entry ∷ climbed above batches) = elim c.if-test.branch [
      | then-test+in_ok-firing+in_ok-push w ↦ fired_one c.args.kind test entry (climbed above batches) fires c.if-test.firings.items true (sym c.test.ensures ∙ w.if-test.true)
          (ap (λ (v : Vec Firing Global). v.items) w.firings-is ∙ w.in_ok-push.ensures.items ∙ ap (λ (f : Firing). fires ++ f ∷ []) w.in_ok-firing.ensures)
      | else-test w ↦ fired_one c.args.kind test entry (climbed above batches) fires c.if-test.firings.items false (sym c.test.ensures ∙ w.if-test.false) (ap (λ (v : Vec Firing Global). v.items) w.firings-is)
    ] in
    record {
      climb = climb.2;
      rest = more ∙ ap (λ (l : List StateEntry). fires ++ fires_where c.args.kind test l) (sym all) ∙ c.loop-place.invariant.rest;
    }
