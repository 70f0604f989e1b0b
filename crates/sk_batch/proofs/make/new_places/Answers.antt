use Rattle.std.proofs.Common.{◌≡◌, ◌∙◌, ◌+◌, ◌∷◌, ◌++◌, List, ℕ, [], ap, append-nil, append_assoc, arith, drop, get_or, subst, sym}
use Rattle.std.proofs.lemmas.List.{drop_all}
use Rattle.sk_batch.specs.Places.{AreAncestors, Climb, first_place}
use Rattle.sk_batch.specs.States.{StateEntry}
use Rattle.sk_batch.proofs.Climbs.{new_ancestors, next_place, shifted}
use Rattle.sk_batch.proofs.make.new_places.Goals as goal

pub loop-place-init : goal.loop-place-init
loop-place-init c = record {
  climb = subst (λ (l : List ℕ). Climb l c.args.batches.now.list.current) (sym c.deref-place-items.ensures.value) c.in_ok-above.ensures.climb;
  shifted = ap (λ (l : List ℕ). l ++ shifted c.deref-place-items.result.now) (c.in_ok-push.ensures.items ∙ ap (λ (l : List ℕ). l ++ 0 ∷ []) c.new-places.ensures.items);
}

pub overflow_add-place : goal.overflow_add-place
overflow_add-place c =
    let next = next_place c.deref-place-items.result.now c.loop-place.place-index c.loop-place-test.true in
    let climb = subst (λ (l : List ℕ). Climb l c.args.batches.now.list.current) next c.loop-place.invariant.climb in
    omega (arith, climb.0, c.len-len.ensures.is, c.len-len.ensures.small)

pub loop-place-preserved : goal.loop-place-preserved
loop-place-preserved c =
    let items : List ℕ = c.deref-place-items.result.now in
    let i = c.loop-place.place-index in
    let above : List ℕ = drop (i + 1) items in
    let places : List ℕ = c.loop-place.places.items in
    let next = next_place items i c.loop-place-test.true in
    let climb : Climb (get_or items i 0 ∷ above) c.args.batches.now.list.current = subst (λ (l : List ℕ). Climb l c.args.batches.now.list.current) next c.loop-place.invariant.climb in
    record {
      climb = climb.2;
      shifted = ap (λ (l : List ℕ). l ++ shifted above) c.in_ok-push-2.ensures.items ∙ append_assoc places ((get_or items i 0 + 1) ∷ []) (shifted above) ∙ ap (λ (l : List ℕ). places ++ shifted l) (sym next) ∙ c.loop-place.invariant.shifted;
    }

pub returns : goal.returns
returns c = λ state.
    let batches = c.args.batches.now.list.current in
    let items : List ℕ = c.deref-place-items.result.now in
    let entry : StateEntry = (state, c.args.batch.now) in
    let same : items ≡ c.in_ok-above.above.items = c.deref-place-items.ensures.value in
    let end : drop c.loop-place.place-index items ≡ [] = drop_all c.loop-place.place-index items (omega (arith, c.loop-place-test.false)) in
    let places : c.loop-place.places.items ≡ 0 ∷ shifted items = sym (append-nil c.loop-place.places.items) ∙ ap (λ (l : List ℕ). c.loop-place.places.items ++ shifted l) (sym end) ∙ c.loop-place.invariant.shifted in
    let climb : Climb items batches = subst (λ (l : List ℕ). Climb l batches) (sym same) c.in_ok-above.ensures.climb in
    subst (λ (l : List ℕ). AreAncestors c.args.batch.now.bid l (entry ∷ batches)) (sym places) (new_ancestors entry items batches (ap (λ (l : List ℕ). first_place l batches) same ∙ c.in_ok-above.ensures.first) climb)
