use Rattle.std.proofs.Common.{◌≡◌, ◌∙◌, ◌++◌, ◌∷◌, ◌<◌, List, [], ℕ, length, ap, arith, append-nil, append_assoc, refl, subst, sym}
use Rattle.sk_batch.specs.Places.{AreAncestors}
use Rattle.sk_batch.proofs.ancestors.ancestor_places.Goals as goal

pub outwards-init : goal.outwards-init
outwards-init c = record {
  within = c.find-at.ensures.within;
  found = λ rest first climb. subst (λ (places : List ℕ). AreAncestors c.args.bid.now (places ++ rest) c.args.batches.now.list.current) (sym c.new-places.ensures.items) (record { first = first ∙ c.find-at.ensures.is; climb = climb });
}

pub outwards-preserved : goal.outwards-preserved
outwards-preserved c =
    let batches = c.args.batches.now.list.current in
    let at = c.outwards.at in
    let within : at < length batches = omega (arith, c.outwards-test.true, c.len.ensures.is) in
    record {
      within = c.climb-above.ensures.within;
      found = λ rest first climb.
          let all = c.outwards.invariant.found (at ∷ rest) refl (within, first ∙ c.climb-above.ensures.above, climb) in
          let places : c.outwards.places.items ++ at ∷ rest ≡ c.push.new.self.items ++ rest = sym (ap (λ (l : List ℕ). l ++ rest) c.in_ok-push.ensures.items ∙ append_assoc c.outwards.places.items (at ∷ []) rest) in
          subst (λ (l : List ℕ). AreAncestors c.args.bid.now l batches) places all;
    }

pub returns : goal.returns
returns c =
    let end : length c.args.batches.now.list.current ≡ c.outwards.at = omega (arith, c.outwards-test.false, c.len.ensures.is, c.outwards.invariant.within) in
    subst (λ (l : List ℕ). AreAncestors c.args.bid.now l c.args.batches.now.list.current) (append-nil c.outwards.places.items) (c.outwards.invariant.found [] end tt)
