-- The index of batches by their bids tells the places of the batches.
use Rattle.std.proofs.Common.{◌≡◌, ℕ, zero, suc, ◌+◌, ◌<◌, ◌≤◌, Bool, true, false, cond, List, [], ◌∷◌, Option, Some, None, length, drop, refl, sym, ap, ◌∙◌, arith}
use Rattle.std.specs.BTreeMap.{insert_entry, is_at}
use Rattle.std.specs.Cmp.{IsTotalOrder}
use Rattle.std.specs.List.{list_any, position_or_len}
use Rattle.std.specs.Map.{lookup}
use Rattle.std.specs.Ordering.{is_eq, match_ordering, ordering_reverse}
use Rattle.std.specs.declared.cmp.Ordering.{Ordering}
use Rattle.std.specs.declared.cmp.Ordering.TheVariants.{Less, Equal, Greater}
use Rattle.std.proofs.lemmas.Cmp.{nat_list_cmp_total}
use Rattle.std.proofs.lemmas.Map.Text.{is_eq-slice_cmp}
use Rattle.std.proofs.lemmas.Slice.Eq.{bytes_eq-Decides}
use Rattle.sk_resp.specs.Spelling.{Bytes}
use Rattle.sk_resp.specs.WordOrder.{text_cmp}
use Rattle.sk_batch.specs.Batched.{has_bid}
use Rattle.sk_batch.specs.Places.{each_once, index_of}
use Rattle.sk_batch.proofs.Repeats.{bytes_eq-sym}
use Rattle.sk_batch.specs.declared.batch.Batch.{Batch}

-- ## A key that is put into a map

is_equal : (o : Ordering) → is_eq o ≡ true → o ≡ Equal
is_equal Less h = absurd (cc h)
is_equal Equal h = refl
is_equal Greater h = absurd (cc h)

not_equal : (o : Ordering) → Equal ≡ o → o ≡ Greater → ⊥
not_equal o e g = let h : Equal ≡ Greater = e ∙ g in cc h

module _ {K : Type 0} {R : K → K → Ordering} (total : IsTotalOrder R) where
  -- what is equal to the second compares to the first as the second does
  same_order : (x y z : K) → R y z ≡ Equal → R x z ≡ R x y
  same_order x y z e = total.antisymm x z ∙ ap ordering_reverse (sym (total.congr y z x e)) ∙ sym (total.antisymm x y)

  both_equal : (q k x : K) → R k x ≡ Greater → is_eq (R q k) ≡ true → is_eq (R q x) ≡ false
  both_equal q k x g h = by (is_eq (R q x)) refl where
    by : (b : Bool) → is_eq (R q x) ≡ b → b ≡ false
    by false e = refl
    by true e = absurd (not_equal (R k x) (sym (is_equal (R q x) e) ∙ total.congr q k x (is_equal (R q k) h)) g)

module _ {K V : Type 0} {R : K → K → Ordering} (total : IsTotalOrder R) where
  put_at : (r : Ordering) (e : K × V) (es : List (K × V)) (k : K) (v : V) (q : K) → R k e.0 ≡ r → lookup (is_at (R q)) (insert_entry R es k v) ≡ cond (is_eq (R q k)) (Some v) (lookup (is_at (R q)) es)
      → lookup (is_at (R q)) (match_ordering r ((k, v) ∷ e ∷ es) ((e.0, v) ∷ es) (e ∷ insert_entry R es k v)) ≡ cond (is_eq (R q k)) (Some v) (lookup (is_at (R q)) (e ∷ es))
  put_at Less e es k v q o ih = refl
  put_at Equal e es k v q o ih = let s : is_eq (R q e.0) ≡ is_eq (R q k) = ap is_eq (same_order total q k e.0 o) in grind (arith, s)
  put_at Greater e es k v q o ih = let n = both_equal total q k e.0 o in grind (arith, n, ih)

  pub lookup_put : (es : List (K × V)) (k : K) (v : V) (q : K) → lookup (is_at (R q)) (insert_entry R es k v) ≡ cond (is_eq (R q k)) (Some v) (lookup (is_at (R q)) es)
  lookup_put [] k v q = refl
  lookup_put (e ∷ es) k v q = put_at (R k e.0) e es k v q refl (lookup_put es k v q)

-- ## The place of a bid

module _ {K : Type 0} where
  -- how many batches stand behind the one of this bid
  abbrev number_of : Bytes → List (K × Batch) → Option ℕ
  number_of bid [] = None
  number_of bid (b ∷ older) = cond (has_bid bid b) (Some (length older)) (number_of bid older)

  is_number : (bid : Bytes) (batches : List (K × Batch)) → lookup (is_at (text_cmp bid)) (index_of batches) ≡ number_of bid batches
  is_number bid [] = refl
  is_number bid (b ∷ older) =
      let put = lookup_put nat_list_cmp_total (index_of older) b.1.bid (length older) bid in
      let same : is_eq (text_cmp bid b.1.bid) ≡ has_bid bid b = is_eq-slice_cmp bid b.1.bid ∙ bytes_eq-sym bid b.1.bid in
      put ∙ (let ih = is_number bid older in grind (arith, same, ih))

  placed : (bid : Bytes) (batches : List (K × Batch)) (n : ℕ) → number_of bid batches ≡ Some n → suc (position_or_len (has_bid bid) batches + n) ≡ length batches
  placed bid [] n h = absurd (cc h)
  placed bid (b ∷ older) n h = by (has_bid bid b) refl (placed bid older n) where
    by : (own : Bool) → has_bid bid b ≡ own → (number_of bid older ≡ Some n → suc (position_or_len (has_bid bid) older + n) ≡ length older) → suc (position_or_len (has_bid bid) (b ∷ older) + n) ≡ length (b ∷ older)
    by true own ih = let e : Some (length older) ≡ Some n = grind (arith, h, own) in grind (arith, e, own)
    by false own ih = let e = ih (grind (arith, h, own)) in grind (arith, e, own)

  placed_nowhere : (bid : Bytes) (batches : List (K × Batch)) → number_of bid batches ≡ None → position_or_len (has_bid bid) batches ≡ length batches
  placed_nowhere bid [] h = refl
  placed_nowhere bid (b ∷ older) h = by (has_bid bid b) refl (placed_nowhere bid older) where
    by : (own : Bool) → has_bid bid b ≡ own → (number_of bid older ≡ None → position_or_len (has_bid bid) older ≡ length older) → position_or_len (has_bid bid) (b ∷ older) ≡ length (b ∷ older)
    by true own ih = let e : Some (length older) ≡ None = grind (arith, h, own) in absurd (cc e)
    by false own ih = let e = ih (grind (arith, h, own)) in grind (arith, e, own)

  pub place_found : (bid : Bytes) (batches : List (K × Batch)) (n : ℕ) → Some n ≡ lookup (is_at (text_cmp bid)) (index_of batches) → suc (position_or_len (has_bid bid) batches + n) ≡ length batches
  place_found bid batches n h = placed bid batches n (sym (h ∙ is_number bid batches))

  pub place_nowhere : (bid : Bytes) (batches : List (K × Batch)) → None ≡ lookup (is_at (text_cmp bid)) (index_of batches) → length batches ≡ position_or_len (has_bid bid) batches
  place_nowhere bid batches h = sym (placed_nowhere bid batches (sym (h ∙ is_number bid batches)))

-- ## The same from a place on

module _ {X : Type 0} (p : X → Bool) where
  pub from_place : (xs : List X) (first at : ℕ) → at ≡ position_or_len p xs → first ≤ at → at ≡ first + position_or_len p (drop first xs)
  from_place [] zero at e h = omega (arith, e)
  from_place [] (suc n) at e h = absurd (omega (arith, e, h))
  from_place (x ∷ xs) zero at e h = omega (arith, e)
  from_place (x ∷ xs) (suc n) zero e h = absurd (omega (arith, h))
  from_place (x ∷ xs) (suc n) (suc at) e h =
      let y : at ≡ position_or_len p xs = grind (arith, e) in
      let ih = from_place xs n at y (omega (arith, h)) in
      omega (arith, ih)

  none_from : (xs : List X) (first : ℕ) → first ≤ length xs → list_any p xs ≡ false → length xs ≡ first + position_or_len p (drop first xs)
  none_from [] zero h n = refl
  none_from [] (suc first) h n = absurd (omega (arith, h))
  none_from (x ∷ xs) zero h n = let all = none_from xs zero (omega arith) in grind (arith, all, n)
  none_from (x ∷ xs) (suc first) h n = let ih = none_from xs first (omega (arith, h)) (grind (arith, n)) in omega (arith, ih)

-- a bid that stands before the place stands nowhere behind it
pub behind_place : {K : Type 0} (bid : Bytes) (batches : List (K × Batch)) (first at : ℕ) → each_once batches ≡ true → first ≤ length batches → at ≡ position_or_len (has_bid bid) batches → at < first → length batches ≡ first + position_or_len (has_bid bid) (drop first batches)
behind_place bid [] first at o w e h = absurd (omega (arith, w, h))
behind_place bid (b ∷ older) zero at o w e h = absurd (omega (arith, h))
behind_place bid (b ∷ older) (suc n) at o w e h = by (has_bid bid b) refl (behind_place bid older n (position_or_len (has_bid bid) older)) where
  by : (own : Bool) → has_bid bid b ≡ own
      → (each_once older ≡ true → n ≤ length older → position_or_len (has_bid bid) older ≡ position_or_len (has_bid bid) older → position_or_len (has_bid bid) older < n → length older ≡ n + position_or_len (has_bid bid) (drop n older))
      → length (b ∷ older) ≡ suc n + position_or_len (has_bid bid) (drop n older)
  by true own ih =
      let same : b.1.bid ≡ bid = (bytes_eq-Decides b.1.bid bid).0 own in
      let once : list_any (has_bid b.1.bid) older ≡ false = grind (arith, o) in
      let none = none_from (has_bid bid) older n (omega (arith, w)) (ap (λ (x : Bytes). list_any (has_bid x) older) (sym same) ∙ once) in
      omega (arith, none)
  by false own ih =
      let y : at ≡ suc (position_or_len (has_bid bid) older) = grind (arith, e, own) in
      let rest : each_once older ≡ true = grind (arith, o) in
      let e = ih rest (omega (arith, w)) refl (omega (arith, y, h)) in
      omega (arith, e)
