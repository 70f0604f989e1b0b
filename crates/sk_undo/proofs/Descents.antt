-- A walk down for the first item that passes.
use Rattle.std.proofs.Common.{◌≡◌, ◌+◌, ◌≤◌, ◌<◌, Bool, true, false, List, [], ◌∷◌, ◌++◌, length, slice_get, refl, arith}
use Rattle.std.specs.List.{position_or_len}
use Rattle.std.specs.Ordering.{is_eq, is_le}
use Rattle.std.specs.declared.cmp.Ordering.{Ordering}
use Rattle.sk_undo.specs.Partitioned.{all_pass, is_partitioned}
use Rattle.sk_undo.specs.Sorted.{is_match, is_match_or, rank}

module _ {T : Type 0} (t : T → Bool) where
  all_partitioned : (xs : List T) → all_pass t xs ≡ true → is_partitioned t xs ≡ true
  all_partitioned [] h = refl
  all_partitioned (x ∷ xs) h = grind (arith, all_partitioned xs)

  all_left : (xs : List T) (x : T) (ys : List T) → all_pass t (xs ++ x ∷ ys) ≡ true → all_pass t xs ≡ true
  all_left [] x ys h = refl
  all_left (y ∷ xs) x ys h = grind (arith, all_left xs x ys)

  all_right : (xs : List T) (x : T) (ys : List T) → all_pass t (xs ++ x ∷ ys) ≡ true → all_pass t ys ≡ true
  all_right [] x ys h = grind (arith, h)
  all_right (y ∷ xs) x ys h = grind (arith, h, all_right xs x ys)

  all_here : (xs : List T) (x : T) (ys : List T) → all_pass t (xs ++ x ∷ ys) ≡ true → t x ≡ true
  all_here [] x ys h = grind (arith, h)
  all_here (y ∷ xs) x ys h = grind (arith, h, all_here xs x ys)

  pub partitioned_left : (xs : List T) (x : T) (ys : List T) → is_partitioned t (xs ++ x ∷ ys) ≡ true → is_partitioned t xs ≡ true
  partitioned_left [] x ys h = refl
  partitioned_left (y ∷ xs) x ys h = grind (arith, h, partitioned_left xs x ys, all_left xs x ys)

  pub partitioned_right : (xs : List T) (x : T) (ys : List T) → is_partitioned t (xs ++ x ∷ ys) ≡ true → is_partitioned t ys ≡ true
  partitioned_right [] x ys h = grind (arith, h, all_partitioned ys)
  partitioned_right (y ∷ xs) x ys h = grind (arith, h, partitioned_right xs x ys, all_right xs x ys, all_partitioned ys)

  pub first_left : (xs : List T) (x : T) (ys : List T) → t x ≡ true → position_or_len t (xs ++ x ∷ ys) ≡ position_or_len t xs
  first_left [] x ys h = grind (arith, h)
  first_left (y ∷ xs) x ys h = grind (arith, h, first_left xs x ys)

  pub first_right : (xs : List T) (x : T) (ys : List T) → t x ≡ false → is_partitioned t (xs ++ x ∷ ys) ≡ true → position_or_len t (xs ++ x ∷ ys) ≡ length xs + 1 + position_or_len t ys
  first_right [] x ys h r = grind (arith, h)
  first_right (y ∷ xs) x ys h r = grind (arith, h, r, first_right xs x ys, all_here xs x ys)

  -- a search in any order: on the left side, at the item, on the right side
  pub position_left : (xs : List T) (x : T) (ys : List T) → position_or_len t xs < length xs → position_or_len t (xs ++ x ∷ ys) ≡ position_or_len t xs
  position_left [] x ys h = absurd (omega (arith, h))
  position_left (y ∷ xs) x ys h = grind (arith, h, position_left xs x ys)

  pub position_right : (xs : List T) (x : T) (ys : List T) → length xs ≤ position_or_len t xs → position_or_len t (xs ++ x ∷ ys) ≡ length xs + position_or_len t (x ∷ ys)
  position_right [] x ys h = grind (arith, h)
  position_right (y ∷ xs) x ys h = grind (arith, h, position_right xs x ys)

-- whether the first item that isn't before what is looked for matches it
module _ {T : Type 0} (order : T → Ordering) where
  pub match_left : (last : Bool) (xs : List T) (x : T) (ys : List T) → is_le (order x) ≡ true → is_match_or order last (slice_get (xs ++ x ∷ ys) (rank order (xs ++ x ∷ ys))) ≡ is_match_or order (is_eq (order x)) (slice_get xs (rank order xs))
  match_left last [] x ys h = grind (arith, h)
  match_left last (y ∷ xs) x ys h = grind (arith, h, match_left last xs x ys)

  pub match_right : (last : Bool) (xs : List T) (x : T) (ys : List T) → is_le (order x) ≡ false → is_partitioned (λ y. is_le (order y)) (xs ++ x ∷ ys) ≡ true → is_match_or order last (slice_get (xs ++ x ∷ ys) (rank order (xs ++ x ∷ ys))) ≡ is_match_or order last (slice_get ys (rank order ys))
  match_right last [] x ys h r = grind (arith, h)
  match_right last (y ∷ xs) x ys h r = grind (arith, h, r, match_right last xs x ys, all_here (λ z. is_le (order z)) xs x ys)
