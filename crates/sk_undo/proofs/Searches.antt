-- A search in a range of a list in two parts.
use Rattle.std.proofs.Common.{◌≡◌, ℕ, ◌+◌, ◌-◌, ◌<◌, ◌≤◌, Bool, true, false, List, ◌∷◌, ◌++◌, length, take, drop, sym, arith, ap, length-take, length-drop, ◌∙◌}
use Rattle.std.specs.List.{position_or_len}
use Rattle.sk_undo.specs.Partitioned.{is_partitioned}
use Rattle.sk_undo.proofs.Descents.{first_left, first_right, position_left, position_right, partitioned_left, partitioned_right}
use Rattle.sk_undo.proofs.Ranges.{range_around, range_right}

module _ {X : Type 0} (t : X → Bool) where
  place_yes : (x : X) (xs : List X) → t x ≡ true → position_or_len t (x ∷ xs) ≡ 0
  place_yes x xs h = grind (arith, h)

  place_no : (x : X) (xs : List X) → t x ≡ false → position_or_len t (x ∷ xs) ≡ 1 + position_or_len t xs
  place_no x xs h = grind (arith, h)

  front_length : (xs : List X) (first : ℕ) → first ≤ length xs → length (drop first (take (length xs) xs)) ≡ length xs - first
  front_length xs first h = let d = length-drop first (take (length xs) xs) in let k = length-take (length xs) xs in omega (arith, d, k, h)

  pub found_left : (xs : List X) (x : X) (ys : List X) (first end at : ℕ) → first ≤ length xs → length xs < end → at ≡ first + position_or_len t (drop first (take (length xs) xs)) → at < length xs → at ≡ first + position_or_len t (drop first (take end (xs ++ x ∷ ys)))
  found_left xs x ys first end at h k is less =
      let n = front_length xs first h in
      let left = position_left t (drop first (take (length xs) xs)) x (drop 0 (take (end - length xs - 1) ys)) (omega (arith, n, is, less, h)) in
      let same = ap (position_or_len t) (range_around xs x ys first end h k) in
      omega (arith, is, left, same)

  pub found_here : (xs : List X) (x : X) (ys : List X) (first end at : ℕ) → first ≤ length xs → length xs < end → at ≡ first + position_or_len t (drop first (take (length xs) xs)) → length xs ≤ at → t x ≡ true → length xs ≡ first + position_or_len t (drop first (take end (xs ++ x ∷ ys)))
  found_here xs x ys first end at h k is more passes =
      let n = front_length xs first h in
      let right = position_right t (drop first (take (length xs) xs)) x (drop 0 (take (end - length xs - 1) ys)) (omega (arith, n, is, more, h)) in
      let here = place_yes x (drop 0 (take (end - length xs - 1) ys)) passes in
      let same = ap (position_or_len t) (range_around xs x ys first end h k) in
      omega (arith, is, right, here, same, n, h)

  pub found_right : (xs : List X) (x : X) (ys : List X) (first end at behind : ℕ) → first ≤ length xs → length xs < end → at ≡ first + position_or_len t (drop first (take (length xs) xs)) → length xs ≤ at → t x ≡ false → behind ≡ 0 + position_or_len t (drop 0 (take (end - length xs - 1) ys)) → length xs + 1 + behind ≡ first + position_or_len t (drop first (take end (xs ++ x ∷ ys)))
  found_right xs x ys first end at behind h k is more fails there =
      let n = front_length xs first h in
      let right = position_right t (drop first (take (length xs) xs)) x (drop 0 (take (end - length xs - 1) ys)) (omega (arith, n, is, more, h)) in
      let here = place_no x (drop 0 (take (end - length xs - 1) ys)) fails in
      let same = ap (position_or_len t) (range_around xs x ys first end h k) in
      omega (arith, is, right, here, same, n, h, there)

  -- the same where all behind the first that passes do
  partitioned_around : (xs : List X) (x : X) (ys : List X) (first end : ℕ) → first ≤ length xs → length xs < end → is_partitioned t (drop first (take end (xs ++ x ∷ ys))) ≡ true → is_partitioned t (drop first (take (length xs) xs) ++ x ∷ drop 0 (take (end - length xs - 1) ys)) ≡ true
  partitioned_around xs x ys first end h k up = sym (ap (is_partitioned t) (range_around xs x ys first end h k)) ∙ up

  pub partitioned_first : (xs : List X) (x : X) (ys : List X) (first end : ℕ) → first ≤ length xs → length xs < end → is_partitioned t (drop first (take end (xs ++ x ∷ ys))) ≡ true → is_partitioned t (drop first (take (length xs) xs)) ≡ true
  partitioned_first xs x ys first end h k up = partitioned_left t (drop first (take (length xs) xs)) x (drop 0 (take (end - length xs - 1) ys)) (partitioned_around xs x ys first end h k up)

  pub partitioned_second : (xs : List X) (x : X) (ys : List X) (first end : ℕ) → first ≤ length xs → length xs < end → is_partitioned t (drop first (take end (xs ++ x ∷ ys))) ≡ true → is_partitioned t (drop 0 (take (end - length xs - 1) ys)) ≡ true
  partitioned_second xs x ys first end h k up = partitioned_right t (drop first (take (length xs) xs)) x (drop 0 (take (end - length xs - 1) ys)) (partitioned_around xs x ys first end h k up)

  pub partitioned_past : (xs : List X) (x : X) (ys : List X) (first end : ℕ) → length xs < first → length xs < end → is_partitioned t (drop first (take end (xs ++ x ∷ ys))) ≡ true → is_partitioned t (drop (first - length xs - 1) (take (end - length xs - 1) ys)) ≡ true
  partitioned_past xs x ys first end h k up = sym (ap (is_partitioned t) (range_right xs x ys first end h k)) ∙ up

  pub first_before : (xs : List X) (x : X) (ys : List X) (first end at : ℕ) → first ≤ length xs → length xs < end → t x ≡ true → at ≡ first + position_or_len t (drop first (take (length xs) xs)) → at ≡ first + position_or_len t (drop first (take end (xs ++ x ∷ ys)))
  first_before xs x ys first end at h k passes is =
      let left = first_left t (drop first (take (length xs) xs)) x (drop 0 (take (end - length xs - 1) ys)) passes in
      let same = ap (position_or_len t) (range_around xs x ys first end h k) in
      omega (arith, is, left, same)

  pub first_behind : (xs : List X) (x : X) (ys : List X) (first end behind : ℕ) → first ≤ length xs → length xs < end → t x ≡ false → is_partitioned t (drop first (take end (xs ++ x ∷ ys))) ≡ true → behind ≡ 0 + position_or_len t (drop 0 (take (end - length xs - 1) ys)) → length xs + 1 + behind ≡ first + position_or_len t (drop first (take end (xs ++ x ∷ ys)))
  first_behind xs x ys first end behind h k fails up there =
      let n = front_length xs first h in
      let right = first_right t (drop first (take (length xs) xs)) x (drop 0 (take (end - length xs - 1) ys)) fails (partitioned_around xs x ys first end h k up) in
      let same = ap (position_or_len t) (range_around xs x ys first end h k) in
      omega (arith, right, same, n, h, there)
