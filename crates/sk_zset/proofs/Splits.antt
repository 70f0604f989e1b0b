-- Two tests that rise split a list into three parts. Between them stands what passes the first and not the second.
use Rattle.std.proofs.Common.{◌≡◌, ℕ, zero, suc, ◌+◌, ◌-◌, Bool, true, false, not, ◌&&◌, List, [], ◌∷◌, ◌++◌, take, drop, refl, sym, arith, ap, ap₂, ◌∙◌, cond}
use Rattle.std.specs.List.{count_by, filter, position_or_len}
use Rattle.std.proofs.lemmas.List.Sums.{sum_by-cons}
use Rattle.sk_undo.specs.Partitioned.{all_pass, is_partitioned}

module _ {X : Type 0} (p : X → Bool) where
  place_yes : (x : X) (xs : List X) → p x ≡ true → position_or_len p (x ∷ xs) ≡ 0
  place_yes x xs h = grind (arith, h)

  place_no : (x : X) (xs : List X) → p x ≡ false → position_or_len p (x ∷ xs) ≡ suc (position_or_len p xs)
  place_no x xs h = grind (arith, h)

  filter_yes : (x : X) (xs : List X) → p x ≡ true → filter p (x ∷ xs) ≡ x ∷ filter p xs
  filter_yes x xs h = grind (arith, h)

  filter_no : (x : X) (xs : List X) → p x ≡ false → filter p (x ∷ xs) ≡ filter p xs
  filter_no x xs h = grind (arith, h)

  count_yes : (x : X) (xs : List X) → p x ≡ true → count_by p (x ∷ xs) ≡ suc (count_by p xs)
  count_yes x xs h = let e = sum_by-cons (λ y. cond (p y) 1 0) x xs in grind (arith, e, h)

  count_no : (x : X) (xs : List X) → p x ≡ false → count_by p (x ∷ xs) ≡ count_by p xs
  count_no x xs h = let e = sum_by-cons (λ y. cond (p y) 1 0) x xs in grind (arith, e, h)

-- so many items from a place on, and the list without them
module _ {X : Type 0} where
  abbrev pub part : ℕ → ℕ → List X → List X
  part a n xs = take n (drop a xs)

  abbrev pub rest : ℕ → ℕ → List X → List X
  rest a n xs = take a xs ++ drop (a + n) xs

  rest_more : (a b : ℕ) (x : X) (xs : List X) → rest (suc a) (suc b - suc a) (x ∷ xs) ≡ x ∷ rest a (b - a) xs
  rest_more a b x xs = let e : suc a + (suc b - suc a) ≡ suc (a + (b - a)) = omega arith in ap (λ n. take (suc a) (x ∷ xs) ++ drop n (x ∷ xs)) e

  part_more : (a b : ℕ) (x : X) (xs : List X) → part (suc a) (suc b - suc a) (x ∷ xs) ≡ part a (b - a) xs
  part_more a b x xs = let e : suc b - suc a ≡ b - a = omega arith in ap (λ n. take n (drop a xs)) e

  rest_back : (a : ℕ) (xs : List X) → rest a (0 - a) xs ≡ xs
  rest_back zero xs = refl
  rest_back (suc a) [] = let e : suc a + (0 - suc a) ≡ suc a = omega arith in ap (λ n. drop n []) e
  rest_back (suc a) (x ∷ xs) = let e : suc a + (0 - suc a) ≡ suc (a + (0 - a)) = omega arith in ap (λ n. take (suc a) (x ∷ xs) ++ drop n (x ∷ xs)) e ∙ ap (λ l. x ∷ l) (rest_back a xs)

module _ {X : Type 0} (t u : X → Bool) where
  abbrev pub between : X → Bool
  between x = t x && not (u x)

  abbrev pub outside : X → Bool
  outside x = not (between x)

  -- once the second test passes, nothing is between
  none_filter : (xs : List X) → all_pass u xs ≡ true → filter between xs ≡ []
  none_filter [] h = refl
  none_filter (x ∷ xs) h = grind (arith, h, none_filter xs)

  none_count : (xs : List X) → all_pass u xs ≡ true → count_by between xs ≡ 0
  none_count [] h = refl
  none_count (x ∷ xs) h = grind (arith, h, none_count xs)

  none_outside : (xs : List X) → all_pass u xs ≡ true → filter outside xs ≡ xs
  none_outside [] h = refl
  none_outside (x ∷ xs) h = grind (arith, h, none_outside xs)

  all_partitioned : (xs : List X) → all_pass t xs ≡ true → is_partitioned t xs ≡ true
  all_partitioned [] h = refl
  all_partitioned (x ∷ xs) h = grind (arith, h)

  -- where the first test passes all, its place is the first
  all_place : (xs : List X) → all_pass t xs ≡ true → position_or_len t xs ≡ 0
  all_place [] h = refl
  all_place (x ∷ xs) h = grind (arith, h)

  pub record Split (xs : List X) : Type 0 where
    pub inside : filter between xs ≡ part (position_or_len t xs) (position_or_len u xs - position_or_len t xs) xs
    pub around : filter outside xs ≡ rest (position_or_len t xs) (position_or_len u xs - position_or_len t xs) xs
    pub count : count_by between xs ≡ position_or_len u xs - position_or_len t xs

  past : (x : X) (xs : List X) → u x ≡ true → all_pass u xs ≡ true → Split (x ∷ xs)
  past x xs h all =
      let no : between x ≡ false = grind (arith, h) in
      let yes : outside x ≡ true = grind (arith, h) in
      let first = place_yes u x xs h in
      let zero : position_or_len u (x ∷ xs) - position_or_len t (x ∷ xs) ≡ 0 = omega (arith, first) in
      record {
        inside = filter_no between x xs no ∙ none_filter xs all ∙ sym (ap (λ n. part (position_or_len t (x ∷ xs)) n (x ∷ xs)) zero);
        around = filter_yes outside x xs yes ∙ ap (λ l. x ∷ l) (none_outside xs all) ∙ sym (ap (λ b. rest (position_or_len t (x ∷ xs)) (b - position_or_len t (x ∷ xs)) (x ∷ xs)) first ∙ rest_back (position_or_len t (x ∷ xs)) (x ∷ xs));
        count = count_no between x xs no ∙ none_count xs all ∙ sym zero;
      }

  within : (x : X) (xs : List X) → t x ≡ true → u x ≡ false → all_pass t xs ≡ true → Split xs → Split (x ∷ xs)
  within x xs h k all s =
      let yes : between x ≡ true = grind (arith, h, k) in
      let no : outside x ≡ false = grind (arith, h, k) in
      let here = place_yes t x xs h in
      let next = all_place xs all in
      let end = place_no u x xs k in
      let n : ℕ = position_or_len u xs - position_or_len t xs in
      let more : position_or_len u (x ∷ xs) - position_or_len t (x ∷ xs) ≡ suc n = omega (arith, here, next, end) in
      let there : position_or_len t xs + n ≡ n = omega (arith, next) in
      let reach : position_or_len t (x ∷ xs) + (position_or_len u (x ∷ xs) - position_or_len t (x ∷ xs)) ≡ suc n = omega (arith, here, more) in
      record {
        inside = filter_yes between x xs yes ∙ ap (λ l. x ∷ l) (s.inside ∙ ap (λ a. part a n xs) next) ∙ sym (ap₂ (λ a m. part a m (x ∷ xs)) here more);
        around = filter_no outside x xs no ∙ s.around ∙ ap₂ (λ a m. take a xs ++ drop m xs) next there ∙ sym (ap₂ (λ a m. take a (x ∷ xs) ++ drop m (x ∷ xs)) here reach);
        count = count_yes between x xs yes ∙ ap suc s.count ∙ sym more;
      }

  ahead : (x : X) (xs : List X) → t x ≡ false → u x ≡ false → Split xs → Split (x ∷ xs)
  ahead x xs h k s =
      let no : between x ≡ false = grind (arith, h) in
      let yes : outside x ≡ true = grind (arith, h) in
      let here = place_no t x xs h in
      let end = place_no u x xs k in
      let same : position_or_len u (x ∷ xs) - position_or_len t (x ∷ xs) ≡ position_or_len u xs - position_or_len t xs = omega (arith, here, end) in
      record {
        inside = filter_no between x xs no ∙ s.inside ∙ sym (ap₂ (λ a b. part a (b - a) (x ∷ xs)) here end ∙ part_more (position_or_len t xs) (position_or_len u xs) x xs);
        around = filter_yes outside x xs yes ∙ ap (λ l. x ∷ l) s.around ∙ sym (ap₂ (λ a b. rest a (b - a) (x ∷ xs)) here end ∙ rest_more (position_or_len t xs) (position_or_len u xs) x xs);
        count = count_no between x xs no ∙ s.count ∙ sym same;
      }

  pub split : (xs : List X) → is_partitioned t xs ≡ true → is_partitioned u xs ≡ true → Split xs
  split [] ht hu = record { inside = refl; around = refl; count = refl }
  split (x ∷ xs) ht hu = cases (t x) (u x) refl refl (λ a b. split xs a b)
    where
      cases : (a b : Bool) → t x ≡ a → u x ≡ b → (is_partitioned t xs ≡ true → is_partitioned u xs ≡ true → Split xs) → Split (x ∷ xs)
      cases a true h k s = past x xs k (grind (arith, hu, k))
      cases true false h k s = let all : all_pass t xs ≡ true = grind (arith, ht, h) in within x xs h k all (s (all_partitioned xs all) (grind (arith, hu, k)))
      cases false false h k s = ahead x xs h k (s (grind (arith, ht, h)) (grind (arith, hu, k)))

-- what comes before the place of a test that rises
module _ {X : Type 0} (b : X → Bool) where
  pub count_before : (xs : List X) → is_partitioned (λ x. not (b x)) xs ≡ true → count_by b xs ≡ position_or_len (λ x. not (b x)) xs
  count_before [] h = refl
  count_before (x ∷ xs) h = cases (b x) refl (λ k. count_before xs k)
    where
      none : (ys : List X) → all_pass (λ y. not (b y)) ys ≡ true → count_by b ys ≡ 0
      none [] k = refl
      none (y ∷ ys) k = let e = sum_by-cons (λ z. cond (b z) 1 0) y ys in grind (arith, e, k, none ys)

      cases : (a : Bool) → b x ≡ a → (is_partitioned (λ y. not (b y)) xs ≡ true → count_by b xs ≡ position_or_len (λ y. not (b y)) xs) → count_by b (x ∷ xs) ≡ position_or_len (λ y. not (b y)) (x ∷ xs)
      cases true k s = count_yes b x xs k ∙ ap suc (s (grind (arith, h, k))) ∙ sym (place_no (λ y. not (b y)) x xs (grind (arith, k)))
      cases false k s = count_no b x xs k ∙ none xs (grind (arith, h, k)) ∙ sym (place_yes (λ y. not (b y)) x xs (grind (arith, k)))
