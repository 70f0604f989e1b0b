-- A set of jobs as a list of pairs.
use Rattle.std.proofs.Common.{◌≡◌, ◌≤◌, ◌+◌, ◌-◌, ℕ, ℤ, zero, suc, Bool, List, [], ◌∷◌, refl, sym, ap, ◌∙◌, arith, length, length-drop, map, min, take, drop, filter}
use Rattle.std.specs.Prelude.{option_map, pos, negsuc}
use Rattle.std.proofs.lemmas.List.{length-take}
use Rattle.sk_resp.specs.Spelling.{Bytes}
use Rattle.sk_places.specs.declared.row.Row.{Row}
use Rattle.sk_places.specs.Rows.{copies_of, is_same, number_taken, pair_of, row_of}
use Rattle.sk_zset.specs.Pair.{Pair}
use Rattle.sk_zset.specs.Pairs.{score_of}
use Rattle.sk_zset.proofs.Windows.{window}
use Rattle.sk_value.proofs.Ranks.{fewer}
use Rattle.sk_value.specs.Lists.{first_index, end_index, range_of}
use Rattle.sk_model.proofs.Tools.Texts.{bytes_tell}

pub score_is : (text : Bytes) (rows : List Row) → option_map (λ pair. pair.0) (option_map pair_of (row_of text rows)) ≡ score_of text (map pair_of rows)
score_is text [] = grind arith
score_is text (row ∷ rows) = grind (arith, score_is text rows, bytes_tell)

pub how_many_pairs : (rows : List Row) → length (map pair_of rows) ≡ length rows
how_many_pairs [] = refl
how_many_pairs (row ∷ rows) = ap suc (how_many_pairs rows)

-- ## Parts

module _ {A B : Type 0} (f : A → B) where
  map_take : (n : ℕ) (xs : List A) → map f (take n xs) ≡ take n (map f xs)
  map_take zero xs = refl
  map_take (suc n) [] = refl
  map_take (suc n) (x ∷ xs) = ap (λ ys. f x ∷ ys) (map_take n xs)

  map_drop : (n : ℕ) (xs : List A) → map f (drop n xs) ≡ drop n (map f xs)
  map_drop zero xs = refl
  map_drop (suc n) [] = refl
  map_drop (suc n) (x ∷ xs) = map_drop n xs

  pub map_part : (start end : ℕ) (xs : List A) → map f (drop start (take end xs)) ≡ drop start (take end (map f xs))
  map_part start end xs = map_drop start (take end xs) ∙ ap (drop start) (map_take end xs)

part_is : (first end : ℕ) (rows : List Row) → first ≤ end → drop first (take end rows) ≡ take (end - first) (drop first rows)
part_is zero end rows h = let e : end ≡ end - 0 = omega arith in ap (λ n. take n rows) e
part_is (suc first) zero rows h = absurd (omega (arith, h))
part_is (suc first) (suc end) [] h = none (suc end - suc first) where
  none : (n : ℕ) → drop (suc first) [] ≡ take n (drop {A = Row} (suc first) [])
  none zero = refl
  none (suc n) = refl
part_is (suc first) (suc end) (row ∷ rows) h = let e : end - first ≡ suc end - suc first = omega arith in part_is first end rows (omega (arith, h)) ∙ ap (λ n. take n (drop first rows)) e

-- so many of a part, behind so many
pub part_of_part : (first end skip count from to : ℕ) (rows : List Row) → first ≤ end → from ≡ first + min (end - first) skip → to ≡ from + min (end - from) count
    → map pair_of (drop from (take to rows)) ≡ take count (drop skip (map pair_of (drop first (take end rows))))
part_of_part first end skip count from to rows h e f =
    ap (map pair_of) (window rows first end skip count from to h e f ∙ ap (λ part. take count (drop skip part)) (sym (part_is first end rows h)))
    ∙ map_take pair_of count (drop skip (drop first (take end rows)))
    ∙ ap (take count) (map_drop pair_of skip (drop first (take end rows)))

take_all : (n : ℕ) (rows : List Row) → length rows ≤ n → take n rows ≡ rows
take_all zero [] h = refl
take_all zero (row ∷ rows) h = absurd (omega (arith, h))
take_all (suc n) [] h = refl
take_all (suc n) (row ∷ rows) h = ap (λ more. row ∷ more) (take_all n rows (omega (arith, h)))

pub within : {A : Type 0} (end : ℕ) (xs : List A) → take (min (length xs) end) xs ≡ take end xs
within zero xs = let e : min (length xs) 0 ≡ 0 = omega arith in ap (λ n. take n xs) e
within (suc end) [] = let e : min 0 (suc end) ≡ 0 = omega arith in ap (λ n. take n []) e
within (suc end) (x ∷ xs) = let e : min (suc (length xs)) (suc end) ≡ suc (min (length xs) end) = omega arith in ap (λ n. take n (x ∷ xs)) e ∙ ap (λ ys. x ∷ ys) (within end xs)

-- the part that LRANGE's indices give
pub range_is : {A : Type 0} (first last : ℤ) (start end count : ℕ) (xs : List A) → start ≡ first_index first count → end ≡ min count (end_index last count) → count ≡ length xs → drop start (take end xs) ≡ range_of first last xs
range_is first last start end count xs e f g =
    ap (λ n. drop n (take end xs)) (e ∙ ap (first_index first) g) ∙ ap (λ n. drop (first_index first (length xs)) (take n xs)) (f ∙ ap (λ n. min n (end_index last n)) g)
    ∙ ap (drop (first_index first (length xs))) (within (end_index last (length xs)) xs)

-- from the first pair on
pub all_pairs : (n : ℕ) (rows : List Row) → n ≡ length rows → map pair_of (drop 0 (take n rows)) ≡ map pair_of rows
all_pairs n rows e = ap (map pair_of) (take_all n rows (omega (arith, e)))

-- the pairs with a score within bounds
pub pairs_between : (test : Pair → Bool) (rows : List Row) → map pair_of (filter (λ row. test (pair_of row)) rows) ≡ filter test (map pair_of rows)
pairs_between test [] = refl
pairs_between test (row ∷ rows) = grind (arith, pairs_between test rows)

-- ## How many

pub part_fewer : (start end : ℕ) (rows : List Row) → length (drop start (take end rows)) ≤ length rows
part_fewer start end rows = omega (arith, length-drop start (take end rows), length-take end rows)

pub taken_fewer : (count : ℤ) (row : Row) (rows : List Row) → number_taken count (copies_of row rows) ≤ length rows
taken_fewer (pos zero) row rows = fewer (is_same row) rows
taken_fewer (pos (suc k)) row rows = omega (arith, fewer (is_same row) rows)
taken_fewer (negsuc k) row rows = omega (arith, fewer (is_same row) rows)
