-- In a set that is in order the rows that are due stand in front, and so do those that the dead set drops.
use Rattle.std.proofs.Common.{◌≡◌, ◌+◌, ◌-◌, ℕ, zero, suc, List, [], ◌∷◌, ◌++◌, refl, sym, ap, ◌∙◌, arith, Bool, true, false, not, length, length-drop, map, min, max}
use Rattle.std.specs.Prelude.{filter, take, drop}
use Rattle.std.specs.Ordering.{int_cmp, is_le}
use Rattle.std.specs.List.{list_any}
use Rattle.std.proofs.lemmas.Int.{ints}
use Rattle.std.proofs.lemmas.List.{length-take}
use Rattle.sk_cmd.specs.declared.argument.Scored.{Scored}
use Rattle.sk_zset.specs.Pair.{precedes}
use Rattle.sk_zset.specs.Order.{is_first, is_ordered}
use Rattle.sk_places.specs.declared.row.Row.{Row}
use Rattle.sk_places.specs.Rows.{pair_of}
use Rattle.sk_model.specs.World.{World}
use Rattle.sk_model.specs.Jobs.{is_old, surplus, moment_score, waiting_rows, due_rows}

-- the rows of a set, by score and then by text
abbrev pub InOrder : List Row → Type 0
InOrder rows = is_ordered (map pair_of rows) ≡ true

-- a test that, where it passes a row, passes those that stand before it
module _ (test : Row → Bool) (down : (row later : Row) → precedes (pair_of row) (pair_of later) ≡ true → test later ≡ true → test row ≡ true) where
  none_behind : (row : Row) (rows : List Row) → is_first (pair_of row) (map pair_of rows) ≡ true → test row ≡ false → filter test rows ≡ []
  none_behind row [] first fails = refl
  none_behind row (other ∷ rows) first fails = grind (arith, first, fails, down row other, none_behind row rows)

  all_fail : (row : Row) (rows : List Row) → is_first (pair_of row) (map pair_of rows) ≡ true → test row ≡ false → filter (λ r. not (test r)) rows ≡ rows
  all_fail row [] first fails = refl
  all_fail row (other ∷ rows) first fails = grind (arith, first, fails, down row other, all_fail row rows)

  -- those that pass are a front, and those that don't are the rest
  front : (rows : List Row) → InOrder rows → filter test rows ≡ take (length (filter test rows)) rows
  front [] ordered = refl
  front (row ∷ rows) ordered = grind (arith, ordered, front rows, none_behind row rows)

  rest : (rows : List Row) → InOrder rows → filter (λ r. not (test r)) rows ≡ drop (length (filter test rows)) rows
  rest [] ordered = refl
  rest (row ∷ rows) ordered = grind (arith, ordered, rest rows, none_behind row rows, all_fail row rows)

old_down : (w : World) (row later : Row) → precedes (pair_of row) (pair_of later) ≡ true → is_old w later ≡ true → is_old w row ≡ true
old_down w row later before old = grind (arith, ints, before, old)

due_down : (w : World) (row later : Row) → precedes (pair_of row) (pair_of later) ≡ true → is_le (int_cmp later.score (moment_score w)) ≡ true → is_le (int_cmp row.score (moment_score w)) ≡ true
due_down w row later before due = grind (arith, ints, before, due)

take_none : (n : ℕ) → take {A = Row} n [] ≡ []
take_none zero = refl
take_none (suc n) = refl

parts : (n m : ℕ) (rows : List Row) → take n rows ++ take m (drop n rows) ≡ take (n + m) rows
parts zero m rows = grind arith
parts (suc n) m [] = take_none m ∙ sym (take_none (suc n + m))
parts (suc n) m (row ∷ rows) = let e : suc (n + m) ≡ suc n + m = omega arith in ap (λ more. row ∷ more) (parts n m rows) ∙ ap (λ k. take k (row ∷ rows)) e

twice : (n m : ℕ) (rows : List Row) → take n (take m rows) ≡ take (min n m) rows
twice zero m rows = grind arith
twice (suc n) zero rows = grind arith
twice (suc n) (suc m) [] = sym (take_none (min (suc n) (suc m)))
twice (suc n) (suc m) (row ∷ rows) = let e : suc (min n m) ≡ min (suc n) (suc m) = omega arith in ap (λ more. row ∷ more) (twice n m rows) ∙ ap (λ k. take k (row ∷ rows)) e

-- What the dead set drops is its front: the old rows, or as many as it has above ten thousand.
pub surplus_is_front : (w : World) (rows : List Row) → InOrder rows → surplus w rows ≡ take (max (length (filter (is_old w) rows)) (length rows - 10000)) rows
surplus_is_front w rows ordered =
    let old : List Row = filter (is_old w) rows in
    let left : List Row = drop (length old) rows in
    ap (λ young. old ++ take (length young - 10000) young) (rest (is_old w) (old_down w) rows ordered)
    ∙ ap (λ f. f ++ take (length left - 10000) left) (front (is_old w) (old_down w) rows ordered)
    ∙ parts (length old) (length left - 10000) rows
    ∙ ap (λ n. take n rows) (omega (arith, length-drop (length old) rows))

none_old : {A : Type 0} (test : A → Bool) (xs : List A) → list_any test xs ≡ false → (filter test xs ≡ []) × (filter (λ x. not (test x)) xs ≡ xs)
none_old test [] none = (refl, refl)
none_old test (x ∷ xs) none = let more = none_old test xs in grind (arith, none, more)

-- While none is old, it drops as many as it has above ten thousand.
pub ten_thousand_stay : (w : World) (rows : List Row) → list_any (is_old w) rows ≡ false → length (surplus w rows) ≡ length rows - 10000
ten_thousand_stay w rows young =
    let none = none_old (is_old w) rows young in
    ap (λ old. length (old ++ take (length (filter (λ row. not (is_old w row)) rows) - 10000) (filter (λ row. not (is_old w row)) rows))) none.0
    ∙ ap (λ all. length (take (length all - 10000) all)) none.1
    ∙ omega (arith, length-take (length rows - 10000) rows)

-- The rows that are due are the front of a set.
pub due_is_front : (w : World) (set : Scored) (limit : ℕ) → InOrder (waiting_rows w set)
    → due_rows w set limit ≡ take (min limit (length (filter (λ row. is_le (int_cmp row.score (moment_score w))) (waiting_rows w set)))) (waiting_rows w set)
due_is_front w set limit ordered =
    let rows : List Row = waiting_rows w set in
    ap (take limit) (front (λ row. is_le (int_cmp row.score (moment_score w))) (due_down w) rows ordered)
    ∙ twice limit (length (filter (λ row. is_le (int_cmp row.score (moment_score w))) rows)) rows
