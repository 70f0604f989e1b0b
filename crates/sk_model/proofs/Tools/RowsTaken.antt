-- Rows that are taken one after another are there.
use Rattle.std.proofs.Common.{◌≡◌, ◌≤◌, ◌<◌, ℕ, zero, suc, List, [], ◌∷◌, refl, ap, ◌⊎◌, inl, inr, arith, Bool, true, false, length}
use Rattle.std.specs.Prelude.{filter, ℤ, pos, negsuc, Option, Some, None}
use Rattle.std.specs.List.{list_any, last_or}
use Rattle.sk_cmd.specs.declared.argument.Side.{Side}
use Rattle.sk_cmd.specs.declared.argument.Side.TheVariants.{Left, Right}
use Rattle.sk_places.specs.declared.row.Row.{Row}
use Rattle.sk_places.specs.declared.row.Place.{Place}
use Rattle.sk_places.specs.Rows.{is_at, is_same, first_row, row_at_end, rows_at, without_first, without_last, take_row}
use Rattle.sk_places.specs.Rows.{copies_of, number_taken}
use Rattle.sk_model.proofs.Tools.Texts.{same_row}

-- ## How many of a list pass a test

pub some_from_count : {A : Type 0} (test : A → Bool) (xs : List A) → 0 < length (filter test xs) → list_any test xs ≡ true
some_from_count test [] some = absurd (omega (arith, some))
some_from_count test (x ∷ xs) some = grind (arith, some_from_count test xs)

none_counted : {A : Type 0} (test : A → Bool) (xs : List A) → list_any test xs ≡ false → length (filter test xs) ≡ 0
none_counted test [] none = refl
none_counted test (x ∷ xs) none = grind (arith, none_counted test xs)

pub count_first : {A : Type 0} (test : A → Bool) (xs : List A) → list_any test xs ≡ true → suc (length (filter test (without_first test xs))) ≡ length (filter test xs)
count_first test [] some = grind arith
count_first test (x ∷ xs) some = grind (arith, count_first test xs)

pub count_last : {A : Type 0} (test : A → Bool) (xs : List A) → list_any test xs ≡ true → suc (length (filter test (without_last test xs))) ≡ length (filter test xs)
count_last test [] some = grind arith
count_last test (x ∷ xs) some = grind (arith, count_last test xs, none_counted test xs)

-- ## Equal rows

-- a row of which there is another is the same as some row
pub there : (row : Row) (n : ℕ) (rows : List Row) → suc n ≤ copies_of row rows → list_any (is_same row) rows ≡ true
there row n rows most = some_from_count (is_same row) rows (omega (arith, most))

-- one fewer is left
pub one_fewer : (row : Row) (from : Side) (rows : List Row) → list_any (is_same row) rows ≡ true → suc (copies_of row (take_row from row rows)) ≡ copies_of row rows
one_fewer row Left rows some = count_first (is_same row) rows some
one_fewer row Right rows some = count_last (is_same row) rows some

pub taken_at_most : (count : ℤ) (n : ℕ) → number_taken count n ≤ n
taken_at_most (pos zero) n = omega arith
taken_at_most (pos (suc k)) n = omega arith
taken_at_most (negsuc k) n = omega arith

-- ## The rows of a place, from the left

-- what stands first of those that pass a test passes it
pub passes : (test : Row → Bool) (row : Row) (more rows : List Row) → filter test rows ≡ row ∷ more → test row ≡ true
passes test row more [] e = absurd (cc e)
passes test row more (other ∷ rows) e = grind (arith, e, passes test row more rows)

-- it is there
pub first_there : (test : Row → Bool) (row : Row) (more rows : List Row) → filter test rows ≡ row ∷ more → list_any (is_same row) rows ≡ true
first_there test row more [] e = absurd (cc e)
first_there test row more (other ∷ rows) e = grind (arith, e, first_there test row more rows, same_row row)

-- the last of the rows that pass a test is one of the rows
pub last_there : (test : Row → Bool) (o : Option Row) (rows : List Row) (row : Row) → last_or o (filter test rows) ≡ Some row → (o ≡ Some row) ⊎ (list_any (is_same row) rows ≡ true)
last_there test o [] row e = inl e
last_there test o (other ∷ rows) row e = grind (arith, last_there test o rows row, last_there test (Some other) rows row, same_row)

first_of : (rows : List Row) (row : Row) → first_row rows ≡ Some row → (more : List Row) × (rows ≡ row ∷ more)
first_of [] row e = absurd (cc e)
first_of (other ∷ rows) row e = (rows, ap (λ r. r ∷ rows) (cc e))

-- the row at an end of a place is there
pub end_there : (end : Side) (place : Place) (rows : List Row) (row : Row) → row_at_end end place rows ≡ Some row → list_any (is_same row) rows ≡ true
end_there Left place rows row e = let f = first_of (rows_at place rows) row e in first_there (is_at place) row f.0 rows f.1
end_there Right place rows row e = one (last_there (is_at place) None rows row e) where
  one : (None ≡ Some row) ⊎ (list_any (is_same row) rows ≡ true) → list_any (is_same row) rows ≡ true
  one (inl f) = absurd (cc f)
  one (inr f) = f
