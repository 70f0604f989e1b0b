-- Rows that go one after another are there.
use Rattle.std.proofs.Common.{◌≡◌, ◌≤◌, ◌+◌, ℕ, zero, suc, List, [], ◌∷◌, ◌++◌, refl, ap, arith, Bool, true, false, cond, not, length, map}
use Rattle.std.specs.Prelude.{filter, take, drop}
use Rattle.std.specs.List.{list_any}
use Rattle.sk_cmd.specs.declared.argument.Side.TheVariants.{Left}
use Rattle.sk_places.specs.declared.row.Row.{Row}
use Rattle.sk_places.specs.Rows.{is_same, insert_after, take_row}
use Rattle.sk_places.specs.Rows.{copies_of}
use Rattle.sk_model.specs.World.{World}
use Rattle.sk_model.specs.Change.{Change, changed}
use Rattle.sk_model.proofs.Tools.Texts.{same_row, same_is}
use Rattle.sk_model.proofs.Tools.RowsTaken.{there}
use Rattle.sk_model.proofs.Changes.Lawful.{Good, good_nothing, then_others}

-- ## How many of a part of a list pass a test

pub filter_fewer : {A : Type 0} (p test : A → Bool) (xs : List A) → length (filter p (filter test xs)) ≤ length (filter p xs)
filter_fewer p test [] = omega arith
filter_fewer p test (x ∷ xs) = grind (arith, filter_fewer p test xs)

pub take_fewer : {A : Type 0} (p : A → Bool) (n : ℕ) (xs : List A) → length (filter p (take n xs)) ≤ length (filter p xs)
take_fewer p zero xs = omega arith
take_fewer p (suc n) [] = omega arith
take_fewer p (suc n) (x ∷ xs) = grind (arith, take_fewer p n xs)

pub drop_fewer : {A : Type 0} (p : A → Bool) (n : ℕ) (xs : List A) → length (filter p (drop n xs)) ≤ length (filter p xs)
drop_fewer p zero xs = omega arith
drop_fewer p (suc n) [] = omega arith
drop_fewer p (suc n) (x ∷ xs) = grind (arith, drop_fewer p n xs)

pub both_parts : {A : Type 0} (p test : A → Bool) (xs : List A) → length (filter p (filter test xs)) + length (filter p (filter (λ x. not (test x)) xs)) ≡ length (filter p xs)
both_parts p test [] = refl
both_parts p test (x ∷ xs) = grind (arith, both_parts p test xs)

pub append_count : {A : Type 0} (p : A → Bool) (xs ys : List A) → length (filter p (xs ++ ys)) ≡ length (filter p xs) + length (filter p ys)
append_count p [] ys = omega arith
append_count p (x ∷ xs) ys = grind (arith, append_count p xs ys)

-- ## Rows among others

-- each row is among the others as often as it is here
abbrev pub Among : List Row → List Row → Type 0
Among some rows = (row : Row) → copies_of row some ≤ copies_of row rows

pub filter_among : (test : Row → Bool) (rows : List Row) → Among (filter test rows) rows
filter_among test rows row = filter_fewer (is_same row) test rows

pub take_among : (n : ℕ) (rows : List Row) → Among (take n rows) rows
take_among n rows row = take_fewer (is_same row) n rows

pub drop_among : (n : ℕ) (rows : List Row) → Among (drop n rows) rows
drop_among n rows row = drop_fewer (is_same row) n rows

pub among_through : (a b c : List Row) → Among a b → Among b c → Among a c
among_through a b c first then_ row = omega (arith, first row, then_ row)

pub count_first : (other row : Row) (rows : List Row) → copies_of other (row ∷ rows) ≡ cond (is_same other row) 1 0 + copies_of other rows
count_first other row rows = grind arith

own_first : (row : Row) (rows : List Row) → copies_of row (row ∷ rows) ≡ suc (copies_of row rows)
own_first row rows = grind (arith, same_row row)

pub first_among : (row : Row) (more rows : List Row) → Among (row ∷ more) rows → list_any (is_same row) rows ≡ true
first_among row more rows among = there row (copies_of row more) rows (omega (arith, among row, own_first row more))

-- how often a row is there once another is taken
pub count_taken : (other row : Row) (rows : List Row) → list_any (is_same row) rows ≡ true → cond (is_same other row) 1 0 + copies_of other (take_row Left row rows) ≡ copies_of other rows
count_taken other row [] some = absurd (cc some)
count_taken other row (x ∷ rows) some = grind (arith, count_taken other row rows, same_is row x)

pub others_among : (row : Row) (more rows : List Row) → Among (row ∷ more) rows → Among more (take_row Left row rows)
others_among row more rows among other = omega (arith, among other, count_first other row more, count_taken other row rows (first_among row more rows among))

-- a row is there no less often when one is put in
pub count_put : (other new : Row) (test : Row → Bool) (rows : List Row) → copies_of other rows ≤ copies_of other (insert_after test new rows)
count_put other new test [] = grind arith
count_put other new test (x ∷ rows) = grind (arith, count_put other new test rows)

-- a row is there as often as before when another goes
pub count_apart : (other row : Row) (rows : List Row) → is_same row other ≡ false → copies_of other (take_row Left row rows) ≡ copies_of other rows
count_apart other row [] apart = refl
count_apart other row (x ∷ rows) apart = grind (arith, count_apart other row rows, same_is row x, same_is other x, same_row)

-- ## Rows that go

-- one after another they go, each from the left
pub going_good : (go : Row → Change) → ((w : World) (row : Row) → list_any (is_same row) w.rows ≡ true → Good w (go row ∷ [])) → ((w : World) (row : Row) → (changed w (go row)).rows ≡ take_row Left row w.rows)
    → (w : World) (rows : List Row) → Among rows w.rows → Good w (map go rows)
going_good go one left w [] among = good_nothing w
going_good go one left w (row ∷ rows) among =
    then_others w (go row) (map go rows) (one w row (first_among row rows w.rows among))
    (going_good go one left (changed w (go row)) rows (λ other. omega (arith, ap (copies_of other) (left w row), others_among row rows w.rows among other)))
