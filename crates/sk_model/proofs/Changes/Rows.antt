-- Which texts stand after a row comes or goes.
use Rattle.std.proofs.Common.{◌≡◌, sym, ap, List, [], ◌∷◌, refl, ◌∙◌, arith, Bool, true, false, ◌||◌}
use Rattle.std.specs.List.{list_any}
use Rattle.sk_resp.specs.Spelling.{Bytes}
use Rattle.sk_places.specs.declared.row.Row.{Row}
use Rattle.sk_cmd.specs.declared.argument.Side.{Side}
use Rattle.sk_cmd.specs.declared.argument.Side.TheVariants.{Left, Right}
use Rattle.sk_places.specs.Rows.{is_same, insert_after, put_row, without_first, without_last, take_row}
use Rattle.sk_model.proofs.Tools.Texts.{same_is, same_row, same_text}

-- whether some row's text passes the test
abbrev pub some : (Bytes → Bool) → List Row → Bool
some test rows = list_any (λ row. test row.text) rows

some-insert_after : (test : Bytes → Bool) (in_front : Row → Bool) (new : Row) (rows : List Row) → some test (insert_after in_front new rows) ≡ test new.text || some test rows
some-insert_after test in_front new [] = refl
some-insert_after test in_front new (row ∷ rows) = grind (arith, some-insert_after test in_front new rows)

-- what passes the test is the row that is taken out, or is left
some-without_first : (test : Bytes → Bool) (row : Row) (rows : List Row) → some test rows ≡ true → test row.text || some test (without_first (is_same row) rows) ≡ true
some-without_first test row [] there = grind arith
some-without_first test row (other ∷ rows) there = grind (arith, some-without_first test row rows, same_text row other)

some-without_last : (test : Bytes → Bool) (row : Row) (rows : List Row) → some test rows ≡ true → test row.text || some test (without_last (is_same row) rows) ≡ true
some-without_last test row [] there = grind arith
some-without_last test row (other ∷ rows) there = grind (arith, some-without_last test row rows, same_text row other)

pub some-take_row : (test : Bytes → Bool) (end : Side) (row : Row) (rows : List Row) → some test rows ≡ true → test row.text || some test (take_row end row rows) ≡ true
some-take_row test Left row rows there = some-without_first test row rows there
some-take_row test Right row rows there = some-without_last test row rows there

pub some-put_row : (test : Bytes → Bool) (end : Side) (new : Row) (rows : List Row) → some test (put_row end new rows) ≡ test new.text || some test rows
some-put_row test end new rows = some-insert_after test _ new rows

-- another row stays where one is taken
pub still_there : (row other : Row) (rows : List Row) → is_same row other ≡ false → list_any (is_same other) rows ≡ true → list_any (is_same other) (without_first (is_same row) rows) ≡ true
still_there row other [] apart there = there
still_there row other (x ∷ rows) apart there = grind (arith, still_there row other rows apart, same_is other x, same_row)

-- a row's text passes the tests that it passes anywhere
some_there : (test : Bytes → Bool) (row : Row) (rows : List Row) → list_any (is_same row) rows ≡ true → test row.text ≡ true → some test rows ≡ true
some_there test row [] there passes = absurd (cc there)
some_there test row (x ∷ rows) there passes = grind (arith, some_there test row rows, same_text row x)

-- of two rows of one text one may go
pub some-merged : (test : Bytes → Bool) (row other : Row) (rows : List Row) → row.text ≡ other.text → is_same row other ≡ false → list_any (is_same other) rows ≡ true → some test rows ≡ true → some test (take_row Left row rows) ≡ true
some-merged test row other rows e apart there stood = by_name (test row.text) refl (some-take_row test Left row rows stood) where
  by_name : (named : Bool) → test row.text ≡ named → named || some test (take_row Left row rows) ≡ true → some test (take_row Left row rows) ≡ true
  by_name true is left = some_there test other (take_row Left row rows) (still_there row other rows apart there) (ap test (sym e) ∙ is)
  by_name false is left = left

-- what isn't the row's text stays where the row is taken
pub some-others : (test : Bytes → Bool) (end : Side) (row : Row) (rows : List Row) → test row.text ≡ false → some test rows ≡ true → some test (take_row end row rows) ≡ true
some-others test end row rows fails stood = let left = some-take_row test end row rows stood in grind arith

pub some_weaker : (test other : Bytes → Bool) (rows : List Row) → ((text : Bytes) → test text ≡ true → other text ≡ true) → some test rows ≡ true → some other rows ≡ true
some_weaker test other [] is stood = stood
some_weaker test other (row ∷ rows) is stood = grind (arith, some_weaker test other rows is, is row.text)
