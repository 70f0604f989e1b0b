-- Rows that stand in front of a place.
use Rattle.std.proofs.Common.{◌≡◌, ◌≤◌, ◌+◌, ◌-◌, ℕ, ℤ, pos, zero, suc, Bool, true, false, List, [], ◌∷◌, ◌++◌, refl, sym, ap, ap₂, ◌∙◌, arith, length, length-drop, max, min, take, drop, filter, not}
use Rattle.std.specs.Prelude.{Option, Some, None, cond, option_map, ◌<◌, ◌+ℤ◌}
use Rattle.std.specs.List.{count_by}
use Rattle.std.specs.Ordering.{int_cmp, is_eq, is_le}
use Rattle.std.specs.Str.{bytes_eq}
use Rattle.std.proofs.lemmas.Int.{ints}
use Rattle.std.proofs.lemmas.List.Elements.{filter_agree}
use Rattle.std.proofs.lemmas.List.Sums.{sum_by-cons}
use Rattle.sk_base.specs.declared.bound.Bound.TheVariants.{At, Low}
use Rattle.sk_zset.specs.Bounds.{is_between}
use Rattle.sk_resp.specs.Spelling.{Bytes}
use Rattle.sk_cmd.specs.declared.argument.Side.{Side}
use Rattle.sk_cmd.specs.declared.argument.Side.TheVariants.{Left}
use Rattle.sk_places.specs.declared.row.Place.{Place}
use Rattle.sk_places.specs.declared.row.Row.{Row}
use Rattle.sk_places.specs.Rows.{first_row, row_at_end, insert_after, is_at, is_same, pair_of, place_cmp, put_row, row_of, rows_at, take_row}
use Rattle.sk_zset.specs.Pair.{Pair}
use Rattle.sk_places.specs.declared.row.Place.TheVariants.{Set}
use Rattle.sk_cmd.specs.declared.argument.Scored.TheVariants.{Dead}
use Rattle.sk_places.specs.Scores.{HasRange}
use Rattle.sk_model.specs.World.{World}
use Rattle.sk_model.specs.Change.{perform}
use Rattle.sk_model.specs.Jobs.{is_old, kept_for, moment_score, surplus}
use Rattle.sk_model.proofs.Tools.RowsTaken.{passes}
use Rattle.sk_store.specs.Stored.{world}
use Rattle.sk_store.specs.declared.store.Store.{Store}
use Rattle.sk_jobs.specs.Routing.{Takes, Trims, dead_rows, rows_in, texts_of, trims}
use Rattle.sk_model.proofs.Tools.Texts.{at_place, bytes_tell, same_bytes, same_is, same_row}

-- ## Tests whose rows stand in front

none_pass : (test : Row → Bool) (rows : List Row) → filter test rows ≡ [] → filter (λ row. not (test row)) rows ≡ rows
none_pass test [] e = refl
none_pass test (row ∷ rows) e = grind (arith, e, none_pass test rows)

-- where those that pass stand in front, the others stand behind
pub others_behind : (test : Row → Bool) (n : ℕ) (rows : List Row) → n ≤ length rows → filter test rows ≡ take n rows → filter (λ row. not (test row)) rows ≡ drop n rows
others_behind test zero rows h e = none_pass test rows e
others_behind test (suc n) [] h e = absurd (omega (arith, h))
others_behind test (suc n) (row ∷ rows) h e =
    let first : test row ≡ true = passes test row (take n rows) (row ∷ rows) e in
    grind (arith, e, first, others_behind test n rows (omega (arith, h)))

pub take_none : (n : ℕ) → take {A = Row} n [] ≡ []
take_none zero = refl
take_none (suc n) = refl

parts : (n m : ℕ) (rows : List Row) → take n rows ++ take m (drop n rows) ≡ take (n + m) rows
parts zero m rows = let e : m ≡ 0 + m = omega arith in ap (λ k. take k rows) e
parts (suc n) m [] = take_none m ∙ sym (take_none (suc n + m))
parts (suc n) m (row ∷ rows) = let e : suc (n + m) ≡ suc n + m = omega arith in ap (λ more. row ∷ more) (parts n m rows) ∙ ap (λ k. take k (row ∷ rows)) e

-- ## The dead set's surplus

none_below : (rows : List Row) → count_by (λ (row : Row). false) rows ≡ 0
none_below [] = refl
none_below (row ∷ rows) = omega (arith, sum_by-cons (λ (row : Row). cond false 1 0) row rows, none_below rows)

old_is : (w : World) (b : ℤ) (row : Row) → b +ℤ kept_for ≡ moment_score w → is_between Low (At b) (pair_of row) ≡ is_old w row
old_is w b row e = grind (arith, ints, e)

-- what it drops stands in front
pub surplus_is : (w : World) (b : ℤ) (first end : ℕ) (rows : List Row) → b +ℤ kept_for ≡ moment_score w → HasRange Low (At b) first end rows → surplus w rows ≡ take (max end (length rows - 10000)) rows
surplus_is w b first end rows e r =
    let none : first ≡ 0 = r.front ∙ none_below rows in
    let olds : filter (is_old w) rows ≡ take end rows = sym (filter_agree (λ row. is_between Low (At b) (pair_of row)) (is_old w) (λ row. old_is w b row e) rows) ∙ r.inside ∙ ap (λ n. drop n (take end rows)) none in
    let youngs : filter (λ row. not (is_old w row)) rows ≡ drop end rows = others_behind (is_old w) end rows r.within olds in
    ap (λ young. filter (is_old w) rows ++ take (length young - 10000) young) youngs
    ∙ ap (λ old. old ++ take (length (drop end rows) - 10000) (drop end rows)) olds
    ∙ parts end (length (drop end rows) - 10000) rows
    ∙ ap (λ n. take n rows) (omega (arith, length-drop end rows, r.within))

-- ## The row in front of a place goes

-- a row at the place is not the same as one elsewhere
apart_by : (test : Row → Bool) (row other : Row) → test row ≡ true → test other ≡ false → is_same row other ≡ false
apart_by test row other passes_ fails = by_same (is_same row other) refl where
  by_same : (b : Bool) → is_same row other ≡ b → b ≡ false
  by_same true e = sym passes_ ∙ ap test (same_is row other e) ∙ fails
  by_same false e = refl

-- the others stay
pub front_taken : (test : Row → Bool) (row : Row) (more rows : List Row) → filter test rows ≡ row ∷ more → filter test (take_row Left row rows) ≡ more
front_taken test row more [] e = absurd (cc e)
front_taken test row more (other ∷ rows) e = by_test (test other) refl (front_taken test row more rows) where
  by_test : (b : Bool) → test other ≡ b → (filter test rows ≡ row ∷ more → filter test (take_row Left row rows) ≡ more) → filter test (take_row Left row (other ∷ rows)) ≡ more
  by_test true here later = grind (arith, e, here, same_row row)
  by_test false there later =
      let own : test row ≡ true = passes test row more (other ∷ rows) e in
      let apart = apart_by test row other own there in
      grind (arith, e, there, apart, later)

-- rows that pass stay where another goes
pub other_taken : (test : Row → Bool) (row : Row) (rows : List Row) → test row ≡ false → filter test (take_row Left row rows) ≡ filter test rows
other_taken test row [] e = refl
other_taken test row (other ∷ rows) e = by_same (is_same row other) refl (other_taken test row rows e) where
  by_same : (b : Bool) → is_same row other ≡ b → filter test (take_row Left row rows) ≡ filter test rows → filter test (take_row Left row (other ∷ rows)) ≡ filter test (other ∷ rows)
  by_same true same later = let there : test other ≡ false = ap test (sym (same_is row other same)) ∙ e in grind (arith, same, there)
  by_same false apart later = grind (arith, apart, later)

others_stay : (test before : Row → Bool) (new : Row) (rows : List Row) → test new ≡ false → filter test (insert_after before new rows) ≡ filter test rows
others_stay test before new [] e = grind (arith, e)
others_stay test before new (row ∷ rows) e = grind (arith, e, others_stay test before new rows)

-- and where another comes
pub other_put : (test : Row → Bool) (end : Side) (new : Row) (rows : List Row) → test new ≡ false → filter test (put_row end new rows) ≡ filter test rows
other_put test end new rows e = others_stay test _ new rows e

-- ## The row of a text

first_is : (rows : List Row) (row : Row) → first_row rows ≡ Some row → (more : List Row) × (rows ≡ row ∷ more)
first_is [] row e = absurd (cc e)
first_is (other ∷ rows) row e = (rows, ap (λ r. r ∷ rows) (cc e))

-- it has the text
pub text_of_row : (text : Bytes) (row : Row) (rows : List Row) → row_of text rows ≡ Some row → text ≡ row.text
text_of_row text row rows e =
    let first = first_is (filter (λ other. bytes_eq text other.text) rows) row e in
    let same : bytes_eq text row.text ≡ true = passes (λ other. bytes_eq text other.text) row first.0 rows first.1 in
    grind (arith, bytes_tell text row.text, same)

passes_both : (part test : Row → Bool) (row : Row) (more rows : List Row) → filter part (filter test rows) ≡ row ∷ more → test row ≡ true
passes_both part test row more [] e = absurd (cc e)
passes_both part test row more (other ∷ rows) e = grind (arith, e, passes_both part test row more rows)

-- it is at its place
pub place_of_row : (text : Bytes) (row : Row) (place : Place) (rows : List Row) → row_of text (rows_at place rows) ≡ Some row → is_at place row ≡ true
place_of_row text row place rows e =
    let first = first_is (filter (λ other. bytes_eq text other.text) (rows_at place rows)) row e in
    passes_both (λ other. bytes_eq text other.text) (is_at place) row first.0 rows first.1

-- places that are the same are one
bare : Place → Row
bare place = record { place = place; score = pos 0; text = [] }

same_place_is : (a b : Place) → is_eq (place_cmp a b) ≡ true → a ≡ b
unfolding bare
same_place_is a b e = ap (λ (row : Row). row.place) (same_is (bare a) (bare b) (grind (arith, e)))

same_place : (place : Place) → is_eq (place_cmp place place) ≡ true
unfolding bare
same_place place = at_place (bare place)

-- what is at one place is at no other
pub elsewhere : (place other : Place) (row : Row) → is_at place row ≡ true → is_eq (place_cmp place other) ≡ false → is_at other row ≡ false
elsewhere place other row here apart = by_other (is_at other row) refl where
  by_other : (b : Bool) → is_at other row ≡ b → b ≡ false
  by_other true there = sym (ap (λ (p : Place). is_eq (place_cmp p other)) (same_place_is place row.place here ∙ sym (same_place_is other row.place there)) ∙ same_place other) ∙ apart
  by_other false there = refl

-- a test of places that one place fails is failed by each row there
pub fails_at : (test : Place → Bool) (place : Place) (row : Row) → test place ≡ false → is_at place row ≡ true → test row.place ≡ false
fails_at test place row fails here = ap test (sym (same_place_is place row.place here)) ∙ fails

-- ## The row at the left end of a place

pub some_row : (o : Option Row) → option_map pair_of o ≡ None → o ≡ None
some_row None e = refl
some_row (Some row) e = absurd (cc e)

-- where there is a row there is one at the left end
pub front_there : (place : Place) (rows : List Row) → 0 < length (rows_at place rows) → option_map pair_of (row_at_end Left place rows) ≡ None → ⊥
front_there place rows some none = go (rows_at place rows) some (some_row (first_row (rows_at place rows)) none) where
  go : (own : List Row) → 0 < length own → first_row own ≡ None → ⊥
  go [] some none = omega (arith, some)
  go (row ∷ own) some none = cc none

same_text : (a b : Pair) → Some a ≡ Some b → a.1 ≡ b.1
same_text a b e = ap (λ (q : Pair). q.1) (same_pair e) where
  same_pair : Some a ≡ Some b → a ≡ b
  same_pair e = cc e

-- it is the first of them
pub front_text : (place : Place) (row : Row) (more rows : List Row) (pair : Pair) → rows_at place rows ≡ row ∷ more → Some pair ≡ option_map pair_of (row_at_end Left place rows) → pair.1 ≡ row.text
front_text place row more rows pair e is = let same : Some pair ≡ Some (pair_of row) = is ∙ ap (λ own. option_map pair_of (first_row own)) e in same_text pair (pair_of row) same

-- what came of one of so many that are left to go
pub record IsTrimmed (old next : Store) (text : Bytes) (k : ℕ) : Type 0 where
  pub texts : text ∷ texts_of (take k (dead_rows (world next))) ≡ texts_of (take (suc k) (dead_rows (world old)))
  pub trimmed : perform (world next) (trims (take k (dead_rows (world next)))) ≡ perform (world old) (trims (take (suc k) (dead_rows (world old))))
  pub enough : k ≤ length (dead_rows (world next))
  pub aside : Takes [] old next

pub one_trimmed : (old next : Store) (text : Bytes) (k : ℕ) → suc k ≤ length (dead_rows (world old)) → Trims old text next → IsTrimmed old next text k
one_trimmed old next text k enough went = go (dead_rows (world old)) refl enough where
  go : (own : List Row) → dead_rows (world old) ≡ own → suc k ≤ length own → IsTrimmed old next text k
  go [] e h = absurd (omega (arith, h))
  go (row ∷ more) e h =
      let w : World = world old in
      let gone = went row more e in
      let left : dead_rows (world next) ≡ more = ap dead_rows gone.1 ∙ front_taken (is_at (Set Dead)) row more w.rows e in
      let here : is_at (Set Dead) row ≡ true = passes (is_at (Set Dead)) row more w.rows e in
      record {
        texts = ap₂ (λ t own. t ∷ texts_of (take k own)) gone.0 left ∙ ap (λ own. texts_of (take (suc k) own)) (sym e);
        trimmed = ap₂ (λ v own. perform v (trims (take k own))) gone.1 left ∙ ap (λ own. perform w (trims (take (suc k) own))) (sym e);
        enough = omega (arith, h, ap length left);
        aside = λ test others aside is. ap (λ (v : World). rows_in test v.rows) gone.1 ∙ other_taken (λ r. test r.place) row w.rows (fails_at test (Set Dead) row aside.dead here) ∙ is;
      }

-- the row in front is the first of its text
pub front_named : (text : Bytes) (row : Row) (more own : List Row) → own ≡ row ∷ more → text ≡ row.text → row_of text own ≡ Some row
front_named text row more own e f = ap₂ row_of f e ∙ named where
  named : row_of row.text (row ∷ more) ≡ Some row
  named = grind (arith, same_bytes row.text)

-- the order of two places is told from both sides
pub turned : (a b : Place) → is_eq (place_cmp a b) ≡ false → is_eq (place_cmp b a) ≡ false
turned a b apart = by_turned (is_eq (place_cmp b a)) refl where
  by_turned : (c : Bool) → is_eq (place_cmp b a) ≡ c → c ≡ false
  by_turned true same = sym (ap (λ (p : Place). is_eq (place_cmp p b)) (sym (same_place_is b a same)) ∙ same_place b) ∙ apart
  by_turned false other = refl

-- ## What is due

twice : (n m : ℕ) (rows : List Row) → take n (take m rows) ≡ take (min m n) rows
twice zero m rows = let e : min m 0 ≡ 0 = omega arith in sym (ap (λ k. take k rows) e)
twice (suc n) zero rows = let e : min 0 (suc n) ≡ 0 = omega arith in sym (ap (λ k. take k rows) e)
twice (suc n) (suc m) [] = sym (take_none (min (suc m) (suc n)))
twice (suc n) (suc m) (row ∷ rows) = let e : suc (min m n) ≡ min (suc m) (suc n) = omega arith in ap (λ more. row ∷ more) (twice n m rows) ∙ ap (λ k. take k (row ∷ rows)) e

due_by : (b : ℤ) (row : Row) → is_between Low (At b) (pair_of row) ≡ is_le (int_cmp row.score b)
due_by b row = grind (arith, ints)

-- it stands in front
pub due_is : (b : ℤ) (limit first end : ℕ) (rows : List Row) → HasRange Low (At b) first end rows → take limit (filter (λ (row : Row). is_le (int_cmp row.score b)) rows) ≡ take (min end limit) rows
due_is b limit first end rows r =
    let none : first ≡ 0 = r.front ∙ none_below rows in
    let due : filter (λ (row : Row). is_le (int_cmp row.score b)) rows ≡ take end rows = sym (filter_agree (λ row. is_between Low (At b) (pair_of row)) (λ row. is_le (int_cmp row.score b)) (due_by b) rows) ∙ r.inside ∙ ap (λ n. drop n (take end rows)) none in
    ap (take limit) due ∙ twice limit end rows

-- ## What was looked for

pub some_found : (o : Option Row) (pair : Pair) → option_map pair_of o ≡ Some pair → (row : Row) × (o ≡ Some row)
some_found None pair e = absurd (cc e)
some_found (Some row) pair e = (row, refl)

-- and has that text
pub found_text : (text : Bytes) (rows : List Row) (pair : Pair) → option_map pair_of (row_of text rows) ≡ Some pair → pair.1 ≡ text
found_text text rows pair e =
    let found = some_found (row_of text rows) pair e in
    same_text pair (pair_of found.0) (sym e ∙ ap (option_map pair_of) found.1) ∙ sym (text_of_row text found.0 rows found.1)
