-- Identities behind one another, in rows that stand in order.
use Rattle.std.proofs.Common.{◌≡◌, ◌≤◌, ◌<◌, Bool, true, false, List, [], ◌∷◌, ◌++◌, refl, sym, ap, ap₂, ◌∙◌, arith, filter, length, not}
use Rattle.std.specs.Prelude.{Option, Some, None, ◌&&◌}
use Rattle.std.specs.List.{list_all}
use Rattle.std.specs.Ordering.{is_eq, is_le, is_lt, nat_cmp}
use Rattle.std.specs.Cmp.{IsTotalOrder}
use Rattle.std.specs.Cmp.Lexicographic.{slice_cmp}
use Rattle.std.proofs.lemmas.Cmp.{nat_list_cmp_total}
use Rattle.sk_resp.specs.Spelling.{Bytes}
use Rattle.sk_places.specs.declared.row.Place.{Place}
use Rattle.sk_places.specs.declared.row.Place.TheVariants.{Private, Queue, Set}
use Rattle.sk_places.specs.declared.row.Row.{Row}
use Rattle.sk_places.specs.Order.{is_first, is_ordered}
use Rattle.sk_places.specs.Rows.{ident_at, is_at, is_past, next_ident, place_cmp, row_cmp, rows_at}
use Rattle.sk_model.specs.Rescue.{is_left, left_rows}
use Rattle.sk_model.specs.World.{World}
use Rattle.sk_jobs.specs.Rescuing.{IsFront, IsPassed, others_left}
use Rattle.sk_jobs.proofs.Fronts.{fails_at}

-- the row is of an identity behind this one
abbrev pub past : Option Bytes → Row → Bool
past after row = is_past after (ident_at row.place)

-- the row doesn't stand before the process's
abbrev pub from : Bytes → Row → Bool
from ident row = is_le (place_cmp (Private ident) row.place)

-- ## The order of identities

words_lt_le : (x y z : Bytes) → is_lt (slice_cmp nat_cmp x y) ≡ true → is_le (slice_cmp nat_cmp y z) ≡ true → is_lt (slice_cmp nat_cmp x z) ≡ true
words_lt_le x y z h k =
    let total : IsTotalOrder (slice_cmp nat_cmp) = nat_list_cmp_total in
    let t = total.trans x y z in let c = total.congr z y x in let a = total.antisymm y z in let b = total.antisymm x z in let d = total.antisymm x y in
    grind (arith, h, k, t, c, a, b, d)

words_lt : (x y : Bytes) → is_lt (slice_cmp nat_cmp x y) ≡ true → is_le (slice_cmp nat_cmp x y) ≡ true
words_lt x y h = grind (arith, h)

word_itself : (x : Bytes) → is_eq (slice_cmp nat_cmp x x) ≡ true
word_itself x = let total : IsTotalOrder (slice_cmp nat_cmp) = nat_list_cmp_total in let a = total.antisymm x x in grind (arith, a)

-- behind what stands behind a process's rows none of its rows stands
behind : (ident : Bytes) (p q : Place) → is_le (place_cmp (Private ident) p) ≡ true → is_eq (place_cmp (Private ident) p) ≡ false → is_le (place_cmp p q) ≡ true → is_eq (place_cmp (Private ident) q) ≡ false
behind ident (Queue a) q h n k = absurd (grind (arith, h))
behind ident (Private a) (Queue b) h n k = refl
behind ident (Private a) (Private b) h n k = let l : is_lt (slice_cmp nat_cmp ident a) ≡ true = grind (arith, h, n) in let m = words_lt_le ident a b l k in grind (arith, m)
behind ident (Private a) (Set b) h n k = refl
behind ident (Set a) (Queue b) h n k = refl
behind ident (Set a) (Private b) h n k = absurd (grind (arith, k))
behind ident (Set a) (Set b) h n k = refl

places_le : (row other : Row) → is_le (row_cmp row other) ≡ true → is_le (place_cmp row.place other.place) ≡ true
places_le row other h = grind (arith, h)

le_itself : (ident : Bytes) → is_le (place_cmp (Private ident) (Private ident)) ≡ true
le_itself ident = let e = word_itself ident in grind (arith, e)

-- ## The next identity

-- what is past an identity that is past another is past that too
past_on : (after : Option Bytes) (ident : Bytes) (there : Option Bytes) → is_past after (Some ident) ≡ true → is_past (Some ident) there ≡ true → is_past after there ≡ true
past_on after ident None h k = k
past_on None ident (Some other) h k = refl
past_on (Some after) ident (Some other) h k = words_lt_le after ident other h (words_lt ident other k)

not_past_itself : (ident : Bytes) → is_past (Some ident) (Some ident) ≡ false
not_past_itself ident = let e = word_itself ident in grind (arith, e)

-- what the first row that is past tells of the rest of its list
at_ident : (p : Place) (ident : Bytes) → ident_at p ≡ Some ident → p ≡ Private ident
at_ident (Queue a) ident e = absurd (cc e)
at_ident (Private a) ident e = ap Private (cc e)
at_ident (Set a) ident e = absurd (cc e)

first_ident : (after : Option Bytes) (row : Row) (rows : List Row) (found : Option Bytes) → past after row ≡ true → next_ident after (row ∷ rows) ≡ found → ident_at row.place ≡ found
first_ident after row rows found h e = grind (arith, e, h)

later_ident : (after : Option Bytes) (row : Row) (rows : List Row) (found : Option Bytes) → past after row ≡ false → next_ident after (row ∷ rows) ≡ found → next_ident after rows ≡ found
later_ident after row rows found h e = grind (arith, e, h)

-- what holds of no row and goes on to one more, by whether it is past
by_first : (after : Option Bytes) (row : Row) (goal : Type 0) → (past after row ≡ true → goal) → (past after row ≡ false → goal) → goal
by_first after row goal stop later = go (past after row) refl where
  go : (b : Bool) → past after row ≡ b → goal
  go true h = stop h
  go false h = later h

-- it is past
pub next_past : (after : Option Bytes) (ident : Bytes) (rows : List Row) → next_ident after rows ≡ Some ident → is_past after (Some ident) ≡ true
next_past after ident [] e = absurd (cc e)
next_past after ident (row ∷ rows) e =
    by_first after row (is_past after (Some ident) ≡ true) (λ h. ap (is_past after) (sym (first_ident after row rows (Some ident) h e)) ∙ h) (λ h. next_past after ident rows (later_ident after row rows (Some ident) h e))

with_first : (test : Row → Bool) (row : Row) (rows : List Row) → test row ≡ true → filter test (row ∷ rows) ≡ row ∷ filter test rows
with_first test row rows h = grind (arith, h)

but_first : (test : Row → Bool) (row : Row) (rows : List Row) → test row ≡ false → filter test (row ∷ rows) ≡ filter test rows
but_first test row rows h = grind (arith, h)

no_fewer : (test : Row → Bool) (row : Row) (rows : List Row) → length (filter test rows) ≤ length (filter test (row ∷ rows))
no_fewer test row rows = grind arith

-- none is past where there is no next
pub none_past : (after : Option Bytes) (rows : List Row) → next_ident after rows ≡ None → filter (past after) rows ≡ []
none_past after [] e = refl
none_past after (row ∷ rows) e = by_first after row (filter (past after) (row ∷ rows) ≡ []) stop (λ h. but_first (past after) row rows h ∙ none_past after rows (later_ident after row rows None h e)) where
  stop : past after row ≡ true → filter (past after) (row ∷ rows) ≡ []
  stop h = let no : true ≡ false = sym h ∙ ap (is_past after) (first_ident after row rows None h e) in absurd (cc no)

-- it has a row
pub next_some : (after : Option Bytes) (ident : Bytes) (rows : List Row) → next_ident after rows ≡ Some ident → 0 < length (rows_at (Private ident) rows)
next_some after ident [] e = absurd (cc e)
next_some after ident (row ∷ rows) e = by_first after row (0 < length (rows_at (Private ident) (row ∷ rows))) here (λ h. later (next_some after ident rows (later_ident after row rows (Some ident) h e))) where
  more : List Row
  more = rows_at (Private ident) rows

  here : past after row ≡ true → 0 < length (rows_at (Private ident) (row ∷ rows))
  here h =
      let there : row.place ≡ Private ident = at_ident row.place ident (first_ident after row rows (Some ident) h e) in
      let at : is_at (Private ident) row ≡ true = ap (λ place. is_eq (place_cmp (Private ident) place)) there ∙ word_itself ident in
      omega (arith, ap length (with_first (is_at (Private ident)) row rows at))

  later : 0 < length more → 0 < length (rows_at (Private ident) (row ∷ rows))
  later some = omega (arith, some, no_fewer (is_at (Private ident)) row rows)

-- fewer are past it
fewer : (after : Option Bytes) (ident : Bytes) (rows : List Row) → is_past after (Some ident) ≡ true → length (filter (past (Some ident)) rows) ≤ length (filter (past after) rows)
fewer after ident [] h = omega arith
fewer after ident (row ∷ rows) h = grind (arith, fewer after ident rows h, past_on after ident (ident_at row.place) h)

-- ## Which rows are past

-- an identity goes by: fewer rows are past it than were past the one before
pub passes_one : (after : Option Bytes) (ident : Bytes) (rows : List Row) → next_ident after rows ≡ Some ident → length (filter (past (Some ident)) rows) < length (filter (past after) rows)
passes_one after ident [] e = absurd (cc e)
passes_one after ident (row ∷ rows) e = by_first after row (length (filter (past (Some ident)) (row ∷ rows)) < length (filter (past after) (row ∷ rows))) here (λ h. later h (passes_one after ident rows (later_ident after row rows (Some ident) h e))) where
  behind_it : is_past after (Some ident) ≡ true
  behind_it = next_past after ident (row ∷ rows) e

  here : past after row ≡ true → length (filter (past (Some ident)) (row ∷ rows)) < length (filter (past after) (row ∷ rows))
  here h =
      let itself : past (Some ident) row ≡ false = ap (is_past (Some ident)) (first_ident after row rows (Some ident) h e) ∙ not_past_itself ident in
      omega (arith, ap length (but_first (past (Some ident)) row rows itself), ap length (with_first (past after) row rows h), fewer after ident rows behind_it)

  later : past after row ≡ false → length (filter (past (Some ident)) rows) < length (filter (past after) rows) → length (filter (past (Some ident)) (row ∷ rows)) < length (filter (past after) (row ∷ rows))
  later h more =
      let not_it : past (Some ident) row ≡ false = grind (arith, h, past_on after ident (ident_at row.place) behind_it) in
      omega (arith, more, ap length (but_first (past (Some ident)) row rows not_it), ap length (but_first (past after) row rows h))

-- what is past stands from the next identity on
all_from : (after : Option Bytes) (ident : Bytes) (row : Row) (rows : List Row) → row.place ≡ Private ident → is_first row rows ≡ true → list_all (from ident) (filter (past after) rows) ≡ true
all_from after ident row [] at e = refl
all_from after ident row (other ∷ rows) at e =
    let first : is_le (row_cmp row other) ≡ true = grind (arith, e) in
    let behind_it : from ident other ≡ true = ap (λ place. is_le (place_cmp place other.place)) (sym at) ∙ places_le row other first in
    grind (arith, behind_it, all_from after ident row rows at (grind (arith, e)))

pub past_from : (after : Option Bytes) (ident : Bytes) (rows : List Row) → is_ordered rows ≡ true → next_ident after rows ≡ Some ident → list_all (from ident) (filter (past after) rows) ≡ true
past_from after ident [] o e = refl
past_from after ident (row ∷ rows) o e = by_first after row (list_all (from ident) (filter (past after) (row ∷ rows)) ≡ true) here (λ h. later h (past_from after ident rows (grind (arith, o)) (later_ident after row rows (Some ident) h e))) where
  here : past after row ≡ true → list_all (from ident) (filter (past after) (row ∷ rows)) ≡ true
  here h =
      let at : row.place ≡ Private ident = at_ident row.place ident (first_ident after row rows (Some ident) h e) in
      let own : from ident row ≡ true = ap (λ place. is_le (place_cmp (Private ident) place)) at ∙ le_itself ident in
      let others : list_all (from ident) (filter (past after) rows) ≡ true = all_from after ident row rows at (grind (arith, o)) in
      ap (list_all (from ident)) (with_first (past after) row rows h) ∙ ap₂ (λ a b. a && b) own others

  later : past after row ≡ false → list_all (from ident) (filter (past after) rows) ≡ true → list_all (from ident) (filter (past after) (row ∷ rows)) ≡ true
  later h more = ap (list_all (from ident)) (but_first (past after) row rows h) ∙ more

-- rows of which all pass one test pass another that all pass which pass the one
pub all_through : (some one other : Row → Bool) (rows : List Row) → list_all one (filter some rows) ≡ true → list_all other (filter one rows) ≡ true → list_all other (filter some rows) ≡ true
all_through some one other [] e f = refl
all_through some one other (row ∷ rows) e f = grind (arith, e, f, all_through some one other rows)

pub none_through : (some one : Row → Bool) (rows : List Row) → list_all one (filter some rows) ≡ true → filter one rows ≡ [] → filter some rows ≡ []
none_through some one [] e f = refl
none_through some one (row ∷ rows) e f = grind (arith, e, f, none_through some one rows)

-- ## The rows of a process stand in front

first_kept : (test : Row → Bool) (row : Row) (rows : List Row) → is_first row rows ≡ true → is_first row (filter test rows) ≡ true
first_kept test row [] e = refl
first_kept test row (other ∷ rows) e = grind (arith, e, first_kept test row rows)

order_kept : (test : Row → Bool) (rows : List Row) → is_ordered rows ≡ true → is_ordered (filter test rows) ≡ true
order_kept test [] e = refl
order_kept test (row ∷ rows) e = grind (arith, e, order_kept test rows, first_kept test row rows)

none_behind : (ident : Bytes) (row : Row) (rows : List Row) → from ident row ≡ true → is_at (Private ident) row ≡ false → is_first row rows ≡ true → (rows_at (Private ident) rows ≡ []) × (filter (λ r. not (is_at (Private ident) r)) rows ≡ rows)
none_behind ident row [] h n e = (refl, refl)
none_behind ident row (other ∷ rows) h n e =
    let first : is_le (row_cmp row other) ≡ true = grind (arith, e) in
    let away : is_at (Private ident) other ≡ false = behind ident row.place other.place h n (places_le row other first) in
    let more = none_behind ident row rows h n (grind (arith, e)) in
    (but_first (is_at (Private ident)) other rows away ∙ more.0, with_first (λ r. not (is_at (Private ident) r)) other rows (ap not away) ∙ ap (λ rs. other ∷ rs) more.1)

in_front : (ident : Bytes) (rows : List Row) → is_ordered rows ≡ true → list_all (from ident) rows ≡ true → rows ≡ rows_at (Private ident) rows ++ filter (λ r. not (is_at (Private ident) r)) rows
in_front ident [] o e = refl
in_front ident (row ∷ rows) o e = by_at (is_at (Private ident) row) refl (in_front ident rows (grind (arith, o)) (grind (arith, e))) where
  by_at : (b : Bool) → is_at (Private ident) row ≡ b → rows ≡ rows_at (Private ident) rows ++ filter (λ r. not (is_at (Private ident) r)) rows
      → row ∷ rows ≡ rows_at (Private ident) (row ∷ rows) ++ filter (λ r. not (is_at (Private ident) r)) (row ∷ rows)
  by_at true at more = ap (λ rs. row ∷ rs) more ∙ sym (ap₂ (λ a b. a ++ b) (with_first (is_at (Private ident)) row rows at) (but_first (λ r. not (is_at (Private ident) r)) row rows (ap not at)))
  by_at false away more =
      let none = none_behind ident row rows (grind (arith, e)) away (grind (arith, o)) in
      sym (ap₂ (λ a b. a ++ b) (but_first (is_at (Private ident)) row rows away ∙ none.0) (with_first (λ r. not (is_at (Private ident) r)) row rows (ap not away) ∙ ap (λ rs. row ∷ rs) none.1))

-- the rows at a place are among those that pass a test which its place passes
own_left : (test : Place → Bool) (place : Place) (rows : List Row) → test place ≡ true → rows_at place (filter (λ row. test row.place) rows) ≡ rows_at place rows
own_left test place [] e = refl
own_left test place (row ∷ rows) e = by_at (is_at place row) refl (own_left test place rows e) where
  by_at : (b : Bool) → is_at place row ≡ b → rows_at place (filter (λ r. test r.place) rows) ≡ rows_at place rows → rows_at place (filter (λ r. test r.place) (row ∷ rows)) ≡ rows_at place (row ∷ rows)
  by_at true at more = let passes_ : not (test row.place) ≡ false = fails_at (λ p. not (test p)) place row (ap not e) at in grind (arith, at, passes_, more)
  by_at false away more = grind (arith, away, more)

-- ## What stands behind a process

goes_by : (w : World) (ident : Bytes) (row : Row) → is_left w row.place ≡ true → from ident row ≡ true → is_at (Private ident) row ≡ false → past (Some ident) row ≡ true
goes_by w ident row left here away = by_place row.place left here away where
  by_place : (place : Place) → is_left w place ≡ true → is_le (place_cmp (Private ident) place) ≡ true → is_eq (place_cmp (Private ident) place) ≡ false → is_past (Some ident) (ident_at place) ≡ true
  by_place (Queue queue) l h n = absurd (cc l)
  by_place (Private other) l h n = grind (arith, h, n)
  by_place (Set set) l h n = absurd (cc l)

others_by : (w : World) (ident : Bytes) (rows : List Row) → list_all (from ident) (filter (λ row. is_left w row.place) rows) ≡ true → list_all (past (Some ident)) (filter (λ row. not (is_at (Private ident) row)) (filter (λ row. is_left w row.place) rows)) ≡ true
others_by w ident [] e = refl
others_by w ident (row ∷ rows) e = grind (arith, e, goes_by w ident row, others_by w ident rows)

-- a process without a heartbeat has its rows in front of all that are left
pub is_front : (w : World) (after : Option Bytes) (ident : Bytes) → is_ordered w.rows ≡ true → next_ident after w.rows ≡ Some ident → IsPassed after w → is_left w (Private ident) ≡ true → IsFront ident w
is_front w after ident o e passed left =
    let all : list_all (from ident) (left_rows w) ≡ true = all_through (λ row. is_left w row.place) (past after) (from ident) w.rows passed (past_from after ident w.rows o e) in
    record {
      some = next_some after ident w.rows e;
      front = in_front ident (left_rows w) (order_kept (λ row. is_left w row.place) w.rows o) all ∙ ap (λ own. own ++ others_left ident w) (own_left (is_left w) (Private ident) w.rows left);
      behind = others_by w ident w.rows all;
    }

-- ## A process that is alive goes by

not_its : (w : World) (ident : Bytes) (row : Row) → is_left w (Private ident) ≡ false → is_left w row.place ≡ true → is_at (Private ident) row ≡ false
not_its w ident row alive left = by_at (is_at (Private ident) row) refl where
  by_at : (b : Bool) → is_at (Private ident) row ≡ b → b ≡ false
  by_at true at = let no : true ≡ false = sym left ∙ fails_at (is_left w) (Private ident) row alive at in absurd (cc no)
  by_at false at = refl

all_by : (w : World) (ident : Bytes) (rows : List Row) → is_left w (Private ident) ≡ false → list_all (from ident) (filter (λ row. is_left w row.place) rows) ≡ true → list_all (past (Some ident)) (filter (λ row. is_left w row.place) rows) ≡ true
all_by w ident [] alive e = refl
all_by w ident (row ∷ rows) alive e = grind (arith, e, goes_by w ident row, not_its w ident row alive, all_by w ident rows alive)

pub passed_by : (w : World) (after : Option Bytes) (ident : Bytes) → is_ordered w.rows ≡ true → next_ident after w.rows ≡ Some ident → IsPassed after w → is_left w (Private ident) ≡ false → IsPassed (Some ident) w
passed_by w after ident o e passed alive = all_by w ident w.rows alive (all_through (λ row. is_left w row.place) (past after) (from ident) w.rows passed (past_from after ident w.rows o e))

-- nothing is left where no identity is
pub none_left : (w : World) (after : Option Bytes) → next_ident after w.rows ≡ None → IsPassed after w → left_rows w ≡ []
none_left w after e passed = none_through (λ row. is_left w row.place) (past after) w.rows passed (none_past after w.rows e)

-- the next identity, as it was looked up
pub looked_up : (after seen : Option Bytes) (there ident : Bytes) (rows : List Row) → seen ≡ after → Some there ≡ next_ident seen rows → ident ≡ there → next_ident after rows ≡ Some ident
looked_up after seen there ident rows e f g = ap (λ o. next_ident o rows) (sym e) ∙ sym f ∙ ap Some (sym g)
