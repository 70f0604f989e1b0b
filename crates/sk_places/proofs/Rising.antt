-- In a list of rows in order a test of places, and that of what a new row comes before, passes from some index on; and edits keep the order.
use Rattle.std.proofs.Common.{◌≡◌, ℕ, ℤ, zero, suc, Bool, true, false, not, List, [], ◌∷◌, Option, Some, None, filter, refl, sym, arith, ap, ap₂, ◌∙◌}
use Rattle.std.proofs.lemmas.Cmp.{nat_list_cmp_total}
use Rattle.std.proofs.lemmas.Int.{ints}
use Rattle.std.specs.Cmp.Lexicographic.{slice_cmp}
use Rattle.std.specs.declared.cmp.Ordering.{Ordering}
use Rattle.sk_base.specs.declared.bound.Bound.{Bound}
use Rattle.sk_base.specs.declared.bound.Bound.TheVariants.{At, High, Low, Past}
use Rattle.sk_resp.specs.Spelling.{Bytes}
use Rattle.sk_cmd.specs.declared.argument.Scored.{Scored}
use Rattle.sk_cmd.specs.declared.argument.Scored.TheVariants.{Schedule, Retry, Dead}
use Rattle.sk_zset.specs.Bounds.{is_above, is_below}
use Rattle.sk_zset.specs.Pair.{pair_cmp}
use Rattle.sk_zset.proofs.Order.{pair_total}
use Rattle.std.specs.Ordering.{int_cmp, is_lt, is_le, nat_cmp, ordering_then}
use Rattle.std.specs.List.{remove, position_or_len}
use Rattle.sk_undo.specs.Partitioned.{all_pass, is_partitioned}
use Rattle.sk_cmd.specs.declared.argument.Side.{Side}
use Rattle.sk_cmd.specs.declared.argument.Side.TheVariants.{Left, Right}
use Rattle.sk_places.specs.declared.row.Place.{Place}
use Rattle.sk_places.specs.declared.row.Place.TheVariants.{Queue, Private, Set}
use Rattle.sk_places.specs.declared.row.Row.{Row}
use Rattle.sk_places.specs.Order.{is_beyond, is_first, is_ordered}
use Rattle.sk_places.specs.Rows.{is_at, pair_of, place_cmp, put_row, row_cmp, rows_at, within_cmp, stands_before}
use Rattle.sk_places.specs.TextIndex.{is_from}
use Rattle.sk_places.proofs.Lists.{all_insert, all_remove, inserted_after}
use Rattle.sk_places.specs.PlaceOrder.{place_total, same_place}
use Rattle.sk_places.proofs.Order.{row_total, le_trans, le_lt, lt_le, le_back, lt_back, lt_is_le}

-- a test that, once it passes a row, passes those that stand behind it
module _ (t : Row → Bool) (up : (p q : Row) → is_le (row_cmp p q) ≡ true → t p ≡ true → t q ≡ true) where
  all_behind : (p : Row) (ps : List Row) → is_first p ps ≡ true → t p ≡ true → all_pass t ps ≡ true
  all_behind p [] f h = refl
  all_behind p (q ∷ ps) f h = grind (arith, f, h, up p q, all_behind p ps)

  pub rising : (ps : List Row) → is_ordered ps ≡ true → is_partitioned t ps ≡ true
  rising [] h = refl
  rising (p ∷ ps) h = grind (arith, h, all_behind p ps, rising ps)

-- rows in order stand at places in order
places_le : (p q : Row) → is_le (row_cmp p q) ≡ true → is_le (place_cmp p.place q.place) ≡ true
places_le p q h = grind (arith, h)

pub partitioned_reached : (place : Place) (rows : List Row) → is_ordered rows ≡ true → is_partitioned (λ row. is_le (place_cmp place row.place)) rows ≡ true
partitioned_reached place rows h = rising (λ row. is_le (place_cmp place row.place)) (λ p q l k. le_trans place_cmp place_total place p.place q.place k (places_le p q l)) rows h

pub partitioned_passed : (place : Place) (rows : List Row) → is_ordered rows ≡ true → is_partitioned (λ row. is_lt (place_cmp place row.place)) rows ≡ true
partitioned_passed place rows h = rising (λ row. is_lt (place_cmp place row.place)) (λ p q l k. lt_le place_cmp place_total place p.place q.place k (places_le p q l)) rows h

behind_up : (end : Side) (new p q : Row) → is_le (row_cmp p q) ≡ true → not (stands_before end new p) ≡ true → not (stands_before end new q) ≡ true
behind_up Left new p q l h = let k = le_lt row_cmp row_total p q new l in grind (arith, h, k)
behind_up Right new p q l h = let k = le_trans row_cmp row_total p q new l in grind (arith, h, k)

pub partitioned_behind : (end : Side) (new : Row) (rows : List Row) → is_ordered rows ≡ true → is_partitioned (λ row. not (stands_before end new row)) rows ≡ true
partitioned_behind end new rows h = rising (λ row. not (stands_before end new row)) (behind_up end new) rows h

beyond_places : (after : Option Bytes) (p q : Place) → is_le (place_cmp p q) ≡ true → is_beyond after p ≡ true → is_beyond after q ≡ true
beyond_places after (Queue a) q h k = absurd (grind (arith, k))
beyond_places None (Private a) (Queue b) h k = absurd (grind (arith, h))
beyond_places None (Private a) (Private b) h k = refl
beyond_places None (Private a) (Set b) h k = refl
beyond_places (Some after) (Private a) (Queue b) h k = absurd (grind (arith, h))
beyond_places (Some after) (Private a) (Private b) h k = lt_le (slice_cmp nat_cmp) nat_list_cmp_total after a b k h
beyond_places (Some after) (Private a) (Set b) h k = refl
beyond_places after (Set a) (Queue b) h k = absurd (grind (arith, h))
beyond_places after (Set a) (Private b) h k = absurd (grind (arith, h))
beyond_places None (Set a) (Set b) h k = refl
beyond_places (Some after) (Set a) (Set b) h k = refl

pub partitioned_beyond : (after : Option Bytes) (rows : List Row) → is_ordered rows ≡ true → is_partitioned (λ row. is_beyond after row.place) rows ≡ true
partitioned_beyond after rows h = rising (λ row. is_beyond after row.place) (λ p q l k. beyond_places after p.place q.place (places_le p q l) k) rows h

-- ## A place's rows

-- a test that rises among rows that pass another one
rising_among : (good t : Row → Bool) (up : (p q : Row) → good p ≡ true → good q ≡ true → is_le (row_cmp p q) ≡ true → t p ≡ true → t q ≡ true) (rows : List Row) → all_pass good rows ≡ true → is_ordered rows ≡ true → is_partitioned t rows ≡ true
rising_among good t up [] g h = refl
rising_among good t up (p ∷ ps) g h =
    let behind = all_among good t up p ps in
    let rest = rising_among good t up ps in
    grind (arith, g, h, behind, rest)
  where
    all_among : (good t : Row → Bool) (up : (p q : Row) → good p ≡ true → good q ≡ true → is_le (row_cmp p q) ≡ true → t p ≡ true → t q ≡ true) (p : Row) (ps : List Row) → good p ≡ true → all_pass good ps ≡ true → is_first p ps ≡ true → t p ≡ true → all_pass t ps ≡ true
    all_among good t up p [] g a f h = refl
    all_among good t up p (q ∷ ps) g a f h = let u = up p q in let rest = all_among good t up p ps in grind (arith, g, a, f, h, u, rest)

pub all_filter : (p t : Row → Bool) (rows : List Row) → all_pass p rows ≡ true → all_pass p (filter t rows) ≡ true
all_filter p t [] h = refl
all_filter p t (row ∷ rows) h = grind (arith, h, all_filter p t rows)

pub ordered_filter : (t : Row → Bool) (rows : List Row) → is_ordered rows ≡ true → is_ordered (filter t rows) ≡ true
ordered_filter t [] h = refl
ordered_filter t (row ∷ rows) h = let f = all_filter (λ other. is_le (row_cmp row other)) t rows in grind (arith, h, f, ordered_filter t rows)

pub all_at : (place : Place) (rows : List Row) → all_pass (is_at place) (rows_at place rows) ≡ true
all_at place [] = refl
all_at place (row ∷ rows) = grind (arith, all_at place rows)

then_same : (set : Scored) (o : Ordering) → ordering_then (place_cmp (Set set) (Set set)) o ≡ o
then_same Schedule o = refl
then_same Retry o = refl
then_same Dead o = refl

-- the order of two rows of a set is that of their pairs
pub set_cmp : (set : Scored) (p q : Row) → p.place ≡ Set set → q.place ≡ Set set → row_cmp p q ≡ pair_cmp (pair_of p) (pair_of q)
set_cmp set p q h k = ap₂ (λ a b. ordering_then (place_cmp a b) (within_cmp b p q)) h k ∙ then_same set (pair_cmp (pair_of p) (pair_of q))

scores_le : (set : Scored) (p q : Row) → is_at (Set set) p ≡ true → is_at (Set set) q ≡ true → is_le (row_cmp p q) ≡ true → is_le (int_cmp p.score q.score) ≡ true
scores_le set p q h k l =
    let a = sym (same_place (Set set) p.place (grind (arith, h))) in
    let b = sym (same_place (Set set) q.place (grind (arith, k))) in
    let c : is_le (pair_cmp (pair_of p) (pair_of q)) ≡ true = ap is_le (sym (set_cmp set p q a b)) ∙ l in
    grind (arith, c)

below_up : (b : Bound) (s z : ℤ) → is_le (int_cmp s z) ≡ true → not (is_below b s) ≡ true → not (is_below b z) ≡ true
below_up Low s z a h = refl
below_up High s z a h = h
below_up (At x) s z a h = grind (arith, ints, a, h)
below_up (Past x) s z a h = grind (arith, ints, a, h)

above_up : (b : Bound) (s z : ℤ) → is_le (int_cmp s z) ≡ true → is_above b s ≡ true → is_above b z ≡ true
above_up Low s z a h = refl
above_up High s z a h = h
above_up (At x) s z a h = grind (arith, ints, a, h)
above_up (Past x) s z a h = grind (arith, ints, a, h)

pub partitioned_reached_by : (low : Bound) (set : Scored) (rows : List Row) → is_ordered rows ≡ true → is_partitioned (λ row. not (is_below low row.score)) (rows_at (Set set) rows) ≡ true
partitioned_reached_by low set rows h = rising_among (is_at (Set set)) (λ row. not (is_below low row.score)) (λ p q a b l k. below_up low p.score q.score (scores_le set p q a b l) k) (rows_at (Set set) rows) (all_at (Set set) rows) (ordered_filter (is_at (Set set)) rows h)

pub partitioned_above_of : (high : Bound) (set : Scored) (rows : List Row) → is_ordered rows ≡ true → is_partitioned (λ row. is_above high row.score) (rows_at (Set set) rows) ≡ true
partitioned_above_of high set rows h = rising_among (is_at (Set set)) (λ row. is_above high row.score) (λ p q a b l k. above_up high p.score q.score (scores_le set p q a b l) k) (rows_at (Set set) rows) (all_at (Set set) rows) (ordered_filter (is_at (Set set)) rows h)

from_up : (score : ℤ) (text : Bytes) (set : Scored) (p q : Row) → is_at (Set set) p ≡ true → is_at (Set set) q ≡ true → is_le (row_cmp p q) ≡ true → is_from score text p ≡ true → is_from score text q ≡ true
from_up score text set p q h k l n =
    let a = sym (same_place (Set set) p.place (grind (arith, h))) in
    let b = sym (same_place (Set set) q.place (grind (arith, k))) in
    let c : is_le (pair_cmp (pair_of p) (pair_of q)) ≡ true = ap is_le (sym (set_cmp set p q a b)) ∙ l in
    not_back (is_lt (pair_cmp (pair_of p) (score, text))) (is_lt (pair_cmp (pair_of q) (score, text))) n (le_lt pair_cmp pair_total (pair_of p) (pair_of q) (score, text) c)
  where
    not_back : (a b : Bool) → not a ≡ true → (b ≡ true → a ≡ true) → not b ≡ true
    not_back a false n f = refl
    not_back true true n f = n
    not_back false true n f = absurd (cc (f refl))

pub partitioned_from : (score : ℤ) (text : Bytes) (set : Scored) (rows : List Row) → is_ordered rows ≡ true → is_partitioned (is_from score text) (rows_at (Set set) rows) ≡ true
partitioned_from score text set rows h = rising_among (is_at (Set set)) (is_from score text) (λ p q a b l k. from_up score text set p q a b l k) (rows_at (Set set) rows) (all_at (Set set) rows) (ordered_filter (is_at (Set set)) rows h)

-- ## Edits

pub ordered_remove : (rows : List Row) (i : ℕ) → is_ordered rows ≡ true → is_ordered (remove rows i) ≡ true
ordered_remove [] zero h = refl
ordered_remove [] (suc i) h = refl
ordered_remove (row ∷ rows) zero h = grind (arith, h)
ordered_remove (row ∷ rows) (suc i) h = let f = all_remove (λ other. is_le (row_cmp row other)) rows i in grind (arith, h, f, ordered_remove rows i)

before_le : (end : Side) (new row : Row) → stands_before end new row ≡ true → is_le (row_cmp row new) ≡ true
before_le Left new row h = lt_is_le row_cmp row_total row new h
before_le Right new row h = h

not_before : (end : Side) (new row : Row) → stands_before end new row ≡ false → is_le (row_cmp new row) ≡ true
not_before Left new row h = lt_back row_cmp row_total row new h
not_before Right new row h = le_back row_cmp row_total row new h

first_trans : (p q : Row) (ps : List Row) → is_le (row_cmp p q) ≡ true → is_first q ps ≡ true → is_first p ps ≡ true
first_trans p q [] h f = refl
first_trans p q (r ∷ ps) h f = grind (arith, h, f, le_trans row_cmp row_total p q r, first_trans p q ps h)

ordered_after : (end : Side) (new : Row) (rows : List Row) → is_ordered rows ≡ true → is_ordered (put_row end new rows) ≡ true
ordered_after end new [] h = refl
ordered_after end new (row ∷ rows) h = cases (stands_before end new row) refl (ordered_after end new rows)
  where
    cases : (b : Bool) → stands_before end new row ≡ b → (is_ordered rows ≡ true → is_ordered (put_row end new rows) ≡ true) → is_ordered (put_row end new (row ∷ rows)) ≡ true
    cases true e again =
        let f : is_first row (put_row end new rows) ≡ true = ap (is_first row) (inserted_after (stands_before end new) new rows) ∙ all_insert (λ other. is_le (row_cmp row other)) rows (position_or_len (λ r. not (stands_before end new r)) rows) new (grind (arith, h)) (before_le end new row e) in
        grind (arith, e, h, f, again)
    cases false e again =
        let f : is_first new rows ≡ true = first_trans new row rows (not_before end new row e) (grind (arith, h)) in
        let g = not_before end new row e in
        grind (arith, e, h, f, g)

pub ordered_put : (end : Side) (new : Row) (rows : List Row) → is_ordered rows ≡ true → is_ordered (put_row end new rows) ≡ true
ordered_put = ordered_after
