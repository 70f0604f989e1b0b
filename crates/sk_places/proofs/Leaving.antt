-- A place's rows once one of them is gone.
use Rattle.std.proofs.Common.{◌≡◌, ◌+◌, ◌-◌, ◌<◌, ◌≤◌, nat_lt, cond, ℕ, Bool, true, false, List, Option, Some, None, drop, length, take, refl, sym, arith, ap, ◌∙◌}
use Rattle.std.specs.List.{position_or_len, remove}
use Rattle.std.specs.Ordering.{is_le, is_lt}
use Rattle.std.proofs.lemmas.Bool.Decides.{nat_tests}
use Rattle.sk_places.specs.declared.row.Place.{Place}
use Rattle.sk_places.specs.declared.row.Row.{Row}
use Rattle.sk_places.specs.Ends.{ended_of, left, left_of}
use Rattle.sk_places.specs.LiveJobs.{Lived}
use Rattle.sk_places.specs.declared.ending.Ending.{Ending}
use Rattle.sk_places.specs.Order.{is_ordered}
use Rattle.sk_places.specs.RowLists.{start_of}
use Rattle.sk_places.specs.Rows.{place_cmp, rows_at}
use Rattle.sk_places.specs.Segments.{IsSegment}
use Rattle.sk_places.proofs.Lists.{position_removed}
use Rattle.sk_places.proofs.Ranges.{range_range}
use Rattle.sk_places.proofs.Rising.{ordered_remove, partitioned_passed, partitioned_reached}
use Rattle.sk_places.proofs.Segments.{length_at, segment}

not_less : (i n : ℕ) → n ≤ i → nat_lt i n ≡ false
not_less i n h = grind (arith, nat_tests, h)

is_less : (i n : ℕ) → i < n → nat_lt i n ≡ true
is_less i n h = grind (arith, nat_tests, h)

module _ (place : Place) (rows : List Row) (at : ℕ) (ordered : is_ordered rows ≡ true) (h : at < length (rows_at place rows)) where
  abbrev stop : ℕ
  stop = position_or_len (λ row. is_lt (place_cmp place row.place)) rows

  abbrev index : ℕ
  index = start_of place rows + at

  seg : IsSegment place (start_of place rows) stop rows
  seg = segment place rows (start_of place rows) stop ordered refl refl

  before_stop : index < stop
  before_stop = let n = length_at place rows (start_of place rows) stop seg in omega (arith, n, h)

  pub leaving_within : start_of place rows + at < length rows
  leaving_within = let b = before_stop in let w = seg.within in omega (arith, b, w)

  pub leaving_start : start_of place (remove rows (start_of place rows + at)) ≡ start_of place rows
  leaving_start =
      position_removed (λ row. is_le (place_cmp place row.place)) rows index leaving_within (partitioned_reached place rows ordered)
      ∙ ap (λ b. cond b (start_of place rows - 1) (start_of place rows)) (not_less index (start_of place rows) (omega arith))

  stop_less : position_or_len (λ row. is_lt (place_cmp place row.place)) (remove rows (start_of place rows + at)) ≡ stop - 1
  stop_less =
      position_removed (λ row. is_lt (place_cmp place row.place)) rows index leaving_within (partitioned_passed place rows ordered)
      ∙ ap (λ b. cond b (stop - 1) stop) (is_less index stop before_stop)

  pub leaving_fewer : length (rows_at place (remove rows (start_of place rows + at))) + 1 ≡ length (rows_at place rows)
  leaving_fewer =
      let n = length_at place rows (start_of place rows) stop seg in
      let rest = segment place (remove rows (start_of place rows + at)) (start_of place (remove rows (start_of place rows + at))) (position_or_len (λ row. is_lt (place_cmp place row.place)) (remove rows (start_of place rows + at))) (ordered_remove rows (start_of place rows + at) ordered) refl refl in
      let m = length_at place (remove rows (start_of place rows + at)) (start_of place (remove rows (start_of place rows + at))) (position_or_len (λ row. is_lt (place_cmp place row.place)) (remove rows (start_of place rows + at))) rest in
      let s = leaving_start in
      let e = stop_less in
      let b = before_stop in
      omega (arith, n, m, s, e, b)

-- all rows of a place
pub whole_segment : (place : Place) (rows : List Row) (count : ℕ) → is_ordered rows ≡ true → count ≡ length (rows_at place rows) → IsSegment place (start_of place rows + 0) (start_of place rows + count) rows
whole_segment place rows count ordered is =
    let end : ℕ = position_or_len (λ row. is_lt (place_cmp place row.place)) rows in
    let s = segment place rows (start_of place rows) end ordered refl refl in
    let n = length_at place rows (start_of place rows) end s in
    segment place rows (start_of place rows + 0) (start_of place rows + count) ordered (omega arith) (let o = s.order in omega (arith, n, is, o))

-- where a row that was looked for at a place stands among all
pub whole_position : (t : Row → Bool) (place : Place) (rows : List Row) (first end at : ℕ) → is_ordered rows ≡ true → end ≤ length (rows_at place rows) → at ≡ first + position_or_len t (drop first (take end (rows_at place rows))) → start_of place rows + at ≡ (start_of place rows + first) + position_or_len t (drop (start_of place rows + first) (take (start_of place rows + end) rows))
whole_position t place rows first end at ordered h is =
    let stop : ℕ = position_or_len (λ row. is_lt (place_cmp place row.place)) rows in
    let s = segment place rows (start_of place rows) stop ordered refl refl in
    let n = length_at place rows (start_of place rows) stop s in
    let o = s.order in
    let inside : drop (start_of place rows + first) (take (start_of place rows + end) rows) ≡ drop first (take end (rows_at place rows)) =
    range_range rows (start_of place rows) stop first end (omega (arith, n, h, o)) ∙ ap (λ l. drop first (take end l)) (sym s.inside) in
    let there = ap (position_or_len t) inside in
    omega (arith, is, there)

-- the job of a row that is there ends, where it does
pub left_row : (how : Option Ending) (found : Option Row) (row : Row) (l : Lived) → found ≡ Some row → left_of how found l ≡ left how row.text l
left_row None found row l is = refl
left_row (Some how) found row l is = ap (λ o. ended_of how o l) is
