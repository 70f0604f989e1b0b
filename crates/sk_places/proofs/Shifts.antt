-- A row that goes from one place to another, or within its own.
use Rattle.std.proofs.Common.{◌≡◌, ◌+◌, ◌-◌, ◌<◌, ◌≤◌, nat_eq, ℕ, ℤ, zero, suc, Bool, true, false, List, [], ◌∷◌, Option, Some, None, length, option_map, slice_get, refl, sym, arith, ap, ap₂, subst, ◌∙◌}
use Rattle.std.specs.Prelude.{slice_index_or}
use Rattle.std.specs.BTreeMap.{is_at}
use Rattle.std.specs.List.{insert, remove, position_or_len}
use Rattle.std.specs.Map.{lookup}
use Rattle.std.specs.Ordering.{is_lt}
use borrow.Author.Tests.{eqb-true, eqb-false}
use Rattle.sk_resp.specs.Spelling.{Bytes}
use Rattle.sk_cmd.specs.declared.argument.Side.{Side}
use Rattle.sk_deques.specs.DequeMoves.{IsMove, list_at, moved, with_moved, without_item}
use Rattle.sk_deques.proofs.DequeMoving.{length_changed, some_at}
use Rattle.sk_deques.proofs.DequeNumbers.{at_other, at_same}
use Rattle.sk_undo.specs.Versions.{edited}
use Rattle.sk_places.specs.declared.row_lists.RowLists.{RowLists}
use Rattle.sk_places.specs.declared.row.Place.{Place}
use Rattle.sk_places.specs.declared.row.Row.{Row}
use Rattle.sk_places.specs.declared.row.RowKey.{RowKey}
use Rattle.sk_places.specs.Entries.{Item, as_row, put_again, shifted}
use Rattle.sk_places.specs.RowLists.{AreLists, IsNameless, all_rows, is_list, listed, place_of, rows_in, start_of}
use Rattle.sk_places.specs.Order.{is_ordered}
use Rattle.sk_places.specs.Rows.{place_cmp, put_row, rows_at}
use Rattle.sk_places.proofs.Holding.{get_is, len_is, list_there, lists_edited, place_within}
use Rattle.sk_places.proofs.SpareDeques.{nameless_stays}
use Rattle.sk_places.proofs.Listed.{list_put, list_removed}
use Rattle.sk_places.proofs.Segments.{length_at, segment, there}

-- where a row of a place stands among all
pub start_get : (place : Place) (rows : List Row) (at : ℕ) → is_ordered rows ≡ true → at < length (rows_at place rows) → slice_get (rows_at place rows) at ≡ slice_get rows (start_of place rows + at)
start_get place rows at ordered h =
    let end : ℕ = position_or_len (λ row. is_lt (place_cmp place row.place)) rows in
    let s = segment place rows (start_of place rows) end ordered refl refl in
    let l = length_at place rows (start_of place rows) end s in
    there place rows (start_of place rows) end at s (omega (arith, l, h))

-- the row that was found goes to another spot
pub shifted_to : (end : Side) (row_key : RowKey) (place : Place) (item : Item) (rows : List Row) (at : ℕ) → is_ordered rows ≡ true → at < length (rows_at place rows) → slice_get (rows_at place rows) at ≡ Some (listed place item)
    → put_row end (as_row (row_key, item.1)) (remove rows (start_of place rows + at)) ≡ shifted end (start_of place rows + at) row_key rows
shifted_to end row_key place item rows at ordered h is = ap (λ o. put_again end row_key o (remove rows (start_of place rows + at))) (sym (sym (start_get place rows at ordered h) ∙ is))

-- a copy of it does
copied_there : (end : Side) (row_key : RowKey) (text : Bytes) (o : Option Row) (rows : List Row) → option_map (λ row. row.text) o ≡ Some text → put_row end (as_row (row_key, text)) rows ≡ put_again end row_key o rows
copied_there end row_key text None rows h = cc h
copied_there end row_key text (Some row) rows h = let e : row.text ≡ text = cc h in ap (λ t. put_row end (as_row (row_key, t)) rows) (sym e)

pub copied_to : (end : Side) (row_key : RowKey) (place : Place) (text : Bytes) (rows : List Row) (at : ℕ) → is_ordered rows ≡ true → at < length (rows_at place rows) → option_map (λ row. row.text) (slice_get (rows_at place rows) at) ≡ Some text
    → put_row end (as_row (row_key, text)) (remove rows (start_of place rows + at)) ≡ shifted end (start_of place rows + at) row_key rows
copied_to end row_key place text rows at ordered h is = copied_there end row_key text (slice_get rows (start_of place rows + at)) (remove rows (start_of place rows + at)) (ap (option_map (λ row. row.text)) (sym (start_get place rows at ordered h)) ∙ is)

-- ## Within deques

module _ {X : Type 0} where
  length_removed : (l : List X) (i : ℕ) → i < length l → length (remove l i) + 1 ≡ length l
  length_removed [] i h = absurd (omega (arith, h))
  length_removed (x ∷ l) zero h = omega arith
  length_removed (x ∷ l) (suc i) h = let again = length_removed l i (omega (arith, h)) in omega (arith, again)

  pub behind_same : (ls : List (List X)) (n m at k : ℕ) → n ≡ m → n < length ls → at < length (list_at n ls) → k ≡ length (list_at m ls) → k - 1 ≡ length (list_at m (without_item n at ls))
  behind_same ls n m at k e h w is =
      let cut : list_at n (without_item n at ls) ≡ remove (list_at n ls) at = at_same n (λ l. remove l at) ls h in
      let short = length_removed (list_at n ls) at w in
      subst (λ q. k - 1 ≡ length (list_at q (without_item n at ls))) e (let longer = ap length cut in let whole : k ≡ length (list_at n ls) = subst (λ q. k ≡ length (list_at q ls)) (sym e) is in omega (arith, longer, short, whole))

  pub behind_other : (ls : List (List X)) (n m at k : ℕ) → ¬ (n ≡ m) → k ≡ length (list_at m ls) → k ≡ length (list_at m (without_item n at ls))
  behind_other ls n m at k d is = is ∙ sym (ap length (at_other m n (λ l. remove l at) ls (λ e. d (sym e))))

  pub no_longer : (ls : List (List X)) (n m at : ℕ) → n < length ls → at < length (list_at n ls) → length (list_at m (without_item n at ls)) ≤ length (list_at m ls)
  no_longer ls n m at h w = by (nat_eq n m) refl
    where
      by : (b : Bool) → nat_eq n m ≡ b → length (list_at m (without_item n at ls)) ≤ length (list_at m ls)
      by true e = let same : n ≡ m = eqb-true n m e in subst (λ q. length (list_at q (without_item n at ls)) ≤ length (list_at q ls)) same (let longer = ap length (at_same n (λ l. remove l at) ls h) in let short = length_removed (list_at n ls) at w in omega (arith, longer, short))
      by false e = let other = ap length (at_other m n (λ l. remove l at) ls (λ q. eqb-false n m e (sym q))) in omega (arith, other)

  -- It can go there.
  pub may_move : (end : Side) (ls : List (List X)) (spaces : List ℕ) (n m at j : ℕ) → n < length ls → m < length ls → at < length (list_at n ls) → j ≡ place_of end (list_at m (without_item n at ls)) → length (list_at m ls) + 1 ≤ slice_index_or spaces m 0 → IsMove n at m j ls spaces
  may_move end ls spaces n m at j out onto item place room =
      let within = place_within end (list_at m (without_item n at ls)) in
      let short = no_longer ls n m at out item in
      record { out = out; onto = onto; item = item; place = omega (arith, place, within); room = omega (arith, short, room) }

length_moved : (o : Option Item) (m j : ℕ) (tag : ℤ) (ls : List (List Item)) → length (with_moved o m j tag ls) ≡ length ls
length_moved None m j tag ls = refl
length_moved (Some x) m j tag ls = length_changed m (λ l. insert l j (tag, x.1)) ls

moved_stays : (o : Option Item) (test : Place → Bool) (es : List (Place × ℕ)) (n m j : ℕ) (tag : ℤ) (ls : List (List Item)) → lookup test es ≡ Some n → IsNameless m es → list_at m (with_moved o n j tag ls) ≡ list_at m ls
moved_stays None test es n m j tag ls found none = refl
moved_stays (Some x) test es n m j tag ls found none = nameless_stays test es n m (λ l. insert l j (tag, x.1)) ls found none

pub shifted_is : (l m : RowLists) (from : Place) (row_key : RowKey) (end : Side) (n k at j : ℕ) → AreLists l → is_ordered (rows_in l).current ≡ true → is_list from ≡ true → is_list row_key.place ≡ true → lookup (is_at (place_cmp from)) l.names.list.current ≡ Some n → lookup (is_at (place_cmp row_key.place)) l.names.list.current ≡ Some k → at < length (rows_at from (rows_in l).current) → j ≡ place_of end (list_at k (without_item n at l.deques.lists.current))
    → m.names.list ≡ l.names.list → m.sets.list ≡ l.sets.list → m.spare.numbers.items ≡ l.spare.numbers.items → m.deques.lists ≡ edited (moved n at k j row_key.score l.deques.lists.current) l.deques.lists
    → AreLists m × (rows_in m ≡ edited (shifted end (start_of from (rows_in l).current + at) row_key (rows_in l).current) (rows_in l))
shifted_is l m from row_key end n k at j a ordered list_from list_to found onto within place names sets spare is =
    let ls : List (List Item) = l.deques.lists.current in
    let out : n < length l.deques.lists.current = list_there l from n a found in
    let less : at < length (list_at n l.deques.lists.current) = subst (λ c. at < c) (len_is l from n a list_from found) within in
    let item = some_at (list_at n l.deques.lists.current) at less in
    let rest : List (List Item) = without_item n at l.deques.lists.current in
    let long : length rest ≡ length l.deques.lists.current = length_changed n (λ its. remove its at) l.deques.lists.current in
    let to_there = list_there l row_key.place k a onto in
    let there_too : k < length rest = omega (arith, long, to_there) in
    let put : all_rows l.names.list.current (moved n at k j row_key.score l.deques.lists.current) l.sets.list.current ≡ put_row end (as_row (row_key, item.0.1)) (remove (rows_in l).current (start_of from (rows_in l).current + at)) =
    ap₂ (λ o i. all_rows l.names.list.current (with_moved o k i row_key.score rest) l.sets.list.current) item.1 place
    ∙ list_put l.names.list.current rest l.sets.list.current a.named.sorted a.named.apart a.sets.current row_key.place k list_to onto there_too end (row_key.score, item.0.1)
    ∙ ap (put_row end (as_row (row_key, item.0.1))) (list_removed l.names.list.current l.deques.lists.current l.sets.list.current a.named.sorted a.named.apart a.sets.current from n list_from found out at less) in
    lists_edited l m (moved n at k j row_key.score l.deques.lists.current) (shifted end (start_of from (rows_in l).current + at) row_key (rows_in l).current) names sets spare is
    (length_moved (slice_get (list_at n l.deques.lists.current) at) k j row_key.score rest ∙ long)
    (λ q none. moved_stays (slice_get (list_at n l.deques.lists.current) at) (is_at (place_cmp row_key.place)) l.names.list.current k q j row_key.score rest onto none ∙ nameless_stays (is_at (place_cmp from)) l.names.list.current n q (λ its. remove its at) l.deques.lists.current found none)
    (put ∙ shifted_to end row_key from item.0 (rows_in l).current at ordered within (get_is l from n a list_from found at item.0 item.1)) a
