-- What an edit of the lists leaves of what holds of them, and of their rows.
use Rattle.std.proofs.Common.{◌≡◌, ◌+◌, ◌<◌, ◌≤◌, ℕ, zero, suc, Bool, true, false, List, [], ◌∷◌, Some, None, drop, filter, length, map, not, slice_get, take, refl, sym, arith, ap, ap₂, subst, ◌∙◌}
use Rattle.std.specs.Prelude.{IfSome, slice_index_or}
use Rattle.std.specs.BTreeMap.{is_at}
use Rattle.std.specs.List.{AllByRecursion, insert, position_or_len, remove}
use Rattle.std.proofs.Math.Seq.{take-length}
use Rattle.std.specs.Map.{lookup, values_of}
use Rattle.std.specs.Option.{is_some}
use Rattle.sk_cmd.specs.declared.argument.Side.{Side}
use Rattle.sk_cmd.specs.declared.argument.Side.TheVariants.{Left, Right}
use Rattle.sk_deques.specs.DequeMoves.{emptied, list_at, with_item, without_item}
use Rattle.sk_deques.proofs.DequeMoving.{length_changed}
use Rattle.sk_undo.specs.Versions.{Versions, edited}
use Rattle.sk_places.specs.declared.row_lists.RowLists.{RowLists}
use Rattle.sk_places.specs.declared.row.Place.{Place}
use Rattle.sk_places.specs.declared.row.Row.{Row}
use Rattle.sk_places.specs.Entries.{Item}
use Rattle.sk_places.specs.RowLists.{AreLists, AreNamed, HasSpace, IsNameless, all_rows, is_list, kept_rows, listed, place_of, rows_in, start_of}
use Rattle.sk_places.specs.Rows.{is_at as is_at_place, place_cmp, put_row, rows_at}
use Rattle.sk_places.proofs.Entries.{map_map, part_map, position_map}
use Rattle.sk_places.proofs.Listed.{list_emptied, list_none, list_put, list_removed, list_rows}
use Rattle.sk_places.proofs.SpareDeques.{nameless_stays, spare_edited}

pub place_within : {X : Type 0} (end : Side) (l : List X) → place_of end l ≤ length l
place_within Left l = omega arith
place_within Right l = omega arith

number_below : (test : Place → Bool) (es : List (Place × ℕ)) (n k : ℕ) → lookup test es ≡ Some n → AllByRecursion (λ m. m < k) (values_of es) → n < k
number_below test [] n k f b = absurd (cc f)
number_below test (e ∷ es) n k f b = by (test e.0) refl (λ g. number_below test es n k g b.1)
  where
    by : (c : Bool) → test e.0 ≡ c → (lookup test es ≡ Some n → n < k) → n < k
    by true t again = let g = rw t at f in let same : e.1 ≡ n = cc g in subst (λ m. m < k) same b.0
    by false t again = again (rw t at f)

pub list_there : (l : RowLists) (place : Place) (n : ℕ) → AreLists l → lookup (is_at (place_cmp place)) l.names.list.current ≡ Some n → n < length l.deques.lists.current
list_there l place n a f = number_below (is_at (place_cmp place)) l.names.list.current n (length l.deques.lists.current) f a.named.below

named_edited : (names : Versions (List (Place × ℕ))) (s t : Versions (List (List Item))) (ls : List (List Item)) → t ≡ edited ls s → length ls ≡ length s.current → AreNamed names s → AreNamed names t
named_edited names s t ls e h q = subst (AreNamed names) (sym e) (record {
  closed = q.closed;
  sorted = q.sorted;
  kinds = q.kinds;
  apart = q.apart;
  below = subst (λ k. AllByRecursion (λ n. n < k) (values_of names.current)) (sym h) q.below;
  as_many = subst (λ k. IfSome s.saved (λ were. length were ≡ k)) (sym h) q.as_many;
})

-- an edit of the deques alone
pub lists_edited : (l m : RowLists) (ls : List (List Item)) (rows : List Row) → m.names.list ≡ l.names.list → m.sets.list ≡ l.sets.list → m.spare.numbers.items ≡ l.spare.numbers.items → m.deques.lists ≡ edited ls l.deques.lists → length ls ≡ length l.deques.lists.current → ((k : ℕ) → IsNameless k l.names.list.current → list_at k ls ≡ list_at k l.deques.lists.current) → all_rows l.names.list.current ls l.sets.list.current ≡ rows → AreLists l
    → AreLists m × (rows_in m ≡ edited rows (rows_in l))
lists_edited l m ls rows names sets spare is long stays all a = (
  record {
    named = subst (λ ns. AreNamed ns m.deques.lists) (sym names) (named_edited l.names.list l.deques.lists m.deques.lists ls is long a.named);
    sets = rw sets a.sets;
    spare = rw (names, spare, is) (spare_edited l.spare.numbers.items l.names.list.current l.deques.lists ls long stays a.spare);
    one_step = ap (λ (s : Versions (List (List Item))). is_some s.saved) is ∙ a.one_step ∙ ap (λ s. is_some s.saved) (sym sets);
  },
  ap₂ (λ ns s. kept_rows ns.current m.deques.lists s) names sets ∙ ap (λ s. kept_rows l.names.list.current s l.sets.list) is ∙ ap (λ r. edited r (rows_in l)) all,
)

module _ (l : RowLists) (place : Place) (n : ℕ) (a : AreLists l) (list : is_list place ≡ true) (found : lookup (is_at (place_cmp place)) l.names.list.current ≡ Some n) where
  pub own_rows : rows_at place (rows_in l).current ≡ map (listed place) (list_at n l.deques.lists.current)
  own_rows = list_rows l.names.list.current l.deques.lists.current l.sets.list.current a.named.sorted a.named.apart a.sets.current place n list found (list_there l place n a found)

  length_listed : (items : List Item) → length (map (listed place) items) ≡ length items
  length_listed [] = refl
  length_listed (item ∷ items) = ap suc (length_listed items)

  get_of : (items : List Item) (i : ℕ) (item : Item) → slice_get items i ≡ Some item → slice_get (map (listed place) items) i ≡ Some (listed place item)
  get_of [] i item e = cc e
  get_of (other ∷ items) zero item e = let same : other ≡ item = cc e in ap (λ x. Some (listed place x)) same
  get_of (other ∷ items) (suc i) item e = get_of items i item e

  -- how many rows the place has
  pub len_is : length (rows_at place (rows_in l).current) ≡ length (list_at n l.deques.lists.current)
  len_is = ap length own_rows ∙ length_listed (list_at n l.deques.lists.current)

  pub get_is : (i : ℕ) (item : Item) → slice_get (list_at n l.deques.lists.current) i ≡ Some item → slice_get (rows_at place (rows_in l).current) i ≡ Some (listed place item)
  get_is i item e = ap (λ rows. slice_get rows i) own_rows ∙ get_of (list_at n l.deques.lists.current) i item e

  -- a row that comes to an end
  pub put_is : (m : RowLists) (end : Side) (at : ℕ) (item : Item) → m.names.list ≡ l.names.list → m.sets.list ≡ l.sets.list → m.spare.numbers.items ≡ l.spare.numbers.items → at ≡ place_of end (list_at n l.deques.lists.current) → m.deques.lists ≡ edited (with_item n at item l.deques.lists.current) l.deques.lists
      → AreLists m × (rows_in m ≡ edited (put_row end (listed place item) (rows_in l).current) (rows_in l))
  put_is m end at item names sets spare there is = lists_edited l m (with_item n at item l.deques.lists.current) (put_row end (listed place item) (rows_in l).current) names sets spare is (length_changed n (λ its. insert its at item) l.deques.lists.current)
      (λ k none. nameless_stays (is_at (place_cmp place)) l.names.list.current n k (λ its. insert its at item) l.deques.lists.current found none)
      (ap (λ k. all_rows l.names.list.current (with_item n k item l.deques.lists.current) l.sets.list.current) there ∙ list_put l.names.list.current l.deques.lists.current l.sets.list.current a.named.sorted a.named.apart a.sets.current place n list found (list_there l place n a found) end item) a

  -- a row that goes
  pub removed_is : (m : RowLists) (at : ℕ) → at < length (rows_at place (rows_in l).current) → m.names.list ≡ l.names.list → m.sets.list ≡ l.sets.list → m.spare.numbers.items ≡ l.spare.numbers.items → m.deques.lists ≡ edited (without_item n at l.deques.lists.current) l.deques.lists
      → AreLists m × (rows_in m ≡ edited (remove (rows_in l).current (start_of place (rows_in l).current + at)) (rows_in l))
  removed_is m at within names sets spare is =
      let less : at < length (list_at n l.deques.lists.current) = subst (λ k. at < k) len_is within in
      lists_edited l m (without_item n at l.deques.lists.current) (remove (rows_in l).current (start_of place (rows_in l).current + at)) names sets spare is (length_changed n (λ its. remove its at) l.deques.lists.current)
      (λ k none. nameless_stays (is_at (place_cmp place)) l.names.list.current n k (λ its. remove its at) l.deques.lists.current found none)
      (list_removed l.names.list.current l.deques.lists.current l.sets.list.current a.named.sorted a.named.apart a.sets.current place n list found (list_there l place n a found) at less) a

  -- all rows of the place go
  pub emptied_is : (m : RowLists) → m.names.list ≡ l.names.list → m.sets.list ≡ l.sets.list → m.spare.numbers.items ≡ l.spare.numbers.items → m.deques.lists ≡ edited (emptied n l.deques.lists.current) l.deques.lists
      → AreLists m × (rows_in m ≡ edited (filter (λ row. not (is_at_place place row)) (rows_in l).current) (rows_in l))
  emptied_is m names sets spare is = lists_edited l m (emptied n l.deques.lists.current) (filter (λ row. not (is_at_place place row)) (rows_in l).current) names sets spare is (length_changed n (λ its. []) l.deques.lists.current)
      (λ k none. nameless_stays (is_at (place_cmp place)) l.names.list.current n k (λ its. []) l.deques.lists.current found none)
      (list_emptied l.names.list.current l.deques.lists.current l.sets.list.current a.named.sorted a.named.apart a.sets.current place n list found (list_there l place n a found)) a

  -- looks at the place's rows
  pub position_is : (t : Row → Bool) (i j : ℕ) → position_or_len (λ e. t (listed place e)) (drop i (take j (list_at n l.deques.lists.current))) ≡ position_or_len t (drop i (take j (rows_at place (rows_in l).current)))
  position_is t i j = position_map (listed place) t (drop i (take j (list_at n l.deques.lists.current))) ∙ ap (position_or_len t) (part_map (listed place) (list_at n l.deques.lists.current) i j ∙ ap (λ rows. drop i (take j rows)) (sym own_rows))

  pub text_is : (t : Row → Bool) (len : ℕ) → len ≡ length (list_at n l.deques.lists.current) → position_or_len (λ e. t (listed place e)) (drop 0 (take len (list_at n l.deques.lists.current))) ≡ position_or_len t (rows_at place (rows_in l).current)
  text_is t len is = ap (λ k. position_or_len (λ e. t (listed place e)) (take k (list_at n l.deques.lists.current))) is ∙ ap (position_or_len (λ e. t (listed place e))) (take-length (list_at n l.deques.lists.current)) ∙ position_map (listed place) t (list_at n l.deques.lists.current) ∙ ap (position_or_len t) (sym own_rows)

  pub texts_are : (i j : ℕ) → map (λ e. e.1) (drop i (take j (list_at n l.deques.lists.current))) ≡ map (λ row. row.text) (drop i (take j (rows_at place (rows_in l).current)))
  texts_are i j = sym (map_map (listed place) (λ row. row.text) (drop i (take j (list_at n l.deques.lists.current)))) ∙ ap (map (λ row. row.text)) (part_map (listed place) (list_at n l.deques.lists.current) i j ∙ ap (λ rows. drop i (take j rows)) (sym own_rows))

-- where the place has no deque
pub no_rows : (l : RowLists) (place : Place) → AreLists l → is_list place ≡ true → lookup (is_at (place_cmp place)) l.names.list.current ≡ None → rows_at place (rows_in l).current ≡ []
no_rows l place a list none = list_none l.names.list.current l.deques.lists.current l.sets.list.current a.named.sorted a.named.apart a.sets.current place list none

pub none_is : (l : RowLists) (place : Place) → AreLists l → is_list place ≡ true → lookup (is_at (place_cmp place)) l.names.list.current ≡ None → length (rows_at place (rows_in l).current) ≡ 0
none_is l place a list none = ap length (list_none l.names.list.current l.deques.lists.current l.sets.list.current a.named.sorted a.named.apart a.sets.current place list none)

pub some_found : (l : RowLists) (place : Place) (at : ℕ) → AreLists l → is_list place ≡ true → at < length (rows_at place (rows_in l).current) → ¬ (lookup (is_at (place_cmp place)) l.names.list.current ≡ None)
some_found l place at a list within none = let e = none_is l place a list none in absurd (omega (arith, within, e))

-- the memory of the place's deque, by its number
pub space_for : (count : ℕ) (place : Place) (l : RowLists) (n : ℕ) → HasSpace count place l.names.list.current l.deques.lists.current l.deques.spaces → lookup (is_at (place_cmp place)) l.names.list.current ≡ Some n → length (list_at n l.deques.lists.current) + count ≤ slice_index_or l.deques.spaces n 0
space_for count place l n s f =
    let both : Some s.number ≡ Some n = sym s.found ∙ f in
    let same : s.number ≡ n = cc both in
    subst (λ k. length (list_at k l.deques.lists.current) + count ≤ slice_index_or l.deques.spaces k 0) same s.within

pub within_listed : (l : RowLists) (place : Place) (n at : ℕ) → AreLists l → is_list place ≡ true → lookup (is_at (place_cmp place)) l.names.list.current ≡ Some n → at < length (rows_at place (rows_in l).current) → at < length (list_at n l.deques.lists.current)
within_listed l place n at a list found h = subst (λ k. at < k) (len_is l place n a list found) h

-- nothing but memory was taken
pub lists_same : (l m : RowLists) → m.names.list ≡ l.names.list → m.deques.lists ≡ l.deques.lists → m.sets.list ≡ l.sets.list → m.spare.numbers.items ≡ l.spare.numbers.items → AreLists l → AreLists m × (rows_in m ≡ rows_in l)
lists_same l m names lists sets spare a = (
  record { named = rw (names, lists) a.named; sets = rw sets a.sets; spare = rw (names, lists, spare) a.spare; one_step = rw (lists, sets) a.one_step },
  ap₂ (λ ns s. kept_rows ns.current s m.sets.list) names lists ∙ ap (kept_rows l.names.list.current l.deques.lists) sets,
)
