-- What an edit of a place's deque, or of the sets, is to all rows.
use Rattle.std.proofs.Common.{◌≡◌, ◌+◌, ◌<◌, ℕ, zero, suc, Bool, true, false, not, List, [], ◌∷◌, ◌++◌, Some, None, filter, length, map, refl, sym, arith, ap, ap₂, append_assoc, subst, ◌∙◌}
use Rattle.std.proofs.lemmas.List.{map-append}
use Rattle.std.specs.BTreeMap.{is_at as is_key}
use Rattle.std.specs.List.{AllByRecursion, insert, remove}
use Rattle.std.specs.Map.{keys_of, values_of, lookup}
use Rattle.std.specs.Ordering.{is_eq, is_le, is_lt}
use Rattle.std.specs.declared.cmp.Ordering.{Ordering}
use Rattle.std.specs.declared.cmp.Ordering.TheVariants.{Less, Equal, Greater}
use Rattle.sk_cmd.specs.declared.argument.Side.{Side}
use Rattle.sk_cmd.specs.declared.argument.Side.TheVariants.{Left, Right}
use Rattle.sk_deques.specs.DequeMoves.{changed_at, emptied, list_at, with_item, without_item}
use Rattle.sk_undo.specs.Partitioned.{all_pass}
use Rattle.sk_undo.specs.Sorted.{is_sorted}
use Rattle.sk_deques.proofs.DequeNumbers.{at_other, at_same}
use Rattle.sk_places.specs.declared.row.Place.{Place}
use Rattle.sk_places.specs.declared.row.Place.TheVariants.{Queue, Private, Set}
use Rattle.sk_places.specs.declared.row.Row.{Row}
use Rattle.sk_places.specs.Entries.{Entry, Item, as_rows}
use Rattle.sk_places.specs.RowLists.{AreApart, all_rows, is_list, is_of_set, listed, place_of, rows_in_lists, start_of}
use Rattle.sk_places.specs.Rows.{is_at, place_cmp, put_row, rows_at, stands_before}
use Rattle.sk_places.proofs.Order.{itself}
use Rattle.sk_places.specs.PlaceOrder.{place_total, same_place}
use Rattle.sk_places.proofs.Parted.{IsParted, after_past, all_append, all_less, filter_all, filter_none, filter_past, insert_end, less_is, not_here_before, not_here_behind, parted_left, parted_others, parted_remove, parted_right, parted_rows, position_past, remove_past, stands_earlier, turned}

-- ## Places in order

sorted_head : (p : Place) (ps : List Place) → is_sorted place_cmp (p ∷ ps) ≡ true → all_pass (λ q. is_lt (place_cmp p q)) ps ≡ true
sorted_head p ps s = grind (arith, s)

sorted_rest : (p : Place) (ps : List Place) → is_sorted place_cmp (p ∷ ps) ≡ true → is_sorted place_cmp ps ≡ true
sorted_rest p ps s = grind (arith, s)

further : (p q : Place) (ps : List Place) → place_cmp p q ≡ Less → all_pass (λ r. is_lt (place_cmp q r)) ps ≡ true → all_pass (λ r. is_lt (place_cmp p r)) ps ≡ true
further p q ps h k = all_less (λ r. is_lt (place_cmp p r)) (λ r. is_lt (place_cmp q r)) (λ r l. ap is_lt (place_total.trans p q r h (less_is (place_cmp q r) l))) ps k

none_found : (p : Place) (es : List (Place × ℕ)) → all_pass (λ q. is_lt (place_cmp p q)) (keys_of es) ≡ true → lookup (is_key (place_cmp p)) es ≡ None
none_found p [] h = refl
none_found p (e ∷ es) h = let less : is_lt (place_cmp p e.0) ≡ true = grind (arith, h) in let is = less_is (place_cmp p e.0) less in grind (arith, is, h, none_found p es)

pub found_apart : (test : Place → Bool) (es : List (Place × ℕ)) (n k : ℕ) → lookup test es ≡ Some n → AllByRecursion (λ m. ¬ (m ≡ k)) (values_of es) → ¬ (n ≡ k)
found_apart test [] n k f d = λ e. absurd (cc f)
found_apart test (e ∷ es) n k f d = by (test e.0) refl (λ g. found_apart test es n k g d.1)
  where
    by : (b : Bool) → test e.0 ≡ b → (lookup test es ≡ Some n → ¬ (n ≡ k)) → ¬ (n ≡ k)
    by true t again = let g = rw t at f in let same : e.1 ≡ n = cc g in subst (λ m. ¬ (m ≡ k)) same d.0
    by false t again = again (rw t at f)

-- ## Rows of deques

all_listed : (t : Place → Bool) (place : Place) (items : List Item) → t place ≡ true → all_pass (λ row. t row.place) (map (listed place) items) ≡ true
all_listed t place [] h = refl
all_listed t place (item ∷ items) h = grind (arith, h, all_listed t place items)

all_in_lists : (t : Place → Bool) (es : List (Place × ℕ)) (ls : List (List Item)) → all_pass t (keys_of es) ≡ true → all_pass (λ row. t row.place) (rows_in_lists es ls) ≡ true
all_in_lists t [] ls h = refl
all_in_lists t (e ∷ es) ls h = all_append (λ row. t row.place) (map (listed e.0) (list_at e.1 ls)) (rows_in_lists es ls) (all_listed t e.0 (list_at e.1 ls) (grind (arith, h))) (all_in_lists t es ls (grind (arith, h)))

rows_other : (es : List (Place × ℕ)) (n : ℕ) (f : List Item → List Item) (ls : List (List Item)) → AllByRecursion (λ m. ¬ (m ≡ n)) (values_of es) → rows_in_lists es (changed_at n f ls) ≡ rows_in_lists es ls
rows_other [] n f ls d = refl
rows_other (e ∷ es) n f ls d = ap₂ (λ l rows. map (listed e.0) l ++ rows) (at_other e.1 n f ls d.0) (rows_other es n f ls d.1)

-- the rows of all deques, in three parts about a place's own, and what an edit of its deque leaves of them
pub record HasParts (place : Place) (n : ℕ) (es : List (Place × ℕ)) (ls : List (List Item)) : Type 0 where
  pub front : List Row
  pub back : List Row
  pub whole : rows_in_lists es ls ≡ front ++ (map (listed place) (list_at n ls) ++ back)
  pub edited : (f : List Item → List Item) → rows_in_lists es (changed_at n f ls) ≡ front ++ (map (listed place) (f (list_at n ls)) ++ back)
  pub before : all_pass (λ row. is_lt (place_cmp row.place place)) front ≡ true
  pub behind : all_pass (λ row. is_lt (place_cmp place row.place)) back ≡ true

pub parts : (es : List (Place × ℕ)) (place : Place) (n : ℕ) (ls : List (List Item)) → is_sorted place_cmp (keys_of es) ≡ true → AreApart (values_of es) → lookup (is_key (place_cmp place)) es ≡ Some n → n < length ls → HasParts place n es ls
parts [] place n ls s d f h = absurd (cc f)
parts (e ∷ es) place n ls s d f h =
    by (place_cmp place e.0) refl (λ g. parts es place n ls (sorted_rest e.0 (keys_of es) s) d.1 g h)
  where
    by : (o : Ordering) → place_cmp place e.0 ≡ o → (lookup (is_key (place_cmp place)) es ≡ Some n → HasParts place n es ls) → HasParts place n (e ∷ es) ls
    by Less o again = absurd (let none = none_found place es (further place e.0 (keys_of es) o (sorted_head e.0 (keys_of es) s)) in let g = rw o at f in cc (none, g))
    by Equal o again =
        let same : e.0 ≡ place = sym (same_place place e.0 o) in
        let g = rw o at f in
        let number : e.1 ≡ n = cc g in
        let apart : AllByRecursion (λ m. ¬ (m ≡ n)) (values_of es) = subst (λ k. AllByRecursion (λ m. ¬ (m ≡ k)) (values_of es)) number d.0 in
        record {
          front = [];
          back = rows_in_lists es ls;
          whole = ap₂ (λ p k. map (listed p) (list_at k ls) ++ rows_in_lists es ls) same number;
          edited = λ f. ap₂ (λ p k. map (listed p) (list_at k (changed_at n f ls)) ++ rows_in_lists es (changed_at n f ls)) same number
              ∙ ap₂ (λ l rows. map (listed place) l ++ rows) (at_same n f ls h) (rows_other es n f ls apart);
          before = refl;
          behind = all_in_lists (λ q. is_lt (place_cmp place q)) es ls (subst (λ p. all_pass (λ q. is_lt (place_cmp p q)) (keys_of es) ≡ true) same (sorted_head e.0 (keys_of es) s));
        }
    by Greater o again =
        let found : lookup (is_key (place_cmp place)) es ≡ Some n = rw o at f in
        let other : ¬ (n ≡ e.1) = found_apart (is_key (place_cmp place)) es n e.1 found d.0 in
        let r = again found in
        let own : List Row = map (listed e.0) (list_at e.1 ls) in
        record {
          front = own ++ r.front;
          back = r.back;
          whole = ap (λ l. own ++ l) r.whole ∙ sym (append_assoc own r.front (map (listed place) (list_at n ls) ++ r.back));
          edited = λ f. ap₂ (λ l rows. map (listed e.0) l ++ rows) (at_other e.1 n f ls (λ k. other (sym k))) (r.edited f) ∙ sym (append_assoc own r.front (map (listed place) (f (list_at n ls)) ++ r.back));
          before = all_append (λ row. is_lt (place_cmp row.place place)) own r.front (all_listed (λ q. is_lt (place_cmp q place)) e.0 (list_at e.1 ls) (ap is_lt (turned e.0 place Greater o))) r.before;
          behind = r.behind;
        }

-- ## All rows

set_behind : (place : Place) (row : Row) → is_list place ≡ true → is_of_set row ≡ true → is_lt (place_cmp place row.place) ≡ true
set_behind place row h k = by place row.place h k
  where
    by : (p q : Place) → is_list p ≡ true → not (is_list q) ≡ true → is_lt (place_cmp p q) ≡ true
    by (Queue a) (Queue b) h k = cc k
    by (Queue a) (Private b) h k = cc k
    by (Queue a) (Set b) h k = refl
    by (Private a) (Queue b) h k = cc k
    by (Private a) (Private b) h k = cc k
    by (Private a) (Set b) h k = refl
    by (Set a) q h k = cc h

list_before : (set p : Place) → is_list set ≡ false → is_list p ≡ true → is_lt (place_cmp p set) ≡ true
list_before (Queue b) p k h = cc k
list_before (Private b) p k h = cc k
list_before (Set b) (Queue a) k h = refl
list_before (Set b) (Private a) k h = refl
list_before (Set b) (Set a) k h = cc h

pub parts_of_all : (place : Place) (n : ℕ) (es : List (Place × ℕ)) (ls : List (List Item)) (sets : List Row) (r : HasParts place n es ls) → is_list place ≡ true → all_pass is_of_set sets ≡ true
    → IsParted place r.front (map (listed place) (list_at n ls)) (r.back ++ sets) (rows_in_lists es ls ++ sets)
parts_of_all place n es ls sets r list s =
    let own : List Row = map (listed place) (list_at n ls) in
    record {
      whole = ap (λ l. l ++ sets) r.whole ∙ append_assoc r.front (own ++ r.back) sets ∙ ap (λ l. r.front ++ l) (append_assoc own r.back sets);
      before = r.before;
      here = all_listed (λ q. is_eq (place_cmp place q)) place (list_at n ls) (itself place_cmp place_total place);
      behind = all_append (λ row. is_lt (place_cmp place row.place)) r.back sets r.behind (all_less (λ row. is_lt (place_cmp place row.place)) is_of_set (λ row h. set_behind place row list h) sets s);
    }

module _ (es : List (Place × ℕ)) (ls : List (List Item)) (sets : List Entry) (sorted : is_sorted place_cmp (keys_of es) ≡ true) (apart : AreApart (values_of es)) (are_sets : all_pass is_of_set (as_rows sets) ≡ true) where
  -- ## A place with a deque

  module _ (place : Place) (n : ℕ) (list : is_list place ≡ true) (found : lookup (is_key (place_cmp place)) es ≡ Some n) (there : n < length ls) where
    pub list_rows : rows_at place (all_rows es ls sets) ≡ map (listed place) (list_at n ls)
    list_rows =
        let r = parts es place n ls sorted apart found there in
        parted_rows place r.front (map (listed place) (list_at n ls)) (r.back ++ as_rows sets) (all_rows es ls sets) (parts_of_all place n es ls (as_rows sets) r list are_sets)

    -- a row comes to an end of the place
    pub list_put : (end : Side) (item : Item) → all_rows es (with_item n (place_of end (list_at n ls)) item ls) sets ≡ put_row end (listed place item) (all_rows es ls sets)
    list_put Left item =
        let r = parts es place n ls sorted apart found there in
        let own : List Row = map (listed place) (list_at n ls) in
        ap (λ l. l ++ as_rows sets) (r.edited (λ l. insert l 0 item))
        ∙ append_assoc r.front (listed place item ∷ own ++ r.back) (as_rows sets)
        ∙ ap (λ l. r.front ++ (listed place item ∷ l)) (append_assoc own r.back (as_rows sets))
        ∙ sym (parted_left place r.front own (r.back ++ as_rows sets) (all_rows es ls sets) (parts_of_all place n es ls (as_rows sets) r list are_sets) (listed place item) refl list)
    list_put Right item =
        let r = parts es place n ls sorted apart found there in
        let own : List Row = map (listed place) (list_at n ls) in
        ap (λ l. l ++ as_rows sets) (r.edited (λ l. insert l (length (list_at n ls)) item))
        ∙ ap (λ l. (r.front ++ (l ++ r.back)) ++ as_rows sets) (ap (map (listed place)) (insert_end (list_at n ls) item) ∙ map-append (listed place) (list_at n ls) (item ∷ []))
        ∙ append_assoc r.front ((own ++ listed place item ∷ []) ++ r.back) (as_rows sets)
        ∙ ap (λ l. r.front ++ l) (append_assoc (own ++ listed place item ∷ []) r.back (as_rows sets) ∙ append_assoc own (listed place item ∷ []) (r.back ++ as_rows sets))
        ∙ sym (parted_right place r.front own (r.back ++ as_rows sets) (all_rows es ls sets) (parts_of_all place n es ls (as_rows sets) r list are_sets) (listed place item) refl list)

    -- a row of the place goes, from any index
    pub list_removed : (i : ℕ) → i < length (list_at n ls) → all_rows es (without_item n i ls) sets ≡ remove (all_rows es ls sets) (start_of place (all_rows es ls sets) + i)
    list_removed i h =
        let r = parts es place n ls sorted apart found there in
        let own : List Row = map (listed place) (list_at n ls) in
        let within : i < length own = (let l = length_map (list_at n ls) in omega (arith, l, h)) in
        ap (λ l. l ++ as_rows sets) (r.edited (λ l. remove l i))
        ∙ ap (λ l. (r.front ++ (l ++ r.back)) ++ as_rows sets) (map_remove (list_at n ls) i)
        ∙ append_assoc r.front (remove own i ++ r.back) (as_rows sets)
        ∙ ap (λ l. r.front ++ l) (append_assoc (remove own i) r.back (as_rows sets))
        ∙ sym (parted_remove place r.front own (r.back ++ as_rows sets) (all_rows es ls sets) (parts_of_all place n es ls (as_rows sets) r list are_sets) i within)
      where
        length_map : (items : List Item) → length (map (listed place) items) ≡ length items
        length_map [] = refl
        length_map (item ∷ items) = ap suc (length_map items)

        map_remove : (items : List Item) (k : ℕ) → map (listed place) (remove items k) ≡ remove (map (listed place) items) k
        map_remove [] zero = refl
        map_remove [] (suc k) = refl
        map_remove (item ∷ items) zero = refl
        map_remove (item ∷ items) (suc k) = ap (λ l. listed place item ∷ l) (map_remove items k)

    -- all rows of the place go
    pub list_emptied : all_rows es (emptied n ls) sets ≡ filter (λ row. not (is_at place row)) (all_rows es ls sets)
    list_emptied =
        let r = parts es place n ls sorted apart found there in
        ap (λ l. l ++ as_rows sets) (r.edited (λ l. []))
        ∙ append_assoc r.front r.back (as_rows sets)
        ∙ sym (parted_others place r.front (map (listed place) (list_at n ls)) (r.back ++ as_rows sets) (all_rows es ls sets) (parts_of_all place n es ls (as_rows sets) r list are_sets))

  -- a place without a deque has no rows
  pub list_none : (place : Place) → is_list place ≡ true → lookup (is_key (place_cmp place)) es ≡ None → rows_at place (all_rows es ls sets) ≡ []
  list_none place list none = filter_none (is_at place) (all_rows es ls sets) (all_append (λ row. not (is_at place row)) (rows_in_lists es ls) (as_rows sets) (all_in_lists (λ q. not (is_eq (place_cmp place q))) es ls (others es none)) (all_less (λ row. not (is_at place row)) is_of_set (λ row h. not_here_behind place row (set_behind place row list h)) (as_rows sets) are_sets))
    where
      others : (fs : List (Place × ℕ)) → lookup (is_key (place_cmp place)) fs ≡ None → all_pass (λ q. not (is_eq (place_cmp place q))) (keys_of fs) ≡ true
      others [] f = refl
      others (e ∷ fs) f = by (place_cmp place e.0) refl (others fs)
        where
          by : (o : Ordering) → place_cmp place e.0 ≡ o → (lookup (is_key (place_cmp place)) fs ≡ None → all_pass (λ q. not (is_eq (place_cmp place q))) (keys_of fs) ≡ true) → all_pass (λ q. not (is_eq (place_cmp place q))) (keys_of (e ∷ fs)) ≡ true
          by Less o again = let g : lookup (is_key (place_cmp place)) fs ≡ None = rw o at f in let rest = again g in grind (arith, o, rest)
          by Equal o again = absurd (let g = rw o at f in cc g)
          by Greater o again = let g : lookup (is_key (place_cmp place)) fs ≡ None = rw o at f in let rest = again g in grind (arith, o, rest)

-- ## A set

module _ (es : List (Place × ℕ)) (ls : List (List Item)) (lists : all_pass is_list (keys_of es) ≡ true) (place : Place) (set : is_list place ≡ false) where
  all_before : all_pass (λ row. is_lt (place_cmp row.place place)) (rows_in_lists es ls) ≡ true
  all_before = all_in_lists (λ q. is_lt (place_cmp q place)) es ls (all_less (λ q. is_lt (place_cmp q place)) is_list ((λ p. list_before place p set)) (keys_of es) lists)

  pub set_rows : (sets : List Entry) → rows_at place (all_rows es ls sets) ≡ rows_at place (as_rows sets)
  set_rows sets = filter_past (is_at place) (rows_in_lists es ls) (as_rows sets) (all_less (λ row. not (is_at place row)) (λ row. is_lt (place_cmp row.place place)) (not_here_before place) (rows_in_lists es ls) all_before)

  -- the rows of other places
  pub set_others : (sets : List Entry) → filter (λ row. not (is_at place row)) (all_rows es ls sets) ≡ rows_in_lists es ls ++ filter (λ row. not (is_at place row)) (as_rows sets)
  set_others sets = filter_all (λ row. not (is_at place row)) (rows_in_lists es ls) (as_rows sets) (all_less (λ row. not (is_at place row)) (λ row. is_lt (place_cmp row.place place)) (not_here_before place) (rows_in_lists es ls) all_before)

  pub set_start : (sets : List Entry) → start_of place (all_rows es ls sets) ≡ length (rows_in_lists es ls) + start_of place (as_rows sets)
  set_start sets = position_past (λ row. is_le (place_cmp place row.place)) (rows_in_lists es ls) (as_rows sets) (all_less (λ row. not (is_le (place_cmp place row.place))) (λ row. is_lt (place_cmp row.place place)) (λ row h. ap (λ o. not (is_le o)) (turned place row.place Less (less_is (place_cmp row.place place) h))) (rows_in_lists es ls) all_before)

  pub set_put : (end : Side) (new : Row) (sets : List Entry) → new.place ≡ place → put_row end new (all_rows es ls sets) ≡ rows_in_lists es ls ++ put_row end new (as_rows sets)
  set_put end new sets there = after_past (stands_before end new) new (rows_in_lists es ls) (as_rows sets) (all_less (stands_before end new) (λ row. is_lt (place_cmp row.place place)) (λ row h. stands_earlier end new row (ap (λ q. is_lt (place_cmp row.place q)) there ∙ h)) (rows_in_lists es ls) all_before)

  pub set_removed : (i : ℕ) (sets : List Entry) → remove (all_rows es ls sets) (start_of place (all_rows es ls sets) + i) ≡ rows_in_lists es ls ++ remove (as_rows sets) (start_of place (as_rows sets) + i)
  set_removed i sets =
      let e : start_of place (all_rows es ls sets) + i ≡ length (rows_in_lists es ls) + (start_of place (as_rows sets) + i) = (let s = set_start sets in omega (arith, s)) in
      ap (remove (all_rows es ls sets)) e ∙ remove_past (rows_in_lists es ls) (as_rows sets) (start_of place (as_rows sets) + i)
