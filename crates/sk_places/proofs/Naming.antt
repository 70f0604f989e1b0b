-- A place that gets a deque without items adds no row, and one that loses such a deque takes none away.
use Rattle.std.proofs.Common.{◌≡◌, ◌<◌, ℕ, zero, suc, Bool, true, List, [], ◌∷◌, ◌++◌, Option, Some, None, length, map, refl, sym, arith, ap, ap₂, subst, ◌∙◌}
use Rattle.std.specs.Prelude.{IfSome, option_map}
use Rattle.std.specs.List.{AllByRecursion}
use Rattle.std.specs.Option.{is_some}
use Rattle.std.specs.Map.{keys_of, values_of, lookup, remove_entry}
use Rattle.std.specs.BTreeMap.{is_at, insert_entry}
use Rattle.std.specs.declared.cmp.Ordering.{Ordering}
use Rattle.std.specs.declared.cmp.Ordering.TheVariants.{Less, Equal, Greater}
use Rattle.sk_deques.specs.DequeMoves.{list_at, with_list}
use Rattle.sk_undo.specs.Partitioned.{all_pass}
use Rattle.sk_undo.specs.Sorted.{is_sorted}
use Rattle.sk_undo.specs.Versions.{Versions, both_saved, edited}
use Rattle.sk_places.specs.declared.row_lists.RowLists.{RowLists}
use Rattle.sk_places.specs.declared.row.Place.{Place}
use Rattle.sk_places.specs.declared.row.Row.{Row}
use Rattle.sk_places.specs.Entries.{Entry, Item, as_rows}
use Rattle.sk_places.specs.RowLists.{AreApart, AreLists, AreNamed, AreSpare, IsIdle, IsSpare, IsUnused, all_rows, is_list, kept_rows, listed, rows_in, rows_in_lists}
use Rattle.sk_places.specs.PlaceOrder.{place_total}
use Rattle.sk_places.specs.Rows.{place_cmp}
use Rattle.sk_places.proofs.Holding.{list_there}
use Rattle.sk_places.proofs.Order.{itself}
use Rattle.sk_places.proofs.SpareDeques.{all_front, all_removed, all_with, apart_front, apart_removed, kinds_removed, rows_removed, spare_removed}
use Rattle.std.specs.Ordering.{is_eq}

-- ## Numbers

below_apart : (ns : List ℕ) (count : ℕ) → AllByRecursion (λ n. n < count) ns → AllByRecursion (λ m. ¬ (m ≡ count)) ns
below_apart [] count b = tt
below_apart (n ∷ ns) count b = (λ e. absurd (let h = b.0 in omega (arith, e, h)), below_apart ns count b.1)

below_more : (ns : List ℕ) (count : ℕ) → AllByRecursion (λ n. n < count) ns → AllByRecursion (λ n. n < suc count) ns
below_more [] count b = tt
below_more (n ∷ ns) count b = (let h = b.0 in omega (arith, h), below_more ns count b.1)

-- what holds of all numbers and of a new one
all_inserted : (P : ℕ → Type 0) (es : List (Place × ℕ)) (name : Place) (n : ℕ) → AllByRecursion P (values_of es) → P n → AllByRecursion P (values_of (insert_entry place_cmp es name n))
all_inserted P [] name n a h = (h, tt)
all_inserted P (e ∷ es) name n a h = by (place_cmp name e.0) refl (all_inserted P es name n a.1 h)
  where
    by : (r : Ordering) → place_cmp name e.0 ≡ r → AllByRecursion P (values_of (insert_entry place_cmp es name n)) → AllByRecursion P (values_of (insert_entry place_cmp (e ∷ es) name n))
    by Less r more = rw r (h, a)
    by Equal r more = rw r (h, a.1)
    by Greater r more = rw r (a.0, more)

apart_inserted : (es : List (Place × ℕ)) (name : Place) (n : ℕ) → AreApart (values_of es) → AllByRecursion (λ m. ¬ (m ≡ n)) (values_of es) → AreApart (values_of (insert_entry place_cmp es name n))
apart_inserted [] name n d o = (tt, tt)
apart_inserted (e ∷ es) name n d o = by (place_cmp name e.0) refl (apart_inserted es name n d.1 o.1)
  where
    by : (r : Ordering) → place_cmp name e.0 ≡ r → AreApart (values_of (insert_entry place_cmp es name n)) → AreApart (values_of (insert_entry place_cmp (e ∷ es) name n))
    by Less r more = rw r (o, d)
    by Equal r more = rw r (o.1, d.1)
    by Greater r more = rw r (all_inserted (λ m. ¬ (m ≡ e.1)) es name n d.0 (λ same. o.0 (sym same)), more)

lists_inserted : (es : List (Place × ℕ)) (name : Place) (n : ℕ) → all_pass is_list (keys_of es) ≡ true → is_list name ≡ true → all_pass is_list (keys_of (insert_entry place_cmp es name n)) ≡ true
lists_inserted [] name n a h = grind (arith, h)
lists_inserted (e ∷ es) name n a h = by (place_cmp name e.0) refl (lists_inserted es name n (grind (arith, a)) h)
  where
    by : (r : Ordering) → place_cmp name e.0 ≡ r → all_pass is_list (keys_of (insert_entry place_cmp es name n)) ≡ true → all_pass is_list (keys_of (insert_entry place_cmp (e ∷ es) name n)) ≡ true
    by Less r more = rw r (grind (arith, a, h))
    by Equal r more = rw r (grind (arith, a, h))
    by Greater r more = rw r (grind (arith, a, more))

-- ## Rows

length_last : (ls : List (List Item)) (l : List Item) → length (ls ++ l ∷ []) ≡ suc (length ls)
length_last [] l = refl
length_last (k ∷ ls) l = ap suc (length_last ls l)

at_grown : (n : ℕ) (ls : List (List Item)) → list_at n (ls ++ [] ∷ []) ≡ list_at n ls
at_grown zero [] = refl
at_grown (suc n) [] = refl
at_grown zero (l ∷ ls) = refl
at_grown (suc n) (l ∷ ls) = at_grown n ls

at_last : (ls : List (List Item)) → list_at (length ls) ls ≡ []
at_last [] = refl
at_last (l ∷ ls) = at_last ls

rows_grown : (es : List (Place × ℕ)) (ls : List (List Item)) → rows_in_lists es (ls ++ [] ∷ []) ≡ rows_in_lists es ls
rows_grown [] ls = refl
rows_grown (e ∷ es) ls = ap₂ (λ l rows. map (listed e.0) l ++ rows) (at_grown e.1 ls) (rows_grown es ls)

rows_inserted : (es : List (Place × ℕ)) (name : Place) (n : ℕ) (ls : List (List Item)) → lookup (is_at (place_cmp name)) es ≡ None → list_at n ls ≡ [] → rows_in_lists (insert_entry place_cmp es name n) ls ≡ rows_in_lists es ls
rows_inserted [] name n ls f h = ap (λ l. map (listed name) l ++ []) h
rows_inserted (e ∷ es) name n ls f h = by (place_cmp name e.0) refl (λ g. rows_inserted es name n ls g h)
  where
    by : (r : Ordering) → place_cmp name e.0 ≡ r → (lookup (is_at (place_cmp name)) es ≡ None → rows_in_lists (insert_entry place_cmp es name n) ls ≡ rows_in_lists es ls) → rows_in_lists (insert_entry place_cmp (e ∷ es) name n) ls ≡ rows_in_lists (e ∷ es) ls
    by Less r again = rw r (ap (λ l. map (listed name) l ++ rows_in_lists (e ∷ es) ls) h)
    by Equal r again = absurd (let g = rw r at f in cc g)
    by Greater r again = let g = rw r at f in rw r (ap (λ rows. map (listed e.0) (list_at e.1 ls) ++ rows) (again g))

-- the look-up of a place that was put in
pub found_inserted : (es : List (Place × ℕ)) (name : Place) (n : ℕ) → lookup (is_at (place_cmp name)) es ≡ None → place_cmp name name ≡ Equal → lookup (is_at (place_cmp name)) (insert_entry place_cmp es name n) ≡ Some n
found_inserted [] name n f i = rw i refl
found_inserted (e ∷ es) name n f i = by (place_cmp name e.0) refl (λ g. found_inserted es name n g i)
  where
    by : (r : Ordering) → place_cmp name e.0 ≡ r → (lookup (is_at (place_cmp name)) es ≡ None → lookup (is_at (place_cmp name)) (insert_entry place_cmp es name n) ≡ Some n) → lookup (is_at (place_cmp name)) (insert_entry place_cmp (e ∷ es) name n) ≡ Some n
    by Less r again = rw (r, i) refl
    by Equal r again = absurd (let g = rw r at f in cc g)
    by Greater r again = let g = rw r at f in let h = again g in rw (r, r) h

-- ## One deque more

many_grown : (s : Versions (List (List Item))) → IfSome s.saved (λ ls. length ls ≡ length s.current) → IfSome (with_list s).saved (λ ls. length ls ≡ length (with_list s).current)
many_grown s h = by s.saved h
  where
    by : (o : Option (List (List Item))) → IfSome o (λ ls. length ls ≡ length s.current) → IfSome (option_map (λ ls. ls ++ [] ∷ []) o) (λ ls. length ls ≡ length (s.current ++ [] ∷ []))
    by None h = h
    by (Some ls) h = length_last ls [] ∙ ap suc h ∙ sym (length_last s.current [])

named_grown : (names : Versions (List (Place × ℕ))) (s : Versions (List (List Item))) → AreNamed names s → AreNamed names (with_list s)
named_grown names s q = record {
  closed = q.closed;
  sorted = q.sorted;
  kinds = q.kinds;
  apart = q.apart;
  below = subst (λ k. AllByRecursion (λ m. m < k) (values_of names.current)) (sym (length_last s.current [])) (below_more (values_of names.current) (length s.current) q.below);
  as_many = many_grown s q.as_many;
}

kept_grown : (es : List (Place × ℕ)) (s : Versions (List (List Item))) (sets : Versions (List Entry)) → kept_rows es (with_list s) sets ≡ kept_rows es s sets
kept_grown es s sets = by s.saved sets.saved
  where
    same : (ls : List (List Item)) (entries : List Entry) → all_rows es (ls ++ [] ∷ []) entries ≡ all_rows es ls entries
    same ls entries = ap (λ rows. rows ++ as_rows entries) (rows_grown es ls)

    by : (o : Option (List (List Item))) (p : Option (List Entry)) → kept_rows es (with_list (record { current = s.current; saved = o })) (record { current = sets.current; saved = p }) ≡ kept_rows es (record { current = s.current; saved = o }) (record { current = sets.current; saved = p })
    by None p = ap (λ rows. record { current = rows; saved = None }) (same s.current sets.current)
    by (Some ls) None = ap (λ rows. record { current = rows; saved = None }) (same s.current sets.current)
    by (Some ls) (Some entries) = ap₂ (λ rows were. record { current = rows; saved = Some were }) (same s.current sets.current) (same ls entries)

stood_grown : (o : Option (List (List Item))) → is_some (option_map (λ ls. ls ++ [] ∷ []) o) ≡ is_some o
stood_grown None = refl
stood_grown (Some ls) = refl

idle_last : (s : Versions (List (List Item))) → IfSome s.saved (λ were. length were ≡ length s.current) → IsIdle (length s.current) (with_list s)
idle_last s many = record {
  below = (let long = length_last s.current [] in omega (arith, long));
  empty = at_grown (length s.current) s.current ∙ at_last s.current;
  was_empty = by s.saved many;
} where
  by : (o : Option (List (List Item))) → IfSome o (λ were. length were ≡ length s.current) → IfSome (option_map (λ ls. ls ++ [] ∷ []) o) (λ were. list_at (length s.current) were ≡ [])
  by None h = tt
  by (Some were) h = at_grown (length s.current) were ∙ ap (λ k. list_at k were) (sym h) ∙ at_last were

-- where none is spare
module _ (l m : RowLists) (is : m.deques.lists ≡ with_list l.deques.lists) (names : m.names.list ≡ l.names.list) (sets : m.sets.list ≡ l.sets.list) (none : m.spare.numbers.items ≡ []) (a : AreLists l) where
  pub lists_grown : AreLists m × (rows_in m ≡ rows_in l)
  lists_grown = (
    record {
      named = rw (names, is) (named_grown l.names.list l.deques.lists a.named);
      sets = rw sets a.sets;
      spare = rw none (record { apart = tt; spare = tt });
      one_step = ap (λ (s : Versions (List (List Item))). is_some s.saved) is ∙ stood_grown l.deques.lists.saved ∙ a.one_step ∙ ap (λ (s : Versions (List Entry)). is_some s.saved) (sym sets);
    },
    ap₂ (λ ns s. kept_rows ns.current s m.sets.list) names is ∙ ap (kept_rows l.names.list.current (with_list l.deques.lists)) sets ∙ kept_grown l.names.list.current l.deques.lists l.sets.list,
  )

  pub grown_unused : (n : ℕ) → n ≡ length l.deques.lists.current → IsUnused n m
  grown_unused n number = record {
    spare = rw (names, is, number) (record { nameless = below_apart (values_of l.names.list.current) (length l.deques.lists.current) a.named.below; idle = idle_last l.deques.lists a.named.as_many });
    alone = rw none tt;
  }

-- the last of those that are spare
module _ (l m : RowLists) (n : ℕ) (names : m.names.list ≡ l.names.list) (lists : m.deques.lists ≡ l.deques.lists) (sets : m.sets.list ≡ l.sets.list) (last : l.spare.numbers.items ≡ m.spare.numbers.items ++ n ∷ []) (a : AreLists l) where
  spare_all : AreSpare (m.spare.numbers.items ++ n ∷ []) l.names.list.current l.deques.lists
  spare_all = subst (λ ns. AreSpare ns l.names.list.current l.deques.lists) last a.spare

  pub lists_popped : AreLists m × (rows_in m ≡ rows_in l)
  lists_popped = (
    record {
      named = rw (names, lists) a.named;
      sets = rw sets a.sets;
      spare = rw (names, lists) (record { apart = (apart_front m.spare.numbers.items n spare_all.apart).0; spare = (all_front (IsSpare l.names.list.current l.deques.lists) m.spare.numbers.items n spare_all.spare).0 });
      one_step = rw (lists, sets) a.one_step;
    },
    ap₂ (λ ns s. kept_rows ns.current s m.sets.list) names lists ∙ ap (kept_rows l.names.list.current l.deques.lists) sets,
  )

  pub popped_unused : IsUnused n m
  popped_unused = record {
    spare = rw (names, lists) (all_front (IsSpare l.names.list.current l.deques.lists) m.spare.numbers.items n spare_all.spare).1;
    alone = (apart_front m.spare.numbers.items n spare_all.apart).1;
  }

-- ## A place gets a deque

named_more : (names : Versions (List (Place × ℕ))) (s : Versions (List (List Item))) (name : Place) (n : ℕ) → IsSpare names.current s n → is_sorted place_cmp (keys_of (insert_entry place_cmp names.current name n)) ≡ true → is_list name ≡ true → AreNamed names s → AreNamed (edited (insert_entry place_cmp names.current name n) names) s
named_more names s name n spare sorted list q = record {
  closed = q.closed;
  sorted = sorted;
  kinds = lists_inserted names.current name n q.kinds list;
  apart = apart_inserted names.current name n q.apart spare.nameless;
  below = all_inserted (λ m. m < length s.current) names.current name n q.below spare.idle.below;
  as_many = q.as_many;
}

spare_more : (numbers : List ℕ) (es : List (Place × ℕ)) (s : Versions (List (List Item))) (name : Place) (n : ℕ) → AllByRecursion (λ m. ¬ (m ≡ n)) numbers → AreSpare numbers es s → AreSpare numbers (insert_entry place_cmp es name n) s
spare_more numbers es s name n alone a = record {
  apart = a.apart;
  spare = all_with (IsSpare es s) (λ m. ¬ (m ≡ n)) (IsSpare (insert_entry place_cmp es name n) s) numbers
      (λ m h other. record { nameless = all_inserted (λ k. ¬ (k ≡ m)) es name n h.nameless (λ e. other (sym e)); idle = h.idle }) a.spare alone;
}

kept_more : (es : List (Place × ℕ)) (s : Versions (List (List Item))) (sets : Versions (List Entry)) (name : Place) (n : ℕ) → lookup (is_at (place_cmp name)) es ≡ None → IsIdle n s → kept_rows (insert_entry place_cmp es name n) s sets ≡ kept_rows es s sets
kept_more es s sets name n f idle = by s.saved sets.saved idle.was_empty
  where
    same : (ls : List (List Item)) (entries : List Entry) → list_at n ls ≡ [] → all_rows (insert_entry place_cmp es name n) ls entries ≡ all_rows es ls entries
    same ls entries h = ap (λ rows. rows ++ as_rows entries) (rows_inserted es name n ls f h)

    by : (o : Option (List (List Item))) (p : Option (List Entry)) → IfSome o (λ were. list_at n were ≡ []) → kept_rows (insert_entry place_cmp es name n) (record { current = s.current; saved = o }) (record { current = sets.current; saved = p }) ≡ kept_rows es (record { current = s.current; saved = o }) (record { current = sets.current; saved = p })
    by None p h = ap (λ rows. record { current = rows; saved = None }) (same s.current sets.current idle.empty)
    by (Some ls) None h = ap (λ rows. record { current = rows; saved = None }) (same s.current sets.current idle.empty)
    by (Some ls) (Some entries) h = ap₂ (λ rows were. record { current = rows; saved = Some were }) (same s.current sets.current idle.empty) (same ls entries h)

pub lists_more : (l m : RowLists) (place : Place) (n : ℕ) → IsUnused n l → m.names.list ≡ edited (insert_entry place_cmp l.names.list.current place n) l.names.list → is_sorted place_cmp (keys_of m.names.list.current) ≡ true → is_list place ≡ true
    → m.deques.lists ≡ l.deques.lists → m.sets.list ≡ l.sets.list → m.spare.numbers.items ≡ l.spare.numbers.items → lookup (is_at (place_cmp place)) l.names.list.current ≡ None → AreLists l
    → AreLists m × (rows_in m ≡ rows_in l)
lists_more l m place n unused names sorted list lists sets spare none a =
    let order : is_sorted place_cmp (keys_of (insert_entry place_cmp l.names.list.current place n)) ≡ true = subst (λ (u : Versions (List (Place × ℕ))). is_sorted place_cmp (keys_of u.current) ≡ true) names sorted in (
      record {
        named = rw (names, lists) (named_more l.names.list l.deques.lists place n unused.spare order list a.named);
        sets = rw sets a.sets;
        spare = rw (names, lists, spare) (spare_more l.spare.numbers.items l.names.list.current l.deques.lists place n unused.alone a.spare);
        one_step = rw (lists, sets) a.one_step;
      },
      ap₂ (λ ns s. kept_rows ns.current s m.sets.list) names lists ∙ ap (kept_rows (insert_entry place_cmp l.names.list.current place n) l.deques.lists) sets ∙ kept_more l.names.list.current l.deques.lists l.sets.list place n none unused.spare.idle,
    )

-- ## A place's deque goes

pub no_items : {A : Type 0} (xs : List A) → length xs ≡ 0 → xs ≡ []
no_items [] h = refl
no_items (x ∷ xs) h = absurd (omega (arith, h))

pub closed_lists : (l : RowLists) → AreLists l → (rows_in l).saved ≡ None → l.deques.lists.saved ≡ None
closed_lists l a none = by l.deques.lists.saved l.sets.list.saved a.one_step none
  where
    by : (o : Option (List (List Item))) (p : Option (List Entry)) → is_some o ≡ is_some p → both_saved (all_rows l.names.list.current) o p ≡ None → o ≡ None
    by None p h k = refl
    by (Some ls) None h k = absurd (cc h)
    by (Some ls) (Some es) h k = absurd (cc k)

pub lists_left : (l m : RowLists) (place : Place) (n : ℕ) → lookup (is_at (place_cmp place)) l.names.list.current ≡ Some n → list_at n l.deques.lists.current ≡ [] → l.deques.lists.saved ≡ None
    → m.names.list ≡ edited (remove_entry (is_at (place_cmp place)) l.names.list.current) l.names.list → is_sorted place_cmp (keys_of m.names.list.current) ≡ true → m.deques.lists ≡ l.deques.lists → m.sets.list ≡ l.sets.list → m.spare.numbers.items ≡ l.spare.numbers.items ++ n ∷ [] → AreLists l
    → AreLists m × (rows_in m ≡ rows_in l)
lists_left l m place n found empty closed names sorted lists sets spare a =
    let test : Place → Bool = is_at (place_cmp place) in
    let es : List (Place × ℕ) = l.names.list.current in
    let s : Versions (List (List Item)) = l.deques.lists in
    let idle : IsIdle n l.deques.lists = record { below = list_there l place n a found; empty = empty; was_empty = rw closed tt } in
    let order : is_sorted place_cmp (keys_of (remove_entry (is_at (place_cmp place)) l.names.list.current)) ≡ true = subst (λ (u : Versions (List (Place × ℕ))). is_sorted place_cmp (keys_of u.current) ≡ true) names sorted in (
      record {
        named = rw (names, lists) (record {
          closed = a.named.closed;
          sorted = order;
          kinds = kinds_removed (is_at (place_cmp place)) l.names.list.current a.named.kinds;
          apart = apart_removed (is_at (place_cmp place)) l.names.list.current a.named.apart;
          below = all_removed (is_at (place_cmp place)) (λ k. k < length l.deques.lists.current) l.names.list.current a.named.below;
          as_many = a.named.as_many;
        });
        sets = rw sets a.sets;
        spare = rw (names, lists, spare) (spare_removed (is_at (place_cmp place)) l.spare.numbers.items l.names.list.current l.deques.lists n a.named.apart found idle a.spare);
        one_step = rw (lists, sets) a.one_step;
      },
      ap₂ (λ ns s. kept_rows ns.current s m.sets.list) names lists ∙ ap (kept_rows (remove_entry (is_at (place_cmp place)) l.names.list.current) l.deques.lists) sets
          ∙ ap₂ {C = Versions (List Row)} (λ rows o. record { current = rows; saved = both_saved (all_rows (remove_entry (is_at (place_cmp place)) l.names.list.current)) o l.sets.list.saved }) (ap (λ rows. rows ++ as_rows l.sets.list.current) (rows_removed (is_at (place_cmp place)) l.names.list.current n l.deques.lists.current found empty)) closed
          ∙ ap {B = Versions (List Row)} (λ o. record { current = all_rows l.names.list.current l.deques.lists.current l.sets.list.current; saved = both_saved (all_rows l.names.list.current) o l.sets.list.saved }) (sym closed),
    )

-- a place is at itself
pub same_itself : (place : Place) → place_cmp place place ≡ Equal
same_itself place = equal_is (place_cmp place place) (itself place_cmp place_total place)
  where
    equal_is : (o : Ordering) → is_eq o ≡ true → o ≡ Equal
    equal_is Less h = cc h
    equal_is Equal h = refl
    equal_is Greater h = cc h
