-- The rows of all deques, one place after another: how many are private, and which identity comes next.
use Rattle.std.proofs.Common.{◌≡◌, ◌+◌, ◌<◌, ◌≤◌, ℕ, zero, suc, Bool, true, false, cond, not, List, [], ◌∷◌, ◌++◌, Option, Some, None, drop, filter, length, map, slice_get, refl, sym, arith, ap, append_assoc, subst, ◌∙◌}
use Rattle.std.proofs.lemmas.List.Sums.{count_by-le-length, sum_by-append}
use Rattle.std.specs.List.{AllByRecursion, count_by}
use Rattle.std.specs.Map.{keys_of, values_of}
use Rattle.std.specs.Option.{is_some}
use Rattle.std.specs.Ordering.{is_le}
use Rattle.sk_resp.specs.Spelling.{Bytes}
use Rattle.sk_deques.specs.DequeMoves.{list_at}
use Rattle.sk_undo.specs.Partitioned.{all_pass}
use Rattle.sk_undo.specs.Sorted.{rank}
use Rattle.sk_places.specs.declared.row_lists.RowLists.{RowLists}
use Rattle.sk_places.specs.declared.row.Place.{Place}
use Rattle.sk_places.specs.declared.row.Place.TheVariants.{Queue, Private, Set}
use Rattle.sk_places.specs.declared.row.Row.{Row}
use Rattle.sk_places.specs.Beyond.{beyond_order, le_beyond}
use Rattle.sk_places.specs.Entries.{Entry, Item, as_rows}
use Rattle.sk_places.specs.Order.{is_beyond}
use Rattle.sk_places.specs.RowLists.{AreLists, all_rows, is_list, is_of_set, listed, rows_in, rows_in_lists}
use Rattle.sk_places.specs.Rows.{first_row, ident_at, ident_of, is_past, is_private, next_ident}
use Rattle.sk_places.proofs.Lists.{place_no, place_yes}
use Rattle.sk_places.proofs.Sweeps.{drop_all}

-- ## One place

more : (at : ℕ) → suc at ≡ at + 1
more at = omega arith

here_next : (es : List (Place × ℕ)) (ls : List (List Item)) (at : ℕ) (e : Place × ℕ) → slice_get es at ≡ Some e → rows_in_lists (drop at es) ls ≡ map (listed e.0) (list_at e.1 ls) ++ rows_in_lists (drop (suc at) es) ls
here_next [] ls at e h = absurd (cc h)
here_next (x ∷ es) ls zero e h = let s : x ≡ e = cc h in ap (λ z. map (listed z.0) (list_at z.1 ls) ++ rows_in_lists es ls) s
here_next (x ∷ es) ls (suc at) e h = here_next es ls at e h

pub from_here : (es : List (Place × ℕ)) (ls : List (List Item)) (at : ℕ) (e : Place × ℕ) → slice_get es at ≡ Some e → rows_in_lists (drop at es) ls ≡ map (listed e.0) (list_at e.1 ls) ++ rows_in_lists (drop (at + 1) es) ls
from_here es ls at e h = here_next es ls at e h ∙ ap (λ k. map (listed e.0) (list_at e.1 ls) ++ rows_in_lists (drop k es) ls) (more at)

past_next : (es : List (Place × ℕ)) (ls : List (List Item)) (at : ℕ) → slice_get es at ≡ None → rows_in_lists (drop at es) ls ≡ rows_in_lists (drop (suc at) es) ls
past_next [] ls zero h = refl
past_next [] ls (suc at) h = refl
past_next (x ∷ es) ls zero h = absurd (cc h)
past_next (x ∷ es) ls (suc at) h = past_next es ls at h

pub from_past : (es : List (Place × ℕ)) (ls : List (List Item)) (at : ℕ) → slice_get es at ≡ None → rows_in_lists (drop at es) ls ≡ rows_in_lists (drop (at + 1) es) ls
from_past es ls at h = past_next es ls at h ∙ ap (λ k. rows_in_lists (drop k es) ls) (more at)

numbers_below : (es : List (Place × ℕ)) (k at : ℕ) (e : Place × ℕ) → AllByRecursion (λ n. n < k) (values_of es) → slice_get es at ≡ Some e → e.1 < k
numbers_below [] k at e d h = absurd (cc h)
numbers_below (x ∷ es) k zero e d h = let s : x ≡ e = cc h in subst (λ z. z.1 < k) s d.0
numbers_below (x ∷ es) k (suc at) e d h = numbers_below es k at e d.1 h

pub number_below : (l : RowLists) (at : ℕ) (e : Place × ℕ) → AreLists l → slice_get l.names.list.current at ≡ Some e → e.1 < length l.deques.lists.current
number_below l at e a h = numbers_below l.names.list.current (length l.deques.lists.current) at e a.named.below h

set_no_ident : (p : Place) → not (is_list p) ≡ true → ident_at p ≡ None
set_no_ident (Queue queue) h = absurd (cc h)
set_no_ident (Private ident) h = absurd (cc h)
set_no_ident (Set set) h = refl

-- ## How many are private

count_append : (t : Row → Bool) (xs ys : List Row) → count_by t (xs ++ ys) ≡ count_by t xs + count_by t ys
count_append t = sum_by-append (λ row. cond (t row) 1 0)

count_listed : (b : Bool) (p : Place) (items : List Item) → is_some (ident_at p) ≡ b → count_by is_private (map (listed p) items) ≡ cond b (length items) 0
count_listed true p [] h = refl
count_listed false p [] h = refl
count_listed true p (item ∷ items) h =
    let one : count_by is_private (listed p item ∷ []) ≡ 1 = ap (λ b. 0 + cond b 1 0) h in
    let both : count_by is_private (map (listed p) (item ∷ items)) ≡ count_by is_private (listed p item ∷ []) + count_by is_private (map (listed p) items) = count_append is_private (listed p item ∷ []) (map (listed p) items) in
    let rest : count_by is_private (map (listed p) items) ≡ length items = count_listed true p items h in
    let all : count_by is_private (map (listed p) (item ∷ items)) ≡ suc (length items) = omega (arith, one, both, rest) in
    all
count_listed false p (item ∷ items) h =
    let one : count_by is_private (listed p item ∷ []) ≡ 0 = ap (λ b. 0 + cond b 1 0) h in
    let both : count_by is_private (map (listed p) (item ∷ items)) ≡ count_by is_private (listed p item ∷ []) + count_by is_private (map (listed p) items) = count_append is_private (listed p item ∷ []) (map (listed p) items) in
    let rest : count_by is_private (map (listed p) items) ≡ 0 = count_listed false p items h in
    let all : count_by is_private (map (listed p) (item ∷ items)) ≡ 0 = omega (arith, one, both, rest) in
    all

pub count_here : (b : Bool) (es : List (Place × ℕ)) (ls : List (List Item)) (at : ℕ) (e : Place × ℕ) → slice_get es at ≡ Some e → is_some (ident_at e.0) ≡ b → cond b (length (list_at e.1 ls)) 0 + count_by is_private (rows_in_lists (drop (at + 1) es) ls) ≡ count_by is_private (rows_in_lists (drop at es) ls)
count_here b es ls at e h p =
    ap (λ n. n + count_by is_private (rows_in_lists (drop (at + 1) es) ls)) (sym (count_listed b e.0 (list_at e.1 ls) p))
    ∙ sym (count_append is_private (map (listed e.0) (list_at e.1 ls)) (rows_in_lists (drop (at + 1) es) ls))
    ∙ ap (count_by is_private) (sym (from_here es ls at e h))

count_sets : (sets : List Row) → all_pass is_of_set sets ≡ true → count_by is_private sets ≡ 0
count_sets [] h = refl
count_sets (row ∷ rows) h = let n = set_no_ident row.place (grind (arith, h)) in grind (arith, n, count_sets rows (grind (arith, h)))

pub count_all : (l : RowLists) (len count : ℕ) → AreLists l → len ≡ length l.names.list.current → count + count_by is_private (rows_in_lists (drop len l.names.list.current) l.deques.lists.current) ≡ count_by is_private (rows_in_lists l.names.list.current l.deques.lists.current) → count ≡ count_by is_private (rows_in l).current
count_all l len count a n is =
    let none = ap (λ es. count_by is_private (rows_in_lists es l.deques.lists.current)) (drop_all len l.names.list.current n) in
    let sets = count_sets (as_rows l.sets.list.current) a.sets.current in
    let both = count_append is_private (rows_in_lists l.names.list.current l.deques.lists.current) (as_rows l.sets.list.current) in
    omega (arith, none, sets, both, is)

pub count_fits : (l : RowLists) → count_by is_private (rows_in_lists l.names.list.current l.deques.lists.current) ≤ length (rows_in l).current
count_fits l =
    let both = count_append is_private (rows_in_lists l.names.list.current l.deques.lists.current) (as_rows l.sets.list.current) in
    let few = count_by-le-length is_private (rows_in l).current in
    omega (arith, both, few)

-- ## Which identity comes next

abbrev past : Option Bytes → Row → Bool
past after row = is_past after (ident_at row.place)

over_place : (after : Option Bytes) (p : Place) (items : List Item) (rows : List Row) → is_past after (ident_at p) ≡ false → next_ident after (map (listed p) items ++ rows) ≡ next_ident after rows
over_place after p [] rows h = refl
over_place after p (item ∷ items) rows h =
    let f : filter (past after) (map (listed p) (item ∷ items) ++ rows) ≡ filter (past after) (map (listed p) items ++ rows) = grind (arith, h) in
    ap (λ l. ident_of (first_row l)) f ∙ over_place after p items rows h

at_place : (after : Option Bytes) (p : Place) (items : List Item) (rows : List Row) → is_past after (ident_at p) ≡ true → 0 < length items → next_ident after (map (listed p) items ++ rows) ≡ ident_at p
at_place after p [] rows h n = absurd (omega (arith, n))
at_place after p (item ∷ items) rows h n =
    let f : filter (past after) (map (listed p) (item ∷ items) ++ rows) ≡ listed p item ∷ filter (past after) (map (listed p) items ++ rows) = grind (arith, h) in
    ap (λ l. ident_of (first_row l)) f

empty_place : (after : Option Bytes) (p : Place) (items : List Item) (rows : List Row) → length items ≡ 0 → next_ident after (map (listed p) items ++ rows) ≡ next_ident after rows
empty_place after p [] rows n = refl
empty_place after p (item ∷ items) rows n = absurd (omega (arith, n))

all_here : (l : RowLists) (at : ℕ) (e : Place × ℕ) → slice_get l.names.list.current at ≡ Some e → all_rows (drop at l.names.list.current) l.deques.lists.current l.sets.list.current ≡ map (listed e.0) (list_at e.1 l.deques.lists.current) ++ all_rows (drop (at + 1) l.names.list.current) l.deques.lists.current l.sets.list.current
all_here l at e h = ap (λ rows. rows ++ as_rows l.sets.list.current) (from_here l.names.list.current l.deques.lists.current at e h) ∙ append_assoc (map (listed e.0) (list_at e.1 l.deques.lists.current)) (rows_in_lists (drop (at + 1) l.names.list.current) l.deques.lists.current) (as_rows l.sets.list.current)

pub next_over : (after : Option Bytes) (l : RowLists) (at : ℕ) (e : Place × ℕ) → slice_get l.names.list.current at ≡ Some e → is_past after (ident_at e.0) ≡ false → next_ident after (all_rows (drop at l.names.list.current) l.deques.lists.current l.sets.list.current) ≡ next_ident after (all_rows (drop (at + 1) l.names.list.current) l.deques.lists.current l.sets.list.current)
next_over after l at e h p = ap (next_ident after) (all_here l at e h) ∙ over_place after e.0 (list_at e.1 l.deques.lists.current) (all_rows (drop (at + 1) l.names.list.current) l.deques.lists.current l.sets.list.current) p

pub next_empty : (after : Option Bytes) (l : RowLists) (at : ℕ) (e : Place × ℕ) → slice_get l.names.list.current at ≡ Some e → length (list_at e.1 l.deques.lists.current) ≡ 0 → next_ident after (all_rows (drop at l.names.list.current) l.deques.lists.current l.sets.list.current) ≡ next_ident after (all_rows (drop (at + 1) l.names.list.current) l.deques.lists.current l.sets.list.current)
next_empty after l at e h n = ap (next_ident after) (all_here l at e h) ∙ empty_place after e.0 (list_at e.1 l.deques.lists.current) (all_rows (drop (at + 1) l.names.list.current) l.deques.lists.current l.sets.list.current) n

pub next_here : (after : Option Bytes) (l : RowLists) (at : ℕ) (e : Place × ℕ) → slice_get l.names.list.current at ≡ Some e → is_past after (ident_at e.0) ≡ true → 0 < length (list_at e.1 l.deques.lists.current) → next_ident after (all_rows (drop at l.names.list.current) l.deques.lists.current l.sets.list.current) ≡ ident_at e.0
next_here after l at e h p n = ap (next_ident after) (all_here l at e h) ∙ at_place after e.0 (list_at e.1 l.deques.lists.current) (all_rows (drop (at + 1) l.names.list.current) l.deques.lists.current l.sets.list.current) p n

not_past : (after : Option Bytes) (p : Place) → is_beyond after p ≡ false → is_past after (ident_at p) ≡ false
not_past after (Queue a) h = refl
not_past None (Private a) h = h
not_past (Some after) (Private a) h = h
not_past after (Set a) h = refl

pub next_from : (after : Option Bytes) (es : List (Place × ℕ)) (ls : List (List Item)) (sets : List Entry) → next_ident after (all_rows (drop (rank (beyond_order after) (keys_of es)) es) ls sets) ≡ next_ident after (all_rows es ls sets)
next_from after [] ls sets = refl
next_from after (e ∷ es) ls sets = by (is_beyond after e.0) refl (next_from after es ls sets)
  where
    by : (b : Bool) → is_beyond after e.0 ≡ b → next_ident after (all_rows (drop (rank (beyond_order after) (keys_of es)) es) ls sets) ≡ next_ident after (all_rows es ls sets) → next_ident after (all_rows (drop (rank (beyond_order after) (keys_of (e ∷ es))) (e ∷ es)) ls sets) ≡ next_ident after (all_rows (e ∷ es) ls sets)
    by true h again = ap (λ k. next_ident after (all_rows (drop k (e ∷ es)) ls sets)) (place_yes (λ key. is_le (beyond_order after key)) e.0 (keys_of es) (le_beyond (is_beyond after e.0) ∙ h))
    by false h again =
        ap (λ k. next_ident after (all_rows (drop k (e ∷ es)) ls sets)) (place_no (λ key. is_le (beyond_order after key)) e.0 (keys_of es) (le_beyond (is_beyond after e.0) ∙ h))
        ∙ again
        ∙ sym (ap (next_ident after) (append_assoc (map (listed e.0) (list_at e.1 ls)) (rows_in_lists es ls) (as_rows sets)) ∙ over_place after e.0 (list_at e.1 ls) (all_rows es ls sets) (not_past after e.0 h))

pub next_past : (after : Option Bytes) (l : RowLists) (at : ℕ) → slice_get l.names.list.current at ≡ None → next_ident after (all_rows (drop at l.names.list.current) l.deques.lists.current l.sets.list.current) ≡ next_ident after (all_rows (drop (at + 1) l.names.list.current) l.deques.lists.current l.sets.list.current)
next_past after l at h = ap (λ rows. next_ident after (rows ++ as_rows l.sets.list.current)) (from_past l.names.list.current l.deques.lists.current at h)

next_sets : (after : Option Bytes) (sets : List Row) → all_pass is_of_set sets ≡ true → next_ident after sets ≡ None
next_sets after [] h = refl
next_sets after (row ∷ rows) h =
    let n = set_no_ident row.place (grind (arith, h)) in
    let e : past after row ≡ false = ap (is_past after) n in
    let f : filter (past after) (row ∷ rows) ≡ filter (past after) rows = grind (arith, e) in
    ap (λ l. ident_of (first_row l)) f ∙ next_sets after rows (grind (arith, h))

pub next_none : (after : Option Bytes) (l : RowLists) (len : ℕ) → AreLists l → len ≡ length l.names.list.current → next_ident after (all_rows (drop len l.names.list.current) l.deques.lists.current l.sets.list.current) ≡ None
next_none after l len a n = ap (λ es. next_ident after (all_rows es l.deques.lists.current l.sets.list.current)) (drop_all len l.names.list.current n) ∙ next_sets after (as_rows l.sets.list.current) a.sets.current
