-- The rows as the code keeps them, and the one list that they are. A queue and a private list is a deque under its place, which stands once; the sets
-- of jobs stand in one list by score and text.
use Rattle.std.specs.Prelude.{◌≡◌, ◌+◌, ◌<◌, ◌≤◌, ℕ, suc, Bool, true, false, not, List, [], ◌∷◌, ◌++◌, Option, Some, None, IfSome, MatchOption, drop, length, map, slice_get, slice_index_or, take}
use Rattle.std.specs.BTreeMap.{is_at}
use Rattle.std.specs.List.{AllByRecursion, count_by, position_or_len}
use Rattle.std.specs.Map.{keys_of, values_of, lookup}
use Rattle.std.specs.Option.{is_some}
use Rattle.std.specs.Ordering.{is_le}
use Rattle.sk_resp.specs.Spelling.{Bytes}
use Rattle.sk_deques.specs.DequeMoves.{list_at}
use Rattle.sk_undo.specs.Partitioned.{all_pass}
use Rattle.sk_undo.specs.Sorted.{is_sorted}
use Rattle.sk_undo.specs.Versions.{Versions, both}
use Rattle.sk_cmd.specs.declared.argument.Side.{Side}
use Rattle.sk_cmd.specs.declared.argument.Side.TheVariants.{Left, Right}
use Rattle.sk_places.specs.declared.row_lists.RowLists.{RowLists}
use Rattle.sk_places.specs.declared.row.Place.{Place}
use Rattle.sk_places.specs.declared.row.Place.TheVariants.{Queue, Private, Set}
use Rattle.sk_places.specs.declared.row.Row.{Row}
use Rattle.sk_places.specs.declared.row.RowKey.{RowKey}
use Rattle.sk_places.specs.Entries.{Entry, Item, as_rows, shifted}
use Rattle.sk_places.specs.Rows.{is_private, next_ident, place_cmp}

-- the row that an item of a place's deque is
abbrev pub listed : Place → Item → Row
listed place item = record { place = place; score = item.0; text = item.1 }

-- a queue or a private list
abbrev pub is_list : Place → Bool
is_list (Queue queue) = true
is_list (Private ident) = true
is_list (Set set) = false

-- the rows of all deques, each under its place
abbrev pub rows_in_lists : List (Place × ℕ) → List (List Item) → List Row
rows_in_lists [] ls = []
rows_in_lists (e ∷ es) ls = map (listed e.0) (list_at e.1 ls) ++ rows_in_lists es ls

-- all rows
abbrev pub all_rows : List (Place × ℕ) → List (List Item) → List Entry → List Row
all_rows es ls sets = rows_in_lists es ls ++ as_rows sets

abbrev pub kept_rows : List (Place × ℕ) → Versions (List (List Item)) → Versions (List Entry) → Versions (List Row)
kept_rows es lists sets = both (all_rows es) lists sets

abbrev pub rows_in : RowLists → Versions (List Row)
rows_in l = kept_rows l.names.list.current l.deques.lists l.sets.list

-- how many rows private lists have, from this index on among the places that have a deque
abbrev pub private_from : ℕ → RowLists → ℕ
private_from at l = count_by is_private (rows_in_lists (drop at l.names.list.current) l.deques.lists.current)

-- the first identity behind this one that has a private list with a row, from this index on
abbrev pub ident_from : Option Bytes → ℕ → RowLists → Option Bytes
ident_from after at l = next_ident after (all_rows (drop at l.names.list.current) l.deques.lists.current l.sets.list.current)

-- it is the one at this index, or None where that is to be found behind this index
abbrev pub IsIdentFrom : Option Bytes → ℕ → RowLists → Option Bytes → Type 0
IsIdentFrom after at l found =
    MatchOption found (ident_from after at l ≡ ident_from after (at + 1) l) (λ ident. ident_from after at l ≡ Some ident)

-- the index among all rows at which a place's rows begin, or would
abbrev pub start_of : Place → List Row → ℕ
start_of place rows = position_or_len (λ row. is_le (place_cmp place row.place)) rows

-- a place's row at an index
abbrev pub row_at_index : Place → ℕ → List Row → Option Row
row_at_index place at rows = slice_get rows (start_of place rows + at)

-- a place's row at an index comes to an end of another place, or of the same
abbrev pub shifted_from : Place → ℕ → Side → RowKey → List Row → List Row
shifted_from place at end row_key rows = shifted end (start_of place rows + at) row_key rows

-- a place's rows from an index on to the one before another
abbrev pub part_of : Place → ℕ → ℕ → List Row → List Row
part_of place first end rows = drop (start_of place rows + first) (take (start_of place rows + end) rows)

-- the rows without those
abbrev pub without_part : Place → ℕ → ℕ → List Row → List Row
without_part place first end rows = take (start_of place rows + first) rows ++ drop (start_of place rows + end) rows

-- no two are the same
abbrev pub AreApart : List ℕ → Type 0
AreApart [] = Unit {0}
AreApart (n ∷ ns) = AllByRecursion (λ m. ¬ (m ≡ n)) ns × AreApart ns

-- the row is of a set
abbrev pub is_of_set : Row → Bool
is_of_set row = not (is_list row.place)

-- Each place has a deque of its own. There were as many deques as there are, and a step is open over all or over none.
pub record AreNamed (names : Versions (List (Place × ℕ))) (lists : Versions (List (List Item))) : Type 0 where
  pub closed : names.saved ≡ None
  pub sorted : is_sorted place_cmp (keys_of names.current) ≡ true
  pub kinds : all_pass is_list (keys_of names.current) ≡ true
  pub apart : AreApart (values_of names.current)
  pub below : AllByRecursion (λ n. n < length lists.current) (values_of names.current)
  pub as_many : IfSome lists.saved (λ were. length were ≡ length lists.current)

-- The deque has no items, and had none at the begin of an open step.
pub record IsIdle (number : ℕ) (lists : Versions (List (List Item))) : Type 0 where
  pub below : number < length lists.current
  pub empty : list_at number lists.current ≡ []
  pub was_empty : IfSome lists.saved (λ were. list_at number were ≡ [])

-- no place has the deque
abbrev pub IsNameless : ℕ → List (Place × ℕ) → Type 0
IsNameless number names = AllByRecursion (λ n. ¬ (n ≡ number)) (values_of names)

pub record IsSpare (names : List (Place × ℕ)) (lists : Versions (List (List Item))) (number : ℕ) : Type 0 where
  pub nameless : IsNameless number names
  pub idle : IsIdle number lists

pub record AreSpare (numbers : List ℕ) (names : List (Place × ℕ)) (lists : Versions (List (List Item))) : Type 0 where
  pub apart : AreApart numbers
  pub spare : AllByRecursion (IsSpare names lists) numbers

pub record AreSets (sets : Versions (List Entry)) : Type 0 where
  pub current : all_pass is_of_set (as_rows sets.current) ≡ true
  pub saved : IfSome sets.saved (λ es. all_pass is_of_set (as_rows es) ≡ true)

pub record AreLists (l : RowLists) : Type 0 where
  pub named : AreNamed l.names.list l.deques.lists
  pub sets : AreSets l.sets.list
  pub spare : AreSpare l.spare.numbers.items l.names.list.current l.deques.lists
  pub one_step : is_some l.deques.lists.saved ≡ is_some l.sets.list.saved

-- a spare deque that isn't kept as one
pub record IsUnused (number : ℕ) (l : RowLists) : Type 0 where
  pub spare : IsSpare l.names.list.current l.deques.lists number
  pub alone : AllByRecursion (λ n. ¬ (n ≡ number)) l.spare.numbers.items

-- the place's deque has memory for so many further items
pub record HasSpace (count : ℕ) (place : Place) (es : List (Place × ℕ)) (ls : List (List Item)) (spaces : List ℕ) : Type 0 where
  pub number : ℕ
  pub found : lookup (is_at (place_cmp place)) es ≡ Some number
  pub within : length (list_at number ls) + count ≤ slice_index_or spaces number 0

-- where in a deque an item comes to
abbrev pub place_of : {X : Type 0} → Side → List X → ℕ
place_of Left l = 0
place_of Right l = length l

-- Further rows can come to the place, and further edits be made, without memory: so many.
pub record IsReady (count : ℕ) (place : Place) (l : RowLists) : Type 0 where
  pub edits : count ≤ l.deques.room
  pub sets : count ≤ l.sets.room
  pub space : is_list place ≡ true → HasSpace count place l.names.list.current l.deques.lists.current l.deques.spaces

-- what was ready for one edit more is ready after one
pub record IsOneLess (l m : RowLists) : Type 0 where
  pub ready : (count : ℕ) (place : Place) → IsReady (suc count) place l → IsReady count place m
