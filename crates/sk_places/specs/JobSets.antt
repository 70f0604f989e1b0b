-- The rows of the sets of jobs, each set in a list of its own by score and text, as one list of entries.
use Rattle.std.specs.Prelude.{◌≡◌, ◌++◌, ℕ, Bool, List, filter, map, min, not}
use Rattle.std.specs.List.{position_or_len}
use Rattle.std.specs.Option.{is_some}
use Rattle.std.specs.Ordering.{is_eq, is_le, is_lt}
use Rattle.sk_cmd.specs.declared.argument.Scored.{Scored}
use Rattle.sk_cmd.specs.declared.argument.Scored.TheVariants.{Schedule, Retry, Dead}
use Rattle.sk_cmd.specs.declared.argument.Side.{Side}
use Rattle.sk_cmd.specs.declared.argument.Side.TheVariants.{Left, Right}
use Rattle.sk_undo.specs.UndoView.{UndoView}
use Rattle.sk_undo.specs.Versions.{Versions, both}
use Rattle.sk_zset.specs.Pair.{pair_cmp}
use Rattle.sk_places.specs.declared.row.Place.TheVariants.{Set}
use Rattle.sk_places.specs.Entries.{Entry, Item}
use Rattle.sk_places.specs.Rows.{place_cmp}

-- the entry that an item of a set's list is
abbrev pub entry_in : Scored → Item → Entry
entry_in set item = (record { place = Set set; score = item.0 }, item.1)

-- all entries, in the order of the sets
abbrev pub all_entries : List Item → List Item → List Item → List Entry
all_entries schedule retry dead = map (entry_in Schedule) schedule ++ (map (entry_in Retry) retry ++ map (entry_in Dead) dead)

abbrev pub sets_view : UndoView (List Item) → UndoView (List Item) → UndoView (List Item) → UndoView (List Entry)
sets_view schedule retry dead = record {
  list = both (λ entries items. entries items) (both all_entries schedule.list retry.list) dead.list;
  room = min schedule.room (min retry.room dead.room);
}

-- one step is open over all three, or none
pub record AreInStep (schedule retry dead : Versions (List Item)) : Type 0 where
  pub retried : is_some schedule.saved ≡ is_some retry.saved
  pub died : is_some schedule.saved ≡ is_some dead.saved

-- the items of one set
abbrev pub items_of : Scored → List Entry → List Item
items_of set entries = map (λ e. (e.0.score, e.1)) (filter (λ e. is_eq (place_cmp (Set set) e.0.place)) entries)

-- the entries of the others
abbrev pub others_of : Scored → List Entry → List Entry
others_of set entries = filter (λ e. not (is_eq (place_cmp (Set set) e.0.place))) entries

-- where a set's entries begin
abbrev pub begin_of : Scored → List Entry → ℕ
begin_of set entries = position_or_len (λ e. is_le (place_cmp (Set set) e.0.place)) entries

-- An item of a set stands before a new one, which comes to this end of those that are equal to it.
abbrev pub comes_before : Side → Item → Item → Bool
comes_before Left new item = is_lt (pair_cmp item new)
comes_before Right new item = is_le (pair_cmp item new)
