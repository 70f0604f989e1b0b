-- A map's fields as its contracts see them.
use Rattle.std.specs.Prelude.{List}
use Rattle.std.specs.Map.{keys_of}
use Rattle.std.specs.declared.cmp.Ordering.{Ordering}
use Rattle.sk_undo.specs.Entries.{entries_in}
use Rattle.sk_undo.specs.UndoView.{UndoView}
use Rattle.sk_undo.specs.Sorted.{is_sorted}
use Rattle.sk_undo.specs.Versions.{Versions, BothPass, map_versions}

module _ {K V : Type 0} where
  abbrev pub map_in : UndoView (List (V × K)) → UndoView (List (K × V))
  map_in kept = record { list = map_versions entries_in kept.list; room = kept.room }

  -- what stands and what stood are in the order of their keys, each key once
  abbrev pub AreSorted : (K → K → Ordering) → Versions (List (K × V)) → Type 0
  AreSorted cmp s = BothPass (λ entries. is_sorted cmp (keys_of entries)) s
