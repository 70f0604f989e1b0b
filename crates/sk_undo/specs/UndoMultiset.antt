-- A multiset's fields as its contracts see them.
use Rattle.std.specs.Prelude.{List}
use Rattle.sk_undo.specs.Entries.{keys_in}
use Rattle.sk_undo.specs.UndoView.{UndoView}
use Rattle.sk_undo.specs.Versions.{map_versions}

abbrev pub multiset_in : {K : Type 0} → UndoView (List (Unit {0} × K)) → UndoView (List K)
multiset_in kept = record { list = map_versions keys_in kept.list; room = kept.room }
