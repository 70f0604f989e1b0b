-- A set's fields as its contracts see them.
use Rattle.std.specs.Prelude.{List}
use Rattle.std.specs.Map.{keys_of}
use Rattle.sk_undo.specs.UndoView.{UndoView}
use Rattle.sk_undo.specs.Versions.{map_versions}

abbrev pub set_in : {K : Type 0} → UndoView (List (K × Unit {0})) → UndoView (List K)
set_in kept = record { list = map_versions keys_of kept.list; room = kept.room }
