-- What the fields of a list of batches stand for.
use Rattle.std.specs.Prelude.{◌≡◌, min, List}
use Rattle.sk_undo.specs.UndoView.{UndoView}
use Rattle.sk_undo.specs.Versions.{BothPass, map_versions}
use Rattle.sk_batch.specs.Places.{each_once, index_of}
use Rattle.sk_batch.specs.declared.batch.Batch.{Batch}
use Rattle.sk_batch.specs.declared.batch_list.BatchList.TheInside.{Inside}
use Rattle.sk_batch.specs.declared.state.State.{State}

abbrev pub list_in : Inside → UndoView (List (State × Batch))
list_in a = record { list = a.entries.list; room = min a.entries.room a.older.room }

-- each bid stands once, and the index tells of just these batches; so it was at the begin of the step
abbrev pub is_indexed : Inside → Type 0
is_indexed a = (a.older.list ≡ map_versions index_of a.entries.list) × BothPass each_once a.entries.list
