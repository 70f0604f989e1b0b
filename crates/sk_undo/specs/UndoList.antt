-- The fields of a list with undo, fields as its contracts see them.
use Rattle.std.specs.Prelude.{◌-◌, min, cond, Some, None, List, length, vec_len, vec_capacity}
use Rattle.sk_undo.specs.Balance.{most}
use Rattle.sk_undo.specs.UndoView.{UndoView}
use Rattle.sk_undo.specs.Edits.{before, IsSound}
use Rattle.sk_undo.specs.declared.undo_list.UndoList.TheInside.{Inside}

module _ {K T : Type 0} where
  -- what stood at the begin of the step: the list before the edits of the log
  abbrev pub view_in : Inside K T → UndoView (List (K × T))
  view_in a = record { list = record { current = a.entries; saved = cond a.in_step (Some (before a.log.items a.entries)) None }; room = min (min (vec_len a.spares) (vec_capacity a.log - vec_len a.log)) (most - length a.entries) }

  abbrev pub is_sound : Inside K T → Type 0
  is_sound a = IsSound a.log.items a.entries a.in_step
