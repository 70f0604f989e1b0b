-- The fields of deques as their contracts see them.
use Rattle.std.specs.Prelude.{◌-◌, Bool, cond, List, Some, None, vec_len, vec_capacity}
use Rattle.sk_deques.specs.DequesView.{DequesView}
use Rattle.sk_deques.specs.Deque.{Deque}
use Rattle.sk_undo.specs.Versions.{Versions}
use Rattle.sk_deques.specs.DequeMoves.{lists_of, spaces_of}
use Rattle.sk_deques.specs.DequeEdits.{before, IsSound}
use Rattle.sk_deques.specs.declared.deque_edit.DequeEdit.{DequeEdit}
use Rattle.sk_deques.specs.declared.undo_deques.UndoDeques.TheInside.{Inside}

module _ {K T : Type 0} where
  -- what stood at the begin of the step: the lists before the edits of the log
  abbrev pub shown : Bool → List (DequeEdit K T) → List (Deque (K × T)) → Versions (List (List (K × T)))
  shown in_step es xs = record { current = lists_of xs; saved = cond in_step (Some (lists_of (before es xs))) None }

  abbrev pub view_in : Inside K T → DequesView (K × T)
  view_in a = record { lists = shown a.in_step a.log.items a.deques.items; spaces = spaces_of a.deques.items; room = vec_capacity a.log - vec_len a.log }

  abbrev pub is_sound : Inside K T → Type 0
  is_sound a = IsSound a.log.items a.deques.items a.in_step
