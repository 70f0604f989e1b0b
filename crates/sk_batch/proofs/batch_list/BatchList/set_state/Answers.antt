use Rattle.std.proofs.Common.{◌<◌, List, length, subst, sym}
use Rattle.sk_undo.specs.UndoView.{UndoView}
use Rattle.sk_batch.specs.States.{StateEntry}
use Rattle.sk_batch.proofs.Listed.{listed_moved}
use Rattle.sk_batch.proofs.batch_list.BatchList.set_state.Goals as goal

pub invariant_of-self : goal.invariant_of-self
invariant_of-self c =
    let within = subst (λ (k : UndoView (List StateEntry)). c.args.at < length k.list.current) (sym c.self.view_is) c.requires.within in
    listed_moved c.self.inside.entries.list c.shift.new.self.list c.self.inside.older.list c.args.at c.args.state c.self.invariant within c.shift.ensures.list
