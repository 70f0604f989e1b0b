use Rattle.std.proofs.Common.{rules}
use Rattle.sk_undo.proofs.Edits.{sound_taken, taken_before}
use Rattle.sk_undo.proofs.undo_list.UndoList.drop_out.Goals as goal

pub invariant_of-self : goal.invariant_of-self
invariant_of-self g c = rw (c.remove-entry.ensures.rest, c.push_edit.ensures.items) (sound_taken _ _ _ _ _ _ c.if-self.true (search rules) c.remove-entry.ensures.item (search rules) c.self.invariant)

pub returns-then-self-clause-list : goal.returns-then-self-clause-list
returns-then-self-clause-list g c = let e = taken_before c.self.inside.log.items c.self.inside.entries c.args.at c.remove-entry.result.0 c.remove-entry.result.1 (search rules) c.remove-entry.ensures.item in rw (c.remove-entry.ensures.rest, c.push_edit.ensures.items, e, ← c.self.view_is) (search rules)
