use Rattle.std.proofs.Common.{rules}
use Rattle.sk_undo.proofs.Edits.{sound_moved, moved_before}
use Rattle.sk_undo.proofs.undo_list.UndoList.shift.Goals as goal

pub invariant_of-self : goal.invariant_of-self
invariant_of-self g c = rw (c.shift-old.ensures.is, c.push_edit.ensures.items) (sound_moved _ _ _ _ _ _ _ c.if-self.true (search rules) (search rules) c.shift-old.ensures.tag c.self.invariant)

pub returns-then-self-clause-list : goal.returns-then-self-clause-list
returns-then-self-clause-list g c = let e = moved_before c.self.inside.log.items c.self.inside.entries c.args.from c.args.to c.args.tag c.shift-old.result (search rules) (search rules) c.shift-old.ensures.tag in rw (c.shift-old.ensures.is, c.push_edit.ensures.items, e, ← c.self.view_is) (search rules)
