use Rattle.std.proofs.Common.{◌≤◌, length, subst, sym, rules}
use Rattle.sk_undo.proofs.Edits.{sound_put, put_before}
use Rattle.sk_undo.proofs.undo_list.UndoList.insert.Goals as goal

pub invariant_of-self : goal.invariant_of-self
invariant_of-self g c =
    let h : c.args.at ≤ length c.self.inside.entries = subst (λ v. c.args.at ≤ length v.list.current) (sym c.self.view_is) c.requires.within in
    rw (c.insert.ensures.is, c.push_edit.ensures.items) (sound_put _ _ _ _ _ c.if-self.true h c.self.invariant)

pub returns-then-self-clause-list : goal.returns-then-self-clause-list
returns-then-self-clause-list g c =
    let h : c.args.at ≤ length c.self.inside.entries = subst (λ v. c.args.at ≤ length v.list.current) (sym c.self.view_is) c.requires.within in
    let e = put_before c.self.inside.log.items c.self.inside.entries c.args.at c.args.entry h in
    rw (c.insert.ensures.is, c.push_edit.ensures.items, e, ← c.self.view_is) (search rules)
