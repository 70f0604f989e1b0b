use Rattle.std.proofs.Common.{rules, ◌≤◌, ◌++◌, ◌∷◌, [], length, subst, sym}
use Rattle.sk_deques.specs.DequeMoves.{moved, carried, IsMove, IsCarry, lists_of, items_at, space_at}
use Rattle.sk_deques.specs.declared.deque_edit.DequeEdit.TheVariants.{Moved}
use Rattle.sk_deques.proofs.DequeLogs.{sound_edit, before_edit}
use Rattle.sk_deques.proofs.DequeMoving.{carried_back, is_carry_back}
use Rattle.sk_deques.proofs.DequeViews.{is_carry, lists_carried, spaces_carried, shown_open, shown_closed}
use Rattle.sk_deques.proofs.undo_deques.UndoDeques.shift.Goals as goal

pub carry-old-requires : goal.carry-old-requires
carry-old-requires g c = is_carry c.self.inside.deques.items c.args.from c.args.i c.args.to c.args.j (subst (λ v. IsMove c.args.from c.args.i c.args.to c.args.j v.lists.current v.spaces) (sym c.self.view_is) c.requires.fits)

pub invariant_of-self : goal.invariant_of-self
invariant_of-self g c =
    let fits : IsCarry c.args.from c.args.i c.args.to c.args.j c.self.inside.deques.items = is_carry c.self.inside.deques.items c.args.from c.args.i c.args.to c.args.j (subst (λ v. IsMove c.args.from c.args.i c.args.to c.args.j v.lists.current v.spaces) (sym c.self.view_is) c.requires.fits) in
    let bound : length (items_at c.args.from c.self.inside.deques.items) ≤ space_at c.args.from c.self.inside.deques.items = subst (λ xs. length (items_at c.args.from xs) ≤ space_at c.args.from xs) c.deref.ensures.value c.bound.ensures in
    rw (c.carry-old.ensures.is, c.push_edit.ensures.items) (sound_edit c.self.inside.log.items (Moved c.args.from c.args.i c.args.to c.args.j c.carry-old.result) c.self.inside.deques.items (carried c.args.from c.args.i c.args.to c.args.j c.args.tag c.self.inside.deques.items) c.self.inside.in_step c.if-self.true (is_carry_back c.self.inside.deques.items c.args.from c.args.i c.args.to c.args.j c.args.tag bound fits) (carried_back c.self.inside.deques.items c.args.from c.args.i c.args.to c.args.j c.args.tag c.carry-old.result c.carry-old.ensures.tag fits) c.self.invariant)

pub returns-then-self-clause-lists : goal.returns-then-self-clause-lists
returns-then-self-clause-lists g c =
    let fits : IsCarry c.args.from c.args.i c.args.to c.args.j c.self.inside.deques.items = is_carry c.self.inside.deques.items c.args.from c.args.i c.args.to c.args.j (subst (λ v. IsMove c.args.from c.args.i c.args.to c.args.j v.lists.current v.spaces) (sym c.self.view_is) c.requires.fits) in
    rw (c.carry-old.ensures.is, c.push_edit.ensures.items, ← c.self.view_is) (shown_open c.self.inside.in_step c.self.inside.log.items (c.self.inside.log.items ++ (Moved c.args.from c.args.i c.args.to c.args.j c.carry-old.result) ∷ []) c.self.inside.deques.items (carried c.args.from c.args.i c.args.to c.args.j c.args.tag c.self.inside.deques.items) (moved c.args.from c.args.i c.args.to c.args.j c.args.tag (lists_of c.self.inside.deques.items)) (before_edit c.self.inside.log.items (Moved c.args.from c.args.i c.args.to c.args.j c.carry-old.result) c.self.inside.deques.items (carried c.args.from c.args.i c.args.to c.args.j c.args.tag c.self.inside.deques.items) (carried_back c.self.inside.deques.items c.args.from c.args.i c.args.to c.args.j c.args.tag c.carry-old.result c.carry-old.ensures.tag fits)) (lists_carried c.self.inside.deques.items c.args.from c.args.i c.args.to c.args.j c.args.tag))

pub returns-then-self-clause-spaces : goal.returns-then-self-clause-spaces
returns-then-self-clause-spaces g c = rw (c.carry-old.ensures.is, spaces_carried c.self.inside.deques.items c.args.from c.args.i c.args.to c.args.j c.args.tag, ← c.self.view_is) (search rules)

pub returns-else-self-clause-lists : goal.returns-else-self-clause-lists
returns-else-self-clause-lists g c = rw (c.carry-old.ensures.is, ← c.self.view_is) (shown_closed c.self.inside.in_step c.self.inside.log.items c.self.inside.deques.items (carried c.args.from c.args.i c.args.to c.args.j c.args.tag c.self.inside.deques.items) (moved c.args.from c.args.i c.args.to c.args.j c.args.tag (lists_of c.self.inside.deques.items)) c.if-self.false (lists_carried c.self.inside.deques.items c.args.from c.args.i c.args.to c.args.j c.args.tag))

pub returns-else-self-clause-spaces : goal.returns-else-self-clause-spaces
returns-else-self-clause-spaces g c = rw (c.carry-old.ensures.is, spaces_carried c.self.inside.deques.items c.args.from c.args.i c.args.to c.args.j c.args.tag, ← c.self.view_is) (search rules)
