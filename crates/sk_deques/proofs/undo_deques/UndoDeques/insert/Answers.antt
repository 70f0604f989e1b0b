use Rattle.std.proofs.Common.{rules, arith, ◌<◌, ◌≤◌, ◌++◌, ◌∷◌, [], length, subst, sym}
use Rattle.sk_deques.specs.Deque.{put_at}
use Rattle.sk_deques.specs.DequeMoves.{changed_at, with_item, lists_of, items_at, list_at}
use Rattle.sk_deques.specs.declared.deque_edit.DequeEdit.TheVariants.{Put}
use Rattle.sk_deques.proofs.DequeLogs.{sound_edit, before_edit, put_fits, put_back}
use Rattle.sk_deques.proofs.DequeViews.{length_lists, lists_put, spaces_put, shown_open, shown_closed}
use Rattle.sk_deques.proofs.undo_deques.UndoDeques.insert.Goals as goal

pub invariant_of-self : goal.invariant_of-self
invariant_of-self g c =
    let there : c.args.list < length (lists_of c.self.inside.deques.items) = subst (λ v. c.args.list < length v.lists.current) (sym c.self.view_is) c.requires.list in
    let within : c.args.at ≤ length (items_at c.args.list c.self.inside.deques.items) = subst (λ v. c.args.at ≤ length (list_at c.args.list v.lists.current)) (sym c.self.view_is) c.requires.within in
    let deque : c.args.list < length c.self.inside.deques.items = omega (arith, length_lists c.self.inside.deques.items, there) in
    rw (c.put.ensures, c.push_edit.ensures.items) (sound_edit c.self.inside.log.items (Put c.args.list c.args.at) c.self.inside.deques.items (changed_at c.args.list (put_at c.args.at c.args.entry) c.self.inside.deques.items) c.self.inside.in_step c.if-self.true (put_fits c.self.inside.deques.items c.args.list c.args.at c.args.entry deque within) (put_back c.self.inside.deques.items c.args.list c.args.at c.args.entry within) c.self.invariant)

pub returns-then-self-clause-lists : goal.returns-then-self-clause-lists
returns-then-self-clause-lists g c =
    let there : c.args.list < length (lists_of c.self.inside.deques.items) = subst (λ v. c.args.list < length v.lists.current) (sym c.self.view_is) c.requires.list in
    let within : c.args.at ≤ length (items_at c.args.list c.self.inside.deques.items) = subst (λ v. c.args.at ≤ length (list_at c.args.list v.lists.current)) (sym c.self.view_is) c.requires.within in
    rw (c.put.ensures, c.push_edit.ensures.items, ← c.self.view_is) (shown_open c.self.inside.in_step c.self.inside.log.items (c.self.inside.log.items ++ Put c.args.list c.args.at ∷ []) c.self.inside.deques.items (changed_at c.args.list (put_at c.args.at c.args.entry) c.self.inside.deques.items) (with_item c.args.list c.args.at c.args.entry (lists_of c.self.inside.deques.items)) (before_edit c.self.inside.log.items (Put c.args.list c.args.at) c.self.inside.deques.items (changed_at c.args.list (put_at c.args.at c.args.entry) c.self.inside.deques.items) (put_back c.self.inside.deques.items c.args.list c.args.at c.args.entry within)) (lists_put c.self.inside.deques.items c.args.list c.args.at c.args.entry))

pub returns-then-self-clause-spaces : goal.returns-then-self-clause-spaces
returns-then-self-clause-spaces g c = rw (c.put.ensures, spaces_put c.self.inside.deques.items c.args.list c.args.at c.args.entry, ← c.self.view_is) (search rules)

pub returns-else-self-clause-lists : goal.returns-else-self-clause-lists
returns-else-self-clause-lists g c = rw (c.put.ensures, ← c.self.view_is) (shown_closed c.self.inside.in_step c.self.inside.log.items c.self.inside.deques.items (changed_at c.args.list (put_at c.args.at c.args.entry) c.self.inside.deques.items) (with_item c.args.list c.args.at c.args.entry (lists_of c.self.inside.deques.items)) c.if-self.false (lists_put c.self.inside.deques.items c.args.list c.args.at c.args.entry))

pub returns-else-self-clause-spaces : goal.returns-else-self-clause-spaces
returns-else-self-clause-spaces g c = rw (c.put.ensures, spaces_put c.self.inside.deques.items c.args.list c.args.at c.args.entry, ← c.self.view_is) (search rules)
