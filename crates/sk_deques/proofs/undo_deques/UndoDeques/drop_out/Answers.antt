use Rattle.std.proofs.Common.{rules, arith, ◌<◌, ◌≤◌, ◌++◌, ◌∷◌, [], length, subst, sym}
use Rattle.sk_deques.specs.Deque.{cut_at}
use Rattle.sk_deques.specs.DequeMoves.{changed_at, without_item, lists_of, items_at, space_at}
use Rattle.sk_deques.specs.declared.deque_edit.DequeEdit.TheVariants.{Taken}
use Rattle.sk_deques.proofs.DequeLogs.{sound_edit, before_edit, cut_fits, cut_back}
use Rattle.sk_deques.proofs.DequeViews.{length_lists, lists_cut, spaces_cut, shown_open, shown_closed}
use Rattle.sk_deques.proofs.undo_deques.UndoDeques.drop_out.Goals as goal

pub invariant_of-self : goal.invariant_of-self
invariant_of-self g c =
    let there : c.args.list < length (lists_of c.self.inside.deques.items) = subst (λ v. c.args.list < length v.lists.current) (sym c.self.view_is) c.requires.list in
    let deque : c.args.list < length c.self.inside.deques.items = omega (arith, length_lists c.self.inside.deques.items, there) in
    let bound : length (items_at c.args.list c.self.inside.deques.items) ≤ space_at c.args.list c.self.inside.deques.items = subst (λ xs. length (items_at c.args.list xs) ≤ space_at c.args.list xs) c.deref.ensures.value c.bound.ensures in
    rw (c.cut-entry.ensures.rest, c.push_edit.ensures.items) (sound_edit c.self.inside.log.items (Taken c.args.list c.args.at c.cut-entry.result) c.self.inside.deques.items (changed_at c.args.list (cut_at c.args.at) c.self.inside.deques.items) c.self.inside.in_step c.if-self.true (cut_fits c.self.inside.deques.items c.args.list c.args.at c.cut-entry.result deque c.cut-entry.ensures.item bound) (cut_back c.self.inside.deques.items c.args.list c.args.at c.cut-entry.result c.cut-entry.ensures.item) c.self.invariant)

pub returns-then-self-clause-lists : goal.returns-then-self-clause-lists
returns-then-self-clause-lists g c =
    rw (c.cut-entry.ensures.rest, c.push_edit.ensures.items, ← c.self.view_is) (shown_open c.self.inside.in_step c.self.inside.log.items (c.self.inside.log.items ++ (Taken c.args.list c.args.at c.cut-entry.result) ∷ []) c.self.inside.deques.items (changed_at c.args.list (cut_at c.args.at) c.self.inside.deques.items) (without_item c.args.list c.args.at (lists_of c.self.inside.deques.items)) (before_edit c.self.inside.log.items (Taken c.args.list c.args.at c.cut-entry.result) c.self.inside.deques.items (changed_at c.args.list (cut_at c.args.at) c.self.inside.deques.items) (cut_back c.self.inside.deques.items c.args.list c.args.at c.cut-entry.result c.cut-entry.ensures.item)) (lists_cut c.self.inside.deques.items c.args.list c.args.at))

pub returns-then-self-clause-spaces : goal.returns-then-self-clause-spaces
returns-then-self-clause-spaces g c = rw (c.cut-entry.ensures.rest, spaces_cut c.self.inside.deques.items c.args.list c.args.at, ← c.self.view_is) (search rules)

pub returns-else-self-clause-lists : goal.returns-else-self-clause-lists
returns-else-self-clause-lists g c = rw (c.cut-entry.ensures.rest, ← c.self.view_is) (shown_closed c.self.inside.in_step c.self.inside.log.items c.self.inside.deques.items (changed_at c.args.list (cut_at c.args.at) c.self.inside.deques.items) (without_item c.args.list c.args.at (lists_of c.self.inside.deques.items)) c.if-self.false (lists_cut c.self.inside.deques.items c.args.list c.args.at))

pub returns-else-self-clause-spaces : goal.returns-else-self-clause-spaces
returns-else-self-clause-spaces g c = rw (c.cut-entry.ensures.rest, spaces_cut c.self.inside.deques.items c.args.list c.args.at, ← c.self.view_is) (search rules)
