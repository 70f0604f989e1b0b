use Rattle.std.proofs.Common.{rules, ◌≡◌, ◌<◌, [], arith, false, length, subst, sym}
use Rattle.sk_deques.specs.DequeMoves.{items_at, list_at, lists_of}
use Rattle.sk_deques.proofs.DequeViews.{length_lists, lists_same, shown_closed}
use Rattle.sk_deques.proofs.undo_deques.UndoDeques.give_back.Goals as goal

pub returns : goal.returns
returns g c =
    let closed : c.self.inside.in_step ≡ false = search rules in
    let there : c.args.list < length (lists_of c.self.inside.deques.items) = subst (λ v. c.args.list < length v.lists.current) (sym c.self.view_is) c.requires.list in
    let deque : c.args.list < length c.self.inside.deques.items = omega (arith, length_lists c.self.inside.deques.items, there) in
    let empty : items_at c.args.list c.self.inside.deques.items ≡ [] = subst (λ v. list_at c.args.list v.lists.current ≡ []) (sym c.self.view_is) c.requires.empty in
    rw (← c.self.view_is) (shown_closed c.self.inside.in_step c.self.inside.log.items c.self.inside.deques.items _ (lists_of c.self.inside.deques.items) closed (lists_same c.self.inside.deques.items c.args.list c.new.result deque empty c.new.ensures))
