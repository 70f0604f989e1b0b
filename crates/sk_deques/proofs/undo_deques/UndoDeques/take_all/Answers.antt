use Rattle.std.proofs.Common.{rules, ◌≡◌, false}
use Rattle.sk_deques.specs.DequeMoves.{emptied, lists_of}
use Rattle.sk_deques.proofs.DequeViews.{lists_emptied, shown_closed}
use Rattle.sk_deques.proofs.undo_deques.UndoDeques.take_all.Goals as goal

pub returns-clause-rest : goal.returns-clause-rest
returns-clause-rest g c =
    let closed : c.self.inside.in_step ≡ false = search rules in
    let none = c.new-none.ensures in
    rw (← c.self.view_is) (shown_closed c.self.inside.in_step c.self.inside.log.items c.self.inside.deques.items _ (emptied c.args.list (lists_of c.self.inside.deques.items)) closed (lists_emptied c.self.inside.deques.items c.args.list c.replace.new.dest (search rules)))
