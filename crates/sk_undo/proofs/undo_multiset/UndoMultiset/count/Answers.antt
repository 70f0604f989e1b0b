use Rattle.std.proofs.Common.{◌≡◌, ◌∙◌, false, arith, sym}
use Rattle.std.specs.BTreeMap.{is_at}
use Rattle.sk_undo.specs.Entries.{keys_in}
use Rattle.sk_undo.proofs.Copies.{any_match}
use Rattle.sk_undo.proofs.Counting.{count_between, none_counted}
use Rattle.sk_undo.proofs.undo_multiset.UndoMultiset.count.Goals as goal

pub returns-then-not-is_there-clause-is : goal.returns-then-not-is_there-clause-is
returns-then-not-is_there-clause-is g c =
    let current = c.self.inside.keys.list.current in
    let none : c.seek-first.result.1 ≡ false = grind (arith, c.if-not-is_there.true) in
    let any = any_match (g.met.Q.Query.is_query c.args.query.now) current c.self.invariant.current in
    rw (← c.self.view_is) (sym (none_counted (is_at (g.Q.Query.order c.args.query.now)) (keys_in current) (sym any ∙ sym c.seek-first.ensures.there ∙ none)))

pub returns-clause-is : goal.returns-clause-is
returns-clause-is g c =
    let count = count_between (g.met.Q.Query.is_query c.args.query.now) (keys_in c.self.inside.keys.list.current) c.self.invariant.current in
    rw (← c.self.view_is) (omega (arith, count, c.seek-first.ensures.place, c.rank_past-end.ensures.is, c.saturating_sub.ensures))
