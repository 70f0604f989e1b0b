use Rattle.std.proofs.Common.{◌∙◌, ap}
use Rattle.std.specs.BTreeMap.{is_at}
use Rattle.std.specs.Map.{keys_of}
use Rattle.std.specs.Option.{is_some}
use Rattle.sk_undo.specs.Versions.{edited, map_versions}
use Rattle.sk_undo.proofs.Keys.{keys_lookup, keys_remove}
use Rattle.sk_undo.proofs.undo_set.UndoSet.take.Goals as goal

pub returns-clause-answer : goal.returns-clause-answer
returns-clause-answer g c = rw (← c.self.view_is) (c.is_some.ensures ∙ ap is_some c.take.ensures.answer ∙ keys_lookup (is_at (g.Q.Query.order c.args.query.now)) c.self.inside.keys.list.current)

pub returns-clause-list : goal.returns-clause-list
returns-clause-list g c =
    let keys = keys_remove (is_at (g.Q.Query.order c.args.query.now)) c.self.inside.keys.list.current in
    rw (c.take.ensures.list, ← c.self.view_is) (ap (λ l. edited l (map_versions keys_of c.self.inside.keys.list)) keys)
