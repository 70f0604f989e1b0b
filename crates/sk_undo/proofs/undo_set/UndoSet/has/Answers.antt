use Rattle.std.proofs.Common.{◌∙◌}
use Rattle.std.specs.BTreeMap.{is_at}
use Rattle.sk_undo.proofs.Keys.{keys_lookup}
use Rattle.sk_undo.proofs.undo_set.UndoSet.has.Goals as goal

pub returns : goal.returns
returns g c = rw (← c.self.view_is) (c.has.ensures ∙ keys_lookup (is_at (g.Q.Query.order c.args.query.now)) c.self.inside.keys.list.current)
