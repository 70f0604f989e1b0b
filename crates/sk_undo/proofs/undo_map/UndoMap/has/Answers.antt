use Rattle.std.proofs.Common.{◌∙◌}
use Rattle.sk_undo.proofs.Maps.{has_match}
use Rattle.sk_undo.proofs.undo_map.UndoMap.has.Goals as goal

pub returns : goal.returns
returns g c = rw (← c.self.view_is) (c.is_some.ensures ∙ c.find.ensures.there ∙ has_match (g.met.Q.Query.is_query c.args.query.now) c.self.inside.entries.list.current c.self.invariant.current)
