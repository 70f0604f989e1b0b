use Rattle.sk_undo.proofs.Maps.{get_none, get_there}
use Rattle.sk_undo.proofs.undo_map.UndoMap.get.Goals as goal

pub returns-in-Some : goal.returns-in-Some
returns-in-Some g c = rw (← c.self.view_is) (get_there (g.met.Q.Query.is_query c.args.query.now) c.self.inside.entries.list.current c.in-Some.at c.get.result.now c.in-Some.ensures.place c.get.ensures c.in-Some.ensures.there)

pub returns-in-None : goal.returns-in-None
returns-in-None g c = rw (← c.self.view_is) (get_none (g.met.Q.Query.is_query c.args.query.now) c.self.inside.entries.list.current c.self.invariant.current c.in-None.ensures.there)
