use Rattle.std.proofs.Common.{◌∙◌, ap}
use Rattle.sk_undo.specs.Entries.{entries_in}
use Rattle.sk_undo.specs.Versions.{edited, map_versions}
use Rattle.sk_undo.proofs.Maps.{has_match, remove_none, remove_there, sorted_there}
use Rattle.sk_undo.proofs.undo_map.UndoMap.remove.Goals as goal

pub invariant_of-self : goal.invariant_of-self
invariant_of-self g c = rw (c.drop_out.ensures.list) (record {
  current = sorted_there (g.met.Q.Query.is_query c.args.query.now) c.self.inside.entries.list.current c.in-Some.at c.self.invariant.current c.in-Some.ensures.place c.in-Some.ensures.there;
  saved = c.self.invariant.saved;
})

pub returns-in-Some-clause-answer : goal.returns-in-Some-clause-answer
returns-in-Some-clause-answer g c = rw (← c.self.view_is) (c.in-Some.ensures.there ∙ has_match (g.met.Q.Query.is_query c.args.query.now) c.self.inside.entries.list.current c.self.invariant.current)

pub returns-in-Some-clause-list : goal.returns-in-Some-clause-list
returns-in-Some-clause-list g c =
    let es = remove_there (g.met.Q.Query.is_query c.args.query.now) c.self.inside.entries.list.current c.in-Some.at c.in-Some.ensures.place c.in-Some.ensures.there in
    rw (c.drop_out.ensures.list, ← c.self.view_is) (ap (λ l. edited l (map_versions entries_in c.self.inside.entries.list)) es)

pub returns-in-None-clause-answer : goal.returns-in-None-clause-answer
returns-in-None-clause-answer g c = rw (← c.self.view_is) (c.in-None.ensures.there ∙ has_match (g.met.Q.Query.is_query c.args.query.now) c.self.inside.entries.list.current c.self.invariant.current)

pub returns-in-None-clause-list : goal.returns-in-None-clause-list
returns-in-None-clause-list g c =
    let es = remove_none (g.met.Q.Query.is_query c.args.query.now) c.self.inside.entries.list.current c.self.invariant.current c.in-None.ensures.there in
    rw (← c.self.view_is) (ap (λ l. edited l (map_versions entries_in c.self.inside.entries.list)) es)
