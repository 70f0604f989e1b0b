use Rattle.std.proofs.Common.{◌∙◌, ap}
use Rattle.std.specs.BTreeMap.{is_at}
use Rattle.sk_undo.specs.Entries.{keys_in}
use Rattle.sk_undo.specs.Sorted.{is_ordered}
use Rattle.sk_undo.specs.Versions.{edited, map_versions}
use Rattle.sk_undo.proofs.Copies.{any_match, match_gone, no_match, ordered_gone}
use Rattle.sk_undo.proofs.undo_multiset.UndoMultiset.remove.Goals as goal

pub invariant_of-self : goal.invariant_of-self
invariant_of-self g c =
    let current = c.self.inside.keys.list.current in
    let gone = match_gone (g.met.Q.Query.is_query c.args.query.now) current c.in-Some.at c.in-Some.ensures.place c.in-Some.ensures.there in
    rw (c.drop_out.ensures.list) (record {
      current = ap (is_ordered g.K.Ord.cmp) gone ∙ ordered_gone g.K.Ord.cmp (is_at (g.Q.Query.order c.args.query.now)) (keys_in current) c.self.invariant.current;
      saved = c.self.invariant.saved;
    })

pub returns-in-Some-clause-answer : goal.returns-in-Some-clause-answer
returns-in-Some-clause-answer g c = rw (← c.self.view_is) (c.in-Some.ensures.there ∙ any_match (g.met.Q.Query.is_query c.args.query.now) c.self.inside.keys.list.current c.self.invariant.current)

pub returns-in-Some-clause-list : goal.returns-in-Some-clause-list
returns-in-Some-clause-list g c =
    let gone = match_gone (g.met.Q.Query.is_query c.args.query.now) c.self.inside.keys.list.current c.in-Some.at c.in-Some.ensures.place c.in-Some.ensures.there in
    rw (c.drop_out.ensures.list, ← c.self.view_is) (ap (λ l. edited l (map_versions keys_in c.self.inside.keys.list)) gone)

pub returns-in-None-clause-answer : goal.returns-in-None-clause-answer
returns-in-None-clause-answer g c = rw (← c.self.view_is) (c.in-None.ensures.there ∙ any_match (g.met.Q.Query.is_query c.args.query.now) c.self.inside.keys.list.current c.self.invariant.current)

pub returns-in-None-clause-list : goal.returns-in-None-clause-list
returns-in-None-clause-list g c =
    let none = no_match (g.met.Q.Query.is_query c.args.query.now) c.self.inside.keys.list.current c.self.invariant.current c.in-None.ensures.there in
    rw (← c.self.view_is) (ap (λ l. edited l (map_versions keys_in c.self.inside.keys.list)) none)
