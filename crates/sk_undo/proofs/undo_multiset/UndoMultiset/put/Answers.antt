use Rattle.std.proofs.Common.{◌∙◌, ap}
use Rattle.std.specs.List.{insert}
use Rattle.sk_undo.specs.Entries.{keys_in}
use Rattle.sk_undo.specs.Sorted.{is_ordered}
use Rattle.sk_undo.specs.Versions.{edited, map_versions}
use Rattle.sk_undo.proofs.Copies.{keys_put, ordered_insert}
use Rattle.sk_undo.proofs.undo_multiset.UndoMultiset.put.Goals as goal

pub invariant_of-self : goal.invariant_of-self
invariant_of-self g c =
    let keys = keys_in c.self.inside.keys.list.current in
    let put = keys_put c.self.inside.keys.list.current c.rank_past-at.result tt c.args.key ∙ ap (λ i. insert keys i c.args.key) c.rank_past-at.ensures.is in
    rw (c.insert.ensures.list) (record {
      current = ap (is_ordered g.K.Ord.cmp) put ∙ ordered_insert g.K.Ord.cmp g.met.K.Ord.total c.args.key keys c.self.invariant.current;
      saved = c.self.invariant.saved;
    })

pub returns-clause-list : goal.returns-clause-list
returns-clause-list g c =
    let keys = keys_in c.self.inside.keys.list.current in
    let put = keys_put c.self.inside.keys.list.current c.rank_past-at.result tt c.args.key ∙ ap (λ i. insert keys i c.args.key) c.rank_past-at.ensures.is in
    rw (c.insert.ensures.list, ← c.self.view_is) (ap (λ l. edited l (map_versions keys_in c.self.inside.keys.list)) put)
