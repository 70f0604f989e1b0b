use Rattle.std.proofs.Common.{◌≡◌, ◌≤◌, ◌++◌, ap, drop, not, refl, sym, take, ◌∙◌, filter, true}
use Rattle.std.specs.BTreeMap.{is_at}
use Rattle.sk_undo.specs.Entries.{keys_in}
use Rattle.sk_undo.specs.Sorted.{is_ordered, rank, rank_past}
use Rattle.sk_undo.specs.Versions.{edited, map_versions}
use Rattle.sk_undo.proofs.Between.{keys_others, keys_part, ordered_others, ordered_part, ranks_rise, without_between}
use Rattle.sk_undo.proofs.undo_multiset.UndoMultiset.take_all.Goals as goal

pub cut-requires-clause-order : goal.cut-requires-clause-order
cut-requires-clause-order g c = rw (c.rank-first.ensures.is, c.rank_past-end.ensures.is) (ranks_rise (g.met.Q.Query.is_query c.args.query.now) (keys_in c.self.inside.keys.list.current))

pub invariant_of-self : goal.invariant_of-self
invariant_of-self g c =
    let current = c.self.inside.keys.list.current in
    let left : keys_in (take c.rank-first.result current ++ drop c.rank_past-end.result current) ≡ filter (λ key. not (is_at (g.Q.Query.order c.args.query.now) key)) (keys_in current) =
    keys_others c.rank-first.result c.rank_past-end.result current
    ∙ ap (λ n. take n (keys_in current) ++ drop c.rank_past-end.result (keys_in current)) c.rank-first.ensures.is
    ∙ ap (λ n. take (rank (g.Q.Query.order c.args.query.now) (keys_in current)) (keys_in current) ++ drop n (keys_in current)) c.rank_past-end.ensures.is
    ∙ without_between (g.met.Q.Query.is_query c.args.query.now) (keys_in current) c.self.invariant.current in
    rw (c.cut.ensures.rest) (record {
      current = ap (is_ordered g.K.Ord.cmp) left ∙ ordered_others g.K.Ord.cmp (λ key. not (is_at (g.Q.Query.order c.args.query.now) key)) (keys_in current) c.self.invariant.current;
      saved = c.self.invariant.saved;
    })

pub invariant_of-result : goal.invariant_of-result
invariant_of-result g c =
    let current = c.self.inside.keys.list.current in
    rw (c.cut.ensures.out) (record {
      current = ap (is_ordered g.K.Ord.cmp) (keys_part c.rank-first.result c.rank_past-end.result current) ∙ ordered_part g.K.Ord.cmp c.rank-first.result c.rank_past-end.result (keys_in current) c.self.invariant.current;
      saved = refl;
    })

pub returns : goal.returns
returns g c =
    let current = c.self.inside.keys.list.current in
    let left : keys_in (take c.rank-first.result current ++ drop c.rank_past-end.result current) ≡ filter (λ key. not (is_at (g.Q.Query.order c.args.query.now) key)) (keys_in current) =
    keys_others c.rank-first.result c.rank_past-end.result current
    ∙ ap (λ n. take n (keys_in current) ++ drop c.rank_past-end.result (keys_in current)) c.rank-first.ensures.is
    ∙ ap (λ n. take (rank (g.Q.Query.order c.args.query.now) (keys_in current)) (keys_in current) ++ drop n (keys_in current)) c.rank_past-end.ensures.is
    ∙ without_between (g.met.Q.Query.is_query c.args.query.now) (keys_in current) c.self.invariant.current in
    rw (c.cut.ensures.rest, ← c.self.view_is) (ap (λ l. edited l (map_versions keys_in c.self.inside.keys.list)) left)
