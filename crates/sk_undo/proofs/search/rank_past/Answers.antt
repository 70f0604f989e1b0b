use Rattle.std.proofs.Common.{◌∙◌}
use Rattle.std.specs.Ordering.{is_lt}
use Rattle.sk_undo.specs.Entries.{keys_in}
use Rattle.sk_undo.proofs.Entries.{position_keys, partitioned_keys}
use Rattle.sk_undo.proofs.Sorted.{partitioned_lt}
use Rattle.sk_undo.proofs.search.rank_past.Goals as goal

pub partition_point-requires : goal.partition_point-requires
partition_point-requires g c =
    let current = c.args.entries.now.list.current in
    partitioned_keys (λ key. is_lt (g.Q.Query.order c.args.query.now key)) current ∙ partitioned_lt g.K.Ord.cmp (g.met.Q.Query.is_query c.args.query.now) (keys_in current) c.requires

pub returns-clause-is : goal.returns-clause-is
returns-clause-is g c = c.partition_point.ensures.is ∙ position_keys (λ key. is_lt (g.Q.Query.order c.args.query.now key)) c.args.entries.now.list.current
