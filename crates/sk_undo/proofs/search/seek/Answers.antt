use Rattle.std.proofs.Common.{◌∙◌}
use Rattle.std.specs.Ordering.{is_le}
use Rattle.sk_undo.specs.Entries.{keys_in}
use Rattle.sk_undo.proofs.Entries.{found_keys, partitioned_keys, position_keys}
use Rattle.sk_undo.proofs.Sorted.{partitioned_le}
use Rattle.sk_undo.proofs.search.seek.Goals as goal

pub seek-requires : goal.seek-requires
seek-requires g c =
    let current = c.args.entries.now.list.current in
    partitioned_keys (λ key. is_le (g.Q.Query.order c.args.query.now key)) current ∙ partitioned_le g.K.Ord.cmp (g.met.Q.Query.is_query c.args.query.now) (keys_in current) c.requires

pub returns-clause-place : goal.returns-clause-place
returns-clause-place g c = c.seek.ensures.place ∙ position_keys (λ key. is_le (g.Q.Query.order c.args.query.now key)) c.args.entries.now.list.current

pub returns-clause-there : goal.returns-clause-there
returns-clause-there g c = c.seek.ensures.there ∙ found_keys (g.Q.Query.order c.args.query.now) c.args.entries.now.list.current
