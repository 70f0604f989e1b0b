use Rattle.std.proofs.Common.{arith, ◌∙◌}
use Rattle.sk_zset.proofs.Places.{place_there, place_within}
use Rattle.sk_zset.proofs.Rising.{partitioned_from}
use Rattle.sk_zset.proofs.find.place_of.Goals as goal

pub partition_point-requires : goal.partition_point-requires
partition_point-requires c = partitioned_from (c.args.score, c.args.member.now) c.args.pairs.now.list.current c.requires.ordered

pub returns-clause-is : goal.returns-clause-is
returns-clause-is c = c.partition_point.ensures.is ∙ place_there (c.args.score, c.args.member.now) c.args.pairs.now.list.current c.requires.ordered c.requires.there

pub returns-clause-within : goal.returns-clause-within
returns-clause-within c =
    let place = place_there (c.args.score, c.args.member.now) c.args.pairs.now.list.current c.requires.ordered c.requires.there in
    let within = place_within c.args.member.now c.args.score c.args.pairs.now.list.current c.requires.there in
    omega (arith, c.partition_point.ensures.is, place, within)
