use Rattle.std.proofs.Common.{◌∙◌}
use Rattle.sk_batch.specs.Batched.{has_bid}
use Rattle.sk_batch.proofs.Indexed.{behind_place, from_place}
use Rattle.sk_batch.proofs.batch_list.BatchList.find_from.Goals as goal

pub returns-then-at-first-clause-is : goal.returns-then-at-first-clause-is
returns-then-at-first-clause-is c = c.len.ensures.is ∙ behind_place c.args.bid.now c.args.self.now.list.current c.args.first c.find-at.result c.len.ensures.once c.requires c.find-at.ensures.is c.if-at-first.true

pub returns-else-at-first-clause-is : goal.returns-else-at-first-clause-is
returns-else-at-first-clause-is c = from_place (has_bid c.args.bid.now) c.args.self.now.list.current c.args.first c.find-at.result c.find-at.ensures.is c.if-at-first.false
