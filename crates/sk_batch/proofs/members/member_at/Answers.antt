use Rattle.std.proofs.Common.{ap, sym, ◌∙◌, arith}
use Rattle.sk_batch.specs.Batched.{is_job}
use Rattle.sk_batch.proofs.Order.{found_nowhere, found_past, partitioned_from}
use Rattle.sk_batch.proofs.members.member_at.Goals as goal

pub partition_point-at-requires : goal.partition_point-at-requires
partition_point-at-requires c = partitioned_from (record { bid = c.args.bid.now; jid = c.args.jid.now }) c.args.members.now.list.current c.requires

pub returns-then-at-end-clause-is : goal.returns-then-at-end-clause-is
returns-then-at-end-clause-is c = c.len-end.ensures.is ∙ found_past c.args.bid.now c.args.jid.now c.args.members.now.list.current c.partition_point-at.result c.requires c.partition_point-at.ensures.is (omega (arith, c.if-at-end.true, c.len-end.ensures.is))

pub returns-else-test-clause-is : goal.returns-else-test-clause-is
returns-else-test-clause-is c = c.len-end.ensures.is ∙ found_nowhere c.args.bid.now c.args.jid.now c.args.members.now.list.current c.partition_point-at.result c.get.result.now c.requires c.partition_point-at.ensures.is (λ _. ap (is_job c.args.bid.now c.args.jid.now) (sym c.get.ensures) ∙ sym c.test.ensures ∙ c.if-test.false)
