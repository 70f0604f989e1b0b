use Rattle.std.proofs.Common.{◌∙◌, Some, ap, arith, subst, sym}
use Rattle.sk_batch.specs.Stat.{IsSmall}
use Rattle.sk_batch.specs.States.{StateEntry}
use Rattle.sk_batch.specs.declared.batch_stat.BatchStat.{BatchStat}
use Rattle.sk_batch.proofs.Looks.{no_stat, stat_at, stat_small}
use Rattle.sk_batch.proofs.stats.stat.Goals as goal

abbrev stat_by : StateEntry → BatchStat
stat_by e = record { members = e.0.numbers.members; pending = e.0.numbers.own.unreturned; unreported = e.0.numbers.own.unreported; died = e.0.fired.death; pending_under = e.0.numbers.under.unreturned }

pub returns-then-at-len-clause-is : goal.returns-then-at-len-clause-is
returns-then-at-len-clause-is c = no_stat c.args.batches.now.list.current c.args.members.now.list.current c.args.bid.now (sym c.len.ensures.is ∙ sym c.if-at-len.true ∙ c.find-at.ensures.is)

pub returns-clause-is : goal.returns-clause-is
returns-clause-is c = ap (λ (e : StateEntry). Some (stat_by e)) c.get.ensures ∙ stat_at c.args.batches.now.list.current c.args.members.now.list.current c.requires c.find-at.result c.get.result.now (omega (arith, c.if-at-len.false, c.len.ensures.is, c.find-at.ensures.within)) c.args.bid.now c.find-at.ensures.is

pub returns-clause-small : goal.returns-clause-small
returns-clause-small c = subst (λ (e : StateEntry). IsSmall (stat_by e)) (sym c.get.ensures) (stat_small c.args.batches.now.list.current c.args.members.now.list.current c.requires c.find-at.result c.get.result.now (omega (arith, c.if-at-len.false, c.len.ensures.is, c.find-at.ensures.within)) (omega (arith, c.len-len.ensures.is, c.len-len.ensures.small)))
