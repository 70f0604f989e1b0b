use Rattle.std.proofs.Common.{map}
use Rattle.sk_compare.specs.Exchange.{exchange_of}
use Rattle.sk_drill.specs.Telling.{OnTime, Pushed, push_moment}
use Rattle.sk_drill.proofs.push_duty.push_all.Given as goal

abbrev pub invariant-loop-k : goal.invariant-loop-k
invariant-loop-k g l = record {
  pushed : Pushed l.k (map exchange_of l.link.asks.items);
  time : OnTime push_moment l.link;
}
