use Rattle.std.proofs.Common.{◌≡◌, ◌+◌, ℕ, map}
use Rattle.sk_compare.specs.Exchange.{exchange_of}
use Rattle.sk_drill.specs.Telling.{OnTime, Polled, poll_moment, ticks}
use Rattle.sk_drill.proofs.poll_duty.poll_all.Given as goal

abbrev pub invariant-loop-turn : goal.invariant-loop-turn
invariant-loop-turn g l = record {
  polled : Polled l._turn (map exchange_of l.link.asks.items) l.marks.items;
  clock : (n : ℕ) → ticks l.clock n ≡ poll_moment (l._turn + n);
  time : OnTime poll_moment l.link;
}
