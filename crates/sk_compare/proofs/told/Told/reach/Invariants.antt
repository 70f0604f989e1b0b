use Rattle.std.proofs.Common.{◌≡◌, ◌≤◌, ◌^◌, ℕ, map, vec_len}
use Rattle.sk_compare.specs.Alike.{told_at}
use Rattle.sk_compare.specs.Exchange.{exchange_of}
use Rattle.sk_compare.proofs.told.Told.reach.Given as goal

abbrev pub invariant-loop-seat : goal.invariant-loop-seat
invariant-loop-seat l = record {
  same : (s : ℕ) → told_at (map (λ asks. map (λ a. exchange_of a.now) asks.items) l.self-inside.seats.items) s ≡ told_at l.fn.self s;
  count : vec_len l.self-inside.seats ≡ l._seat;
  few : l._seat ≤ 2 ^ 32;
}
