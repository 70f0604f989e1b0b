use Rattle.std.proofs.Common.{◌≡◌, ◌≤◌, ◌*◌, ◌+◌, ◌^◌, drop, map}
use Rattle.sk_model.specs.Room.{bytes_of}
use Rattle.sk_store.proofs.room.bytes_scored.Given as goal

abbrev pub invariant-loop-pair : goal.invariant-loop-pair
invariant-loop-pair l = record {
  sum : l.bytes + bytes_of (map (λ pair. pair.1) (drop l.pair-index l.pairs)) ≡ bytes_of (map (λ pair. pair.1) l.pairs);
  small : l.bytes ≤ l.pair-index * 2 ^ 64;
}
