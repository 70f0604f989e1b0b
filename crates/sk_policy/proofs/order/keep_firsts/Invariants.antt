use Rattle.std.proofs.Common.{◌≡◌, ◌≤◌, length, take, vec_len, vec_capacity}
use Rattle.sk_policy.specs.Order.{firsts}
use Rattle.sk_policy.proofs.order.keep_firsts.Given as goal

abbrev pub invariant-loop-place : goal.invariant-loop-place
invariant-loop-place l = record {
  kept : l.room.items ≡ firsts (take l.place-index l.lot);
  few : vec_len l.room ≤ l.place-index;
  room : length l.lot ≤ vec_capacity l.room;
}
