use Rattle.std.proofs.Common.{◌≡◌, ◌+◌, ◌-◌, ◌≤◌, ℕ, List, length, vec_len}
use Rattle.std.specs.List.Sorted.{IsPermutation}
use Rattle.sk_base.specs.Yields.{YieldsAll}
use Rattle.sk_policy.specs.Order.{shuffled}
use Rattle.sk_policy.proofs.order.shuffle.Given as goal

abbrev pub invariant-loop-i : goal.invariant-loop-i
invariant-loop-i g l = record {
  drawn : (words : List ℕ) × YieldsAll (g.D.Dice.words l.fn.dice) words (g.D.Dice.words l.dice) × (length words + l.i ≡ length l.fn.lot.items)
      × (l.lot.items ≡ shuffled (length l.fn.lot.items - 1) words l.fn.lot.items);
  some : 1 ≤ length l.fn.lot.items → 1 ≤ l.i;
  len : vec_len l.lot ≡ length l.fn.lot.items;
  same : IsPermutation l.fn.lot.items l.lot.items;
}

abbrev pub decreases-loop-i : goal.decreases-loop-i
decreases-loop-i g l = l.i
