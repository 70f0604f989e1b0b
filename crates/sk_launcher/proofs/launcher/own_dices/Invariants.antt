use Rattle.std.proofs.Common.{◌≤◌, ◌-◌, vec_len, vec_capacity}
use Rattle.sk_launcher.specs.Connections.{Each}
use Rattle.sk_launcher.specs.Seeding.{Seeds}
use Rattle.sk_launcher.proofs.launcher.own_dices.Given as goal

abbrev pub invariant-loop-own : goal.invariant-loop-own
invariant-loop-own g l = record {
  few : vec_len l.own ≤ l.count;
  room : l.count ≤ vec_capacity l.own;
  seeded : Each Seeds (g.D.Dice.words l.fn.dice) l.own.items (g.D.Dice.words l.dice);
}

abbrev pub decreases-loop-own : goal.decreases-loop-own
decreases-loop-own g l = l.count - vec_len l.own
