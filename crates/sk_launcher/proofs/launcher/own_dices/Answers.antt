use Rattle.std.proofs.Common.{rules}
use Rattle.sk_launcher.specs.Connections.{none, one_more}
use Rattle.sk_launcher.proofs.launcher.own_dices.Goals as goal

pub loop-own-init : goal.loop-own-init
loop-own-init g c = record { few = search rules; room = search rules; seeded = rw c.in_ok-own.ensures.items none }

pub loop-own-preserved : goal.loop-own-preserved
loop-own-preserved g c = record {
  few = search rules;
  room = search rules;
  seeded = rw c.push_reserved.ensures.items (one_more _ _ _ _ c.loop-own.invariant.seeded c.own_dice.ensures);
}
