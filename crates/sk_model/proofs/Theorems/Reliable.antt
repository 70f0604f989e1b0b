-- All laws, of one run.
use Rattle.sk_model.specs.Reliable.{Reliable}
use Rattle.sk_model.proofs.Theorems.Causes.{moves_have_causes}
use Rattle.sk_model.proofs.Theorems.LockHolders.{one_holder}
use Rattle.sk_model.proofs.Theorems.Leaders.{one_leader, slots_rise}
use Rattle.sk_model.proofs.Theorems.LiveJobs.{balance, conserve, copies_kept}
use Rattle.sk_model.proofs.Theorems.Callbacks.{batch_once, callbacks_follow, complete_once, death_once, firings_in_order, settled_stays}

pub reliable : Reliable
reliable limits steps run = record {
  live_jobs_stand = conserve limits steps run;
  tally_balances = balance limits steps run;
  nothing_is_lost = copies_kept limits steps run;
  success_once = batch_once limits steps run;
  settled_stays = settled_stays limits steps run;
  complete_once = complete_once limits steps run;
  death_once = death_once limits steps run;
  firings_in_order = firings_in_order limits steps run;
  callbacks_follow = callbacks_follow limits steps run;
  moves_have_causes = moves_have_causes limits steps run;
  one_holder = one_holder limits steps run;
  one_leader = one_leader limits steps run;
  slots_rise = slots_rise limits steps run;
}
