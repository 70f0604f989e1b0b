-- Cron words.
use Rattle.std.proofs.Common.{◌≡◌}
use Rattle.clap.specs.Words.{Text}
use Rattle.sk_cron.specs.Fault.{IsFault}
use Rattle.sk_cron.specs.Times.{Means, Times}
use Rattle.sk_cron.specs.declared.cron_fault.CronFault.{CronFault}
use Rattle.sk_poller.specs.Loop.{is_loop}
use Rattle.sk_poller.specs.declared.poller.Loop.{Loop}

pub no_cron : (text : Text) (f : CronFault) → IsFault text f → (t : Times) → Means text t → ⊥
no_cron text f fault t h = fault.none h.0 h.1

pub same_names : (k l : Loop) → k.name ≡ l.name → k.class ≡ l.class → k.queue ≡ l.queue → is_loop k ≡ is_loop l
unfolding is_loop
same_names k l name class queue = cc
