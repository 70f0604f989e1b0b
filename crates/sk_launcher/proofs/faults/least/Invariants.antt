use Rattle.sk_launcher.specs.Launching.{IsLeastOf}
use Rattle.sk_launcher.proofs.faults.least.Given as goal

abbrev pub invariant-loop-fault : goal.invariant-loop-fault
invariant-loop-fault l = IsLeastOf l.yielded l.least
