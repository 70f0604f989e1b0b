use Rattle.std.proofs.Common.{◌++◌, [], ◌∷◌, subst, sym}
use Rattle.sk_launcher.specs.Launching.{IsLeast}
use Rattle.sk_launcher.proofs.Least.{least_more}
use Rattle.sk_launcher.proofs.faults.least.Goals as goal

pub loop-fault-preserved : goal.loop-fault-preserved
loop-fault-preserved c =
    subst (λ f. IsLeast f (c.loop-fault.yielded ++ c.in-Some.fault ∷ [])) (sym c.lesser.ensures)
    (least_more c.loop-fault.yielded c.loop-fault.least c.in-Some.fault c.loop-fault.invariant)
