use Rattle.sk_drill.proofs.Assigning.{all_assigned}
use Rattle.sk_drill.proofs.crew.hire_all.Goals as goal

pub returns-clause-hired : goal.returns-clause-hired
returns-clause-hired g c = all_assigned _ _ _ _ _ _ _ c.loop-i.invariant.hired
