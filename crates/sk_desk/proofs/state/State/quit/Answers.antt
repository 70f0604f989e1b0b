use Rattle.sk_desk.proofs.Journals.{cut_kept}
use Rattle.sk_desk.proofs.state.State.quit.Goals as goal

pub invariant_of-self : goal.invariant_of-self
invariant_of-self g c = (cut_kept _ _ _ _ _ c.self.invariant.0 (record { world_is = c.cut.ensures; entered = c.quit.ensures.entered; total_is = c.cut-2.ensures.total }) c.quit.ensures.written, c.self.invariant.1)
