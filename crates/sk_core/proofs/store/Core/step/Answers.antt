use Rattle.std.proofs.Common.{subst, sym}
use Rattle.sk_jobs.specs.Callbacks.{AreCovered}
use Rattle.sk_places.specs.Cleared.{AllStand}
use Rattle.sk_store.specs.Stored.{IsReady, world}
use Rattle.sk_store.specs.declared.store.Store.{Store}
use Rattle.sk_core.specs.Whole.{KeepsLaws}
use Rattle.sk_core.proofs.Stepping.{steps_keep}
use Rattle.sk_core.proofs.store.Core.step.Goals as goal

pub step-requires-clause-ready : goal.step-requires-clause-ready
step-requires-clause-ready c = subst IsReady (sym c.free_removed.ensures) c.self.invariant.ready

pub step-requires-clause-covered : goal.step-requires-clause-covered
step-requires-clause-covered c = subst AreCovered (sym c.free_removed.ensures) c.self.invariant.laws.covered

pub step-requires-clause-standing : goal.step-requires-clause-standing
step-requires-clause-standing c = subst (λ (s : Store). AllStand (world s).rows (world s).live) (sym c.free_removed.ensures) (λ jid live. (c.self.invariant.laws.sound.kept jid live).standing)

pub invariant_of-self : goal.invariant_of-self
invariant_of-self c = record {
  ready = c.step.ensures.ready;
  laws = steps_keep (world c.free_removed.new.self) (world c.step.new.store) c.args.seat c.args.now c.args.command c.step.result c.step.ensures.served (subst (λ (s : Store). KeepsLaws (world s)) (sym c.free_removed.ensures) c.self.invariant.laws);
}
