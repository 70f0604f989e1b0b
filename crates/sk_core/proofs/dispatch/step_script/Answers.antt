use Rattle.std.proofs.Common.{◌∙◌, ap, inl, inr, refl, subst, sym}
use Rattle.sk_model.specs.Step.{script_outcome, starves}
use Rattle.sk_model.specs.Covered.{IsCovered}
use Rattle.sk_model.specs.World.{World}
use Rattle.sk_store.specs.Stored.{IsReady, world}
use Rattle.sk_core.proofs.Stepping.{script_comes}
use Rattle.sk_core.proofs.dispatch.step_script.Goals as goal

pub returns-in-Ok-clause-served : goal.returns-in-Ok-clause-served
returns-in-Ok-clause-served c =
    let w = world c.args.store.now in
    (script_outcome w c.args.seat c.args.now c.args.script, inl refl, script_comes w (world c.pass.new.self) (world c.run_script.new.store) c.args.seat c.args.now c.args.script c.in-Ok.reply c.pass.ensures.world c.in-Ok.ensures.0)

pub returns-in-Ok-clause-ready : goal.returns-in-Ok-clause-ready
returns-in-Ok-clause-ready c = c.in-Ok.ensures.1

pub returns-in-Err-clause-served : goal.returns-in-Err-clause-served
returns-in-Err-clause-served c = (starves c.args.now, inr (refl, refl), record { reply_is = refl; new_is = ap world c.in-Err.ensures ∙ c.pass.ensures.world })

pub returns-in-Err-clause-ready : goal.returns-in-Err-clause-ready
returns-in-Err-clause-ready c = subst IsReady (sym c.in-Err.ensures) c.pass.ensures.ready

pub run_script-requires-clause-covered : goal.run_script-requires-clause-covered
run_script-requires-clause-covered c = subst (λ (w : World). IsCovered w.tally.inner w.batches) (sym c.pass.ensures.world) c.requires.covered
