use Rattle.std.proofs.Common.{◌≡◌, ◌∙◌, ap, ap₂, false, inl, inr, not, refl, subst, sym}
use Rattle.sk_value.specs.Action.{action_of}
use Rattle.sk_model.specs.Outcome.{Realizes}
use Rattle.sk_model.specs.Seats.{releases}
use Rattle.sk_model.specs.Step.{plain_outcome, starves}
use Rattle.sk_model.specs.World.{World, phase_of}
use Rattle.sk_places.specs.Cleared.{AllStand}
use Rattle.sk_store.specs.Stored.{IsReady, world}
use Rattle.sk_core.specs.Whole.{sent_by}
use Rattle.sk_core.proofs.Stepping.{plain_comes}
use Rattle.sk_core.proofs.dispatch.step_plain.Goals as goal

pub returns-in-Ok-clause-served : goal.returns-in-Ok-clause-served
returns-in-Ok-clause-served c =
    let w = world c.args.store.now in
    let mid = world c.pass.new.self in
    let new = world c.run_plain.new.store in
    let seat = c.args.seat in
    let same = ap₂ (sent_by mid seat (phase_of mid seat)) c.is_read-reads.ensures c.action_of-action.ensures in (
      plain_outcome w seat c.args.now c.args.command,
      inl refl,
      plain_comes w mid new seat c.args.now c.args.command c.in-Ok.reply c.pass.ensures.world (subst (λ o. Realizes mid o c.in-Ok.reply new) same c.in-Ok.ensures.ran.0),
    )

pub returns-in-Ok-clause-ready : goal.returns-in-Ok-clause-ready
returns-in-Ok-clause-ready c = c.in-Ok.ensures.ran.1

pub returns-in-Err-clause-served : goal.returns-in-Err-clause-served
returns-in-Err-clause-served c =
    let w = world c.args.store.now in
    let seat = c.args.seat in
    let no : releases (phase_of w seat) (action_of c.args.command) ≡ false =
    ap (releases (phase_of w seat)) (sym c.action_of-action.ensures) ∙ ap (λ u. releases (phase_of u seat) c.action_of-action.result) (sym c.pass.ensures.world) ∙ c.in-Err.ensures.release in
    (starves c.args.now, inr (ap not no, refl), record { reply_is = refl; new_is = ap world c.in-Err.ensures.ran ∙ c.pass.ensures.world })

pub returns-in-Err-clause-ready : goal.returns-in-Err-clause-ready
returns-in-Err-clause-ready c = subst IsReady (sym c.in-Err.ensures.ran) c.pass.ensures.ready

pub run_plain-requires-clause-standing : goal.run_plain-requires-clause-standing
run_plain-requires-clause-standing c = subst (λ (w : World). AllStand w.rows w.live) (sym c.pass.ensures.world) c.requires.standing
