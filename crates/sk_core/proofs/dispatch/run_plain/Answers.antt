use Rattle.std.proofs.Common.{◌≡◌, ◌∙◌, sym, false}
use Rattle.sk_model.specs.Seats.{is_worker_action}
use Rattle.sk_model.specs.World.{phase_of}
use Rattle.sk_model.proofs.Tools.Outcomes.{on_err}
use Rattle.sk_store.specs.Stored.{world}
use Rattle.sk_core.proofs.Stepping.{releases_not}
use Rattle.sk_core.proofs.dispatch.run_plain.Goals as goal

pub returns-then-adds-clause-release : goal.returns-then-adds-clause-release
returns-then-adds-clause-release c =
    let no : is_worker_action c.args.action ≡ false = sym c.is_worker_action.ensures ∙ c.if-is_worker_action.false in
    on_err c.act.result (releases_not (phase_of (world c.args.store.now) c.args.seat) c.args.action no)
