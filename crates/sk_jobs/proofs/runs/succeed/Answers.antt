use Rattle.std.proofs.Common.{◌∙◌, ◌∷◌, ap, subst, sym}
use Rattle.sk_resp.specs.Spelling.{Bytes}
use Rattle.sk_batch.specs.declared.event.Event.TheVariants as event
use Rattle.sk_model.specs.Change.{Turns, perform}
use Rattle.sk_model.specs.Outcome.{Realizes, Outcome}
use Rattle.sk_model.specs.Unique.{unlocks}
use Rattle.sk_model.specs.Workers.{and_unlock}
use Rattle.sk_payload.specs.declared.head.Until.TheVariants as until
use Rattle.sk_model.specs.Notify.{and_notify}
use Rattle.sk_model.specs.World.{phase_of}
use Rattle.sk_seats.specs.Phases.{staging}
use Rattle.sk_seats.specs.Works.{is_held_as}
use Rattle.sk_seats.specs.declared.work.End.TheVariants.{Returned}
use Rattle.sk_seats.specs.declared.work.Stage.TheVariants.{Settled}
use Rattle.sk_seats.proofs.Seating.{has_works, stage_stays}
use Rattle.sk_store.proofs.Steps.{seated_ready, seats_stay, undone_again, whole}
use Rattle.sk_store.specs.Stored.{world}
use Rattle.sk_jobs.specs.Callbacks.{counts_processed}
use Rattle.sk_jobs.proofs.Turning.{returned_turned, staged_is, starved, with_phases, within_still}
use Rattle.sk_jobs.proofs.UniquePushes.{comes_more}
use Rattle.sk_jobs.proofs.Working.{found_at, found_is}
use Rattle.sk_jobs.proofs.runs.succeed.Goals as goal

pub stage-requires : goal.stage-requires
stage-requires c =
    let old = c.args.store.now in
    let text = c.args.text.now in
    let found = found_at c.get.result.now (phase_of (world old) c.args.seat) (is_held_as text) c.in-Ok.at c.get.ensures.is c.in-Ok.ensures.found in
    let same = seats_stay old c.begin.new.self c.succeed_open-done.new.store c.close.new.self c.begin.ensures c.succeed_open-done.ensures.step c.in_ok-reply.ensures.ok in
    within_still old.seats c.close.new.self.seats c.args.seat c.in-Ok.at (is_held_as text) same found

pub returns-in_err-reply : goal.returns-in_err-reply
returns-in_err-reply c =
    let same = undone_again c.args.store.now c.begin.new.self c.succeed_open-done.new.store c.close.new.self c.requires.ready c.begin.ensures c.succeed_open-done.ensures.step c.in_err-reply.ensures.err in
    starved c.args.store.now c.close.new.self _ c.from_residual-in_err-reply.result c.from_residual-in_err-reply.ensures.0 same

pub returns : goal.returns
returns c =
    let old = c.args.store.now in
    let closed = c.close.new.self in
    let seat = c.args.seat in
    let text = c.args.text.now in
    let reply = c.in_ok-reply.reply in
    let v = world old in
    let phase = phase_of v seat in
    let found = found_at c.get.result.now phase (is_held_as text) c.in-Ok.at c.get.ensures.is c.in-Ok.ensures.found in
    let same = seats_stay old c.begin.new.self c.succeed_open-done.new.store closed c.begin.ensures c.succeed_open-done.ensures.step c.in_ok-reply.ensures.ok in
    let alike = λ (jid : Bytes). stage_stays jid seat old.seats (is_held_as text) (Settled Returned) c.get.ensures.order (has_works phase c.in-Ok.at found.within) in
    let ran = whole old c.begin.new.self c.succeed_open-done.new.store closed (λ u. and_notify event.Returned u text counts_processed) c.succeed_open-done.result _
    c.requires.ready c.begin.ensures c.succeed_open-done.ensures.step c.succeed_open-done.ensures.ok c.in_ok-reply.ensures.same c.in_ok-reply.ensures.ok c.in_ok-reply.ensures.err in
    let next = staged_is old.seats closed.seats c.stage.new.self seat c.in-Ok.at (is_held_as text) (Settled Returned) same found c.stage.ensures in
    let turn = staging (is_held_as text) (Settled Returned) phase in
    let after = world (record closed { seats = c.stage.new.self }) in
    let told : Outcome = and_notify event.Returned v text (Turns seat turn ∷ counts_processed) in
    let comes = returned_turned v (world closed) after event.Returned seat turn text reply alike ran.0 (ap (λ p. with_phases p (world closed)) next) in
    let ended = comes_more v after (world c.let_go.new.store) told reply (unlocks until.Success text) comes (c.let_go.ensures.world ∙ ap (perform after) c.in_ok-lock.ensures) in (
      subst (λ o. Realizes v o reply (world c.let_go.new.store)) (sym (found_is phase (is_held_as text) c.in-Ok.at (λ ident. and_unlock text told) found)) ended,
      c.let_go.ensures.ready,
    )

pub let_go-requires : goal.let_go-requires
let_go-requires c =
    let old = c.args.store.now in
    let ran = whole old c.begin.new.self c.succeed_open-done.new.store c.close.new.self (λ u. and_notify event.Returned u c.args.text.now counts_processed) c.succeed_open-done.result _
    c.requires.ready c.begin.ensures c.succeed_open-done.ensures.step c.succeed_open-done.ensures.ok c.in_ok-reply.ensures.same c.in_ok-reply.ensures.ok c.in_ok-reply.ensures.err in
    seated_ready c.close.new.self c.stage.new.self ran.1
