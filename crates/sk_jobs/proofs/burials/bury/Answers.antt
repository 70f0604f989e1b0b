use Rattle.std.proofs.Common.{ap, subst, sym}
use Rattle.sk_resp.specs.Spelling.{Bytes}
use Rattle.sk_seats.proofs.Seating.{has_works, stage_stays}
use Rattle.sk_seats.specs.Works.{is_buried_as}
use Rattle.sk_seats.specs.declared.work.Stage.TheVariants.{Put}
use Rattle.sk_model.specs.Jobs.{reports}
use Rattle.sk_model.specs.Outcome.{Realizes}
use Rattle.sk_model.specs.Workers.{bury, bury_text}
use Rattle.sk_model.specs.World.{phase_of}
use Rattle.sk_store.proofs.Steps.{seated_ready, seats_stay, undone_again, whole}
use Rattle.sk_store.specs.Stored.{world}
use Rattle.sk_jobs.specs.Routing.{buries_text}
use Rattle.sk_jobs.proofs.Turning.{buried_turned, staged_is, starved, with_phases, within_still}
use Rattle.sk_jobs.proofs.Working.{found_at, found_is}
use Rattle.sk_jobs.proofs.burials.bury.Goals as goal

pub stage-requires : goal.stage-requires
stage-requires c =
    let old = c.args.store.now in
    let payload = c.in_ok-payload.payload in
    let found = found_at c.get.result.now (phase_of (world old) c.args.seat) (is_buried_as payload) c.in-Ok.at c.get.ensures.is c.in-Ok.ensures.found in
    let same = seats_stay old c.begin.new.self c.bury_payload-done.new.store c.close.new.self c.begin.ensures c.bury_payload-done.ensures.step c.in_ok-reply.ensures.ok in
    within_still old.seats c.close.new.self.seats c.args.seat c.in-Ok.at (is_buried_as payload) same found

pub returns-in_err-reply : goal.returns-in_err-reply
returns-in_err-reply c =
    let same = undone_again c.args.store.now c.begin.new.self c.bury_payload-done.new.store c.close.new.self c.requires.ready c.begin.ensures c.bury_payload-done.ensures.step c.in_err-reply.ensures.err in
    starved c.args.store.now c.close.new.self _ c.from_residual-in_err-reply.result c.from_residual-in_err-reply.ensures.0 same

pub returns : goal.returns
returns c =
    let old = c.args.store.now in
    let closed = c.close.new.self in
    let seat = c.args.seat in
    let payload = c.in_ok-payload.payload in
    let reply = c.in_ok-reply.reply in
    let v = world old in
    let phase = phase_of v seat in
    let found = found_at c.get.result.now phase (is_buried_as payload) c.in-Ok.at c.get.ensures.is c.in-Ok.ensures.found in
    let same = seats_stay old c.begin.new.self c.bury_payload-done.new.store closed c.begin.ensures c.bury_payload-done.ensures.step c.in_ok-reply.ensures.ok in
    let alike = λ (jid : Bytes). stage_stays jid seat old.seats (is_buried_as payload) Put c.get.ensures.order (has_works phase c.in-Ok.at found.within) in
    let ran = whole old c.begin.new.self c.bury_payload-done.new.store closed (λ u. buries_text u payload) c.bury_payload-done.result _
    c.requires.ready c.begin.ensures c.bury_payload-done.ensures.step c.bury_payload-done.ensures.ok c.in_ok-reply.ensures.same c.in_ok-reply.ensures.ok c.in_ok-reply.ensures.err in
    let next = staged_is old.seats closed.seats c.stage.new.self seat c.in-Ok.at (is_buried_as payload) Put same found c.stage.ensures in
    let after = world (record closed { seats = c.stage.new.self }) in
    let comes = buried_turned v (world closed) after seat phase payload reply alike ran.0 (ap (λ p. with_phases p (world closed)) next) in (
      subst (λ text. Realizes v (bury v seat phase text) reply after) c.in_ok-payload.ensures
          (subst (λ o. Realizes v o reply after) (sym (found_is phase (is_buried_as payload) c.in-Ok.at (λ ident. reports (bury_text v seat phase payload)) found)) comes),
      seated_ready closed c.stage.new.self ran.1,
    )
