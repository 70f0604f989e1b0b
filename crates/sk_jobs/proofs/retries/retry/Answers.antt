use Rattle.std.proofs.Common.{◌≡◌, ◌∙◌, ap, sym}
use Rattle.std.specs.Prelude.{Some}
use Rattle.sk_resp.specs.Spelling.{Bytes}
use Rattle.sk_model.specs.Outcome.{refuses}
use Rattle.sk_model.specs.Workers.{retry, retry_pair}
use Rattle.sk_model.specs.Seats.{where_some}
use Rattle.sk_model.specs.World.{phase_of}
use Rattle.sk_seats.specs.Works.{is_retried_as}
use Rattle.sk_seats.specs.declared.work.Stage.TheVariants.{Put}
use Rattle.sk_model.proofs.Tools.Outcomes.{refusal_comes}
use Rattle.sk_store.proofs.Steps.{ready_after, seated_ready}
use Rattle.sk_store.specs.Stored.{world}
use Rattle.sk_jobs.proofs.Turning.{staged_is, within_still}
use Rattle.sk_jobs.proofs.Working.{found_at, retry_comes, retry_is}
use Rattle.sk_jobs.proofs.retries.retry.Goals as goal

pub stage-requires : goal.stage-requires
stage-requires c =
    let s = c.args.store.now in
    let payload = c.in_ok-payload.payload in
    let found = found_at c.get.result.now (phase_of (world s) c.args.seat) (is_retried_as payload) c.in-Ok.at c.get.ensures.is c.in-Ok.ensures.found in
    within_still s.seats c.put_back.new.store.seats c.args.seat c.in-Ok.at (is_retried_as payload) c.in_ok-new.ensures.step.seats found

pub returns-in-Err : goal.returns-in-Err
returns-in-Err c =
    let v = world c.args.store.now in
    let pair = c.args.pair in
    let phase = phase_of v c.args.seat in
    let o = λ (ident : Bytes). retry_pair v c.args.seat phase pair in
    let same : where_some phase (is_retried_as pair.1) o ≡ refuses c.in-Err.refusal =
    ap (λ text. where_some phase (is_retried_as text) o) (sym c.in_ok-payload.ensures) ∙ ap (λ ph. where_some ph (is_retried_as c.in_ok-payload.payload) o) (sym c.get.ensures.is) ∙ c.in-Err.ensures.refused o in
    rw c.refused.ensures (refusal_comes v (retry v c.args.seat phase (Some pair)) c.in-Err.refusal (retry_is v c.args.seat phase pair c.requires.joined ∙ same), c.requires.ready)

pub returns : goal.returns
returns c =
    let s = c.args.store.now in
    let mid = c.put_back.new.store in
    let payload = c.in_ok-payload.payload in
    let phase = phase_of (world s) c.args.seat in
    let found = found_at c.get.result.now phase (is_retried_as payload) c.in-Ok.at c.get.ensures.is c.in-Ok.ensures.found in
    let next = staged_is s.seats mid.seats c.stage.new.self c.args.seat c.in-Ok.at (is_retried_as payload) Put c.in_ok-new.ensures.step.seats found c.stage.ensures in
    rw c.one_if.ensures (
      retry_comes (world s) (world mid) c.in_ok-new.new c.stage.new.self c.args.seat c.args.pair.0 c.args.pair.1 payload c.in-Ok.at c.requires.joined c.in_ok-payload.ensures found c.in_ok-new.ensures.answer c.in_ok-new.ensures.ok next,
      seated_ready mid c.stage.new.self (ready_after s mid c.requires.ready c.in_ok-new.ensures.step),
    )
