use Rattle.std.proofs.Common.{◌∙◌, ap, refl, subst, sym}
use Rattle.sk_resp.specs.declared.reply.Reply.TheVariants as reply
use Rattle.sk_resp.specs.declared.say.Say.TheVariants as say
use Rattle.sk_payload.specs.declared.head.Until.TheVariants as until
use Rattle.sk_model.specs.Change.{perform}
use Rattle.sk_model.specs.Outcome.{Realizes, Outcome}
use Rattle.sk_model.specs.Unique.{unlocks}
use Rattle.sk_model.specs.World.{phase_of}
use Rattle.sk_seats.specs.Works.{is_held_as}
use Rattle.sk_store.specs.Stored.{world}
use Rattle.sk_jobs.proofs.Working.{found_at, found_is}
use Rattle.sk_jobs.proofs.runs.start.Goals as goal

pub returns : goal.returns
returns c =
    let v = world c.args.store.now in
    let text = c.args.text.now in
    let phase = phase_of v c.args.seat in
    let found = found_at c.get.result.now phase (is_held_as text) c.in-Ok.at c.get.ensures.is c.in-Ok.ensures.found in
    let starts : Outcome = record { reply = reply.Say say.Ok; changes = unlocks until.Start text } in
    let done : Realizes v starts (reply.Say say.Ok) (world c.let_go.new.store) = record { reply_is = refl; new_is = c.let_go.ensures.world ∙ ap (perform v) c.in_ok-lock.ensures } in (
      subst (λ o. Realizes v o (reply.Say say.Ok) (world c.let_go.new.store)) (sym (found_is phase (is_held_as text) c.in-Ok.at (λ ident. starts) found)) done,
      c.let_go.ensures.ready,
    )
