use Rattle.std.proofs.Common.{[], ◌∷◌, ◌∙◌, ap, refl, subst, sym}
use Rattle.sk_resp.specs.declared.reply.Reply.TheVariants as reply
use Rattle.sk_resp.specs.declared.say.Say.TheVariants as say
use Rattle.sk_model.specs.Change.{Turns}
use Rattle.sk_model.specs.Outcome.{Realizes, Outcome}
use Rattle.sk_model.specs.World.{phase_of}
use Rattle.sk_seats.specs.Phases.{staging, turned}
use Rattle.sk_seats.specs.Works.{is_held_as}
use Rattle.sk_seats.specs.declared.work.End.TheVariants.{Discarded}
use Rattle.sk_seats.specs.declared.work.Stage.TheVariants.{Settled}
use Rattle.sk_seats.proofs.Working.{staging_is}
use Rattle.sk_store.specs.Stored.{world}
use Rattle.sk_jobs.proofs.Turning.{with_phases}
use Rattle.sk_jobs.proofs.Working.{found_at, found_is}
use Rattle.sk_jobs.proofs.runs.discard.Goals as goal

pub returns-clause-done : goal.returns-clause-done
returns-clause-done c =
    let w = world c.args.store.now in
    let text = c.args.text.now in
    let phase = phase_of w c.args.seat in
    let found = found_at c.get.result.now phase (is_held_as text) c.in-Ok.at c.get.ensures.is c.in-Ok.ensures.found in
    let turns = ap (λ ph. turned c.args.seat ph w.phases) (staging_is (is_held_as text) (Settled Discarded) phase c.in-Ok.at found.is) in
    let drops : Outcome = record { reply = reply.Say say.Ok; changes = Turns c.args.seat (staging (is_held_as text) (Settled Discarded) phase) ∷ [] } in
    subst (λ o. Realizes w o (reply.Say say.Ok) (with_phases c.stage.new.self w)) (sym (found_is phase (is_held_as text) c.in-Ok.at (λ ident. drops) found))
    (record { reply_is = refl; new_is = ap (λ p. with_phases p w) (c.stage.ensures ∙ turns) })
