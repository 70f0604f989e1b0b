use Rattle.std.proofs.Common.{codes, subst, sym}
use Rattle.sk_link.specs.declared.asking.Answer.TheVariants as answer
use Rattle.sk_worker.specs.Request.{script_words, retry_words}
use Rattle.sk_worker.specs.Stage.{Line, decided, releasing, drop, bury, retry}
use Rattle.sk_worker.specs.declared.turn.Turn.TheVariants as turn
use Rattle.sk_worker.proofs.Walks.{no_next, bury_is_kept, retry_is_kept}
use Rattle.sk_worker.proofs.failure.Failure.put_away.Goals as goal

pub returns-in-Discard : goal.returns-in-Discard
returns-in-Discard g c =
    let payload = c.args.self.now.job.payload.now in
    let raised = c.args.self.now.raised in
    let request = script_words (codes "SK.DROP") payload in
    c.place.ensures (decided payload raised c.args.now c.args.decision) (
      request,
      c.script-words.ensures,
      λ w. subst (λ d. Line w (decided payload raised c.args.now d) request answer.Okay (λ _. releasing payload turn.Discarded)) (sym c.in-Discard.is) (drop payload raised c.args.now),
    )

pub returns-in-Ok : goal.returns-in-Ok
returns-in-Ok g c =
    let payload = c.args.self.now.job.payload.now in
    let raised = c.args.self.now.raised in
    c.bury.ensures (decided payload raised c.args.now c.args.decision)
    (λ w. subst (λ d. Line w (decided payload raised c.args.now d) (script_words (codes "SK.BURY") c.in-Ok.next) answer.Report (λ _. releasing payload turn.Buried)) (sym c.in-Bury.is)
    (bury payload c.in-Ok.next raised c.args.now c.in-Ok.ensures.ok))

pub returns-in-Err : goal.returns-in-Err
returns-in-Err g c = λ w e.
    no_next (λ cs. g.L.Link.carried c.args.link.now c.args.link.now cs) w c.args.self.now.job.payload.now c.args.self.now.raised c.args.now c.args.decision c.in-Err.fault
    (bury_is_kept c.args.decision c.in-Bury.is) c.in-Err.ensures.err (g.met.L.Link.carried_none _)

pub returns-in-Ok-next : goal.returns-in-Ok-next
returns-in-Ok-next g c =
    let payload = c.args.self.now.job.payload.now in
    let raised = c.args.self.now.raised in
    let request = retry_words c.in-Retry.score c.in-Ok-next.next in
    c.place-in-Ok-next.ensures (decided payload raised c.args.now c.args.decision) (
      request,
      c.retry_request-words.ensures,
      λ w. subst (λ d. Line w (decided payload raised c.args.now d) request answer.Number (λ _. releasing payload turn.Retried)) (sym c.in-Retry.is)
          (retry payload c.in-Ok-next.next raised c.args.now c.in-Retry.score c.in-Ok-next.ensures.ok),
    )

pub returns-in-Err-next : goal.returns-in-Err-next
returns-in-Err-next g c = λ w e.
    no_next (λ cs. g.L.Link.carried c.args.link.now c.args.link.now cs) w c.args.self.now.job.payload.now c.args.self.now.raised c.args.now c.args.decision c.in-Err-next.fault
    (retry_is_kept c.args.decision c.in-Retry.score c.in-Retry.is) c.in-Err-next.ensures.err (g.met.L.Link.carried_none _)
