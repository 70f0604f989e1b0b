use Rattle.std.proofs.Common.{◌%◌, [], ◌∷◌, map, refl, subst}
use Rattle.sk_policy.specs.Decision.{decision}
use Rattle.sk_worker.specs.Event.{Choice, asked, chose}
use Rattle.sk_worker.specs.Stage.{JobTranscript, failed, decided, chooses}
use Rattle.sk_worker.proofs.Events.{parts_choice}
use Rattle.sk_worker.proofs.Walks.{job_later}
use Rattle.sk_worker.proofs.failure.Failure.choose.Goals as goal

pub returns : goal.returns
returns g c = λ w e.
    let payload = c.args.self.now.job.payload.now in
    let head = c.args.self.now.head.now in
    let raised = c.args.self.now.raised in
    let t = c.put_away.ensures w e in
    let choice : Choice = record { class = head.class; count = head.gen_; moment = c.now-now.result; word = c.word-word.result; delay = c.delay-delay.result } in (
      chose choice ∷ map asked t.0,
      parts_choice choice t.0 t.1 refl (_, c.now-now.ensures, refl) (_, c.word-word.ensures, refl) ((refl, c.delay-delay.ensures.answer), tt),
      job_later w (failed payload head raised)
          (decided payload raised c.now-now.result (decision head c.now-now.result (c.word-word.result % 10) c.delay-delay.result))
          (chose choice ∷ []) (map asked t.0) c.put_away.result
          (_, chooses payload head raised c.now-now.result c.word-word.result c.delay-delay.result, refl)
          (subst (λ d. JobTranscript w (decided payload raised c.now-now.result d) (map asked t.0) c.put_away.result) c.decide-decision.ensures t.2),
    )
