use Rattle.std.proofs.Common.{[], ◌∷◌, map, refl, codes}
use Rattle.sk_link.specs.Call.{Call, answered}
use Rattle.sk_link.specs.declared.asking.Answer.TheVariants as answer
use Rattle.sk_worker.specs.Event.{asked}
use Rattle.sk_worker.specs.Promises.{failed_stage}
use Rattle.sk_worker.specs.Request.{script_words}
use Rattle.sk_worker.proofs.Events.{parts_call, parts_calls}
use Rattle.sk_worker.proofs.Walks.{said, job_unsaid, job_later}
use Rattle.sk_worker.proofs.failure.Failure.fail.Goals as goal

pub returns-in-Ok : goal.returns-in-Ok
returns-in-Ok g c = λ w from e line.
    let request = script_words (codes "SK.FAIL") c.args.self.now.job.payload.now in
    let call : Call = answered request c.in-Ok.field-0 in
    let s = c.in-Ok.ensures request c.script-words.ensures in
    let t = c.choose.ensures w e in (
      asked call ∷ t.0,
      parts_call call t.0 (λ cs more. g.met.L.Link.carried_more _ _ _ (call ∷ []) cs s.0 more) t.1,
      job_later w from (failed_stage c.args.self.now) (asked call ∷ []) t.0 c.choose.result
          (said w from request answer.List _ c.in-Ok.field-0 line s.1) t.2,
    )

pub returns : goal.returns
returns g c = λ w from e line.
    let request = script_words (codes "SK.FAIL") c.args.self.now.job.payload.now in
    let t = job_unsaid (λ cs. g.L.Link.carried c.args.link.now c.say.new.link cs) w
    from request answer.List (λ _. failed_stage c.args.self.now) c.in-Err.fault line (c.in-Err.ensures request c.script-words.ensures) in
    (map asked t.0, parts_calls t.0 t.1 refl refl refl tt, t.2)
