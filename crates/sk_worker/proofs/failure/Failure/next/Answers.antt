use Rattle.std.proofs.Common.{◌≡◌, subst, Some}
use Rattle.sk_payload.specs.Failed.{failed as failed_text}
use Rattle.sk_worker.proofs.Walks.{ok_no_err}
use Rattle.sk_worker.proofs.failure.Failure.next.Goals as goal

pub returns-in-Ok-clause-ok : goal.returns-in-Ok-clause-ok
returns-in-Ok-clause-ok g c =
    let next = c.in-Ok.next in
    let payload = c.args.self.now.job.payload.now in
    let raised = c.args.self.now.raised in
    let now_ = c.args.now in (
      subst (λ m. failed_text payload now_ raised.class m ≡ Some next) c.text-message.ensures
          (subst (λ m. failed_text payload now_ m c.text-message.result.now ≡ Some next) c.text-class.ensures c.in-Ok.ensures.text),
      λ last. ok_no_err next _ (c.in-Ok.ensures.limit.1 last),
    )
