use Rattle.std.proofs.Common.{refl, subst}
use Rattle.sk_middle.specs.Applied.{applied}
use Rattle.sk_app.specs.Pushing.{Hands, spoke}
use Rattle.sk_app.proofs.PushRuns.{halts, no_draft, no_line, no_memory}
use Rattle.sk_app.proofs.push.outcome_by.Goals as goal

pub returns-in_err-line-clause-told : goal.returns-in_err-line-clause-told
returns-in_err-line-clause-told g c = no_line _ _ _ _ _ c.in_err-line.field-0.0 c.from_residual.result c.from_residual.ensures.1 c.in_err-line.ensures refl

pub returns-in_err-job-clause-told : goal.returns-in_err-job-clause-told
returns-in_err-job-clause-told g c = no_memory _ _ _ _ _ c.from_residual-in_err-job.result c.from_residual-in_err-job.ensures.1

pub returns-in_err-line-2-clause-told : goal.returns-in_err-line-2-clause-told
returns-in_err-line-2-clause-told g c = no_memory _ _ _ _ _ c.from_residual-in_err-line-2.result c.from_residual-in_err-line-2.ensures.1

pub returns-in_default-clause-told : goal.returns-in_default-clause-told
returns-in_default-clause-told g c =
    let j = c.in_ok-job.ensures in
    halts _ _ _ _ _ c.in_ok-line-2.field-0 c.in_ok-line-2.ensures
    (record {
      line = c.in_ok-line.line;
      moment = j.0;
      first = j.1;
      second = j.2;
      job = c.in_ok-job.job;
      is_line = c.in_ok-line.ensures;
      drawn = (j.3, j.4);
      is_job = j.5;
      handed = subst (λ n. Hands (applied c.args.chain.now) c.in_ok-job.job n) c.in_default.is c.hand_on.ensures;
    })
    refl

pub returns-in_err-try_draft-clause-told : goal.returns-in_err-try_draft-clause-told
returns-in_err-try_draft-clause-told g c =
    let j = c.in_ok-job.ensures in
    no_draft _ _ _ _ _ c.in-Some.job c.in_err-try_draft.field-0.0 c.from_residual-in_err-try_draft.result
    (record {
      line = c.in_ok-line.line;
      moment = j.0;
      first = j.1;
      second = j.2;
      job = c.in_ok-job.job;
      is_line = c.in_ok-line.ensures;
      drawn = (j.3, j.4);
      is_job = j.5;
      handed = subst (λ n. Hands (applied c.args.chain.now) c.in_ok-job.job n) c.in-Some.is c.hand_on.ensures;
    })
    c.from_residual-in_err-try_draft.ensures.1 c.in_err-try_draft.ensures.err refl

pub returns-clause-told : goal.returns-clause-told
returns-clause-told g c =
    let j = c.in_ok-job.ensures in
    spoke c.in-Some.job c.dial.result
    (record {
      line = c.in_ok-line.line;
      moment = j.0;
      first = j.1;
      second = j.2;
      job = c.in_ok-job.job;
      is_line = c.in_ok-line.ensures;
      drawn = (j.3, j.4);
      is_job = j.5;
      handed = subst (λ n. Hands (applied c.args.chain.now) c.in_ok-job.job n) c.in-Some.is c.hand_on.ensures;
    })
    c.dial.ensures.told
