use Rattle.sk_model.proofs.Tools.Outcomes.{if_ok}
use Rattle.sk_model.specs.Jobs.{each}
use Rattle.sk_model.specs.Rescue.{left_rows, rescue_row}
use Rattle.sk_store.specs.Stored.{world}
use Rattle.sk_jobs.proofs.rescues.rescue_open.Goals as goal

pub returns-clause-ok : goal.returns-clause-ok
returns-clause-ok c =
    let old = world c.args.store.now in
    if_ok _ _ c.into_reply.result (λ reply tells. tells old (world c.rescue_all.new.store) (each rescue_row old (left_rows old)) c.in_ok-report.ensures.ok) c.into_reply.ensures
