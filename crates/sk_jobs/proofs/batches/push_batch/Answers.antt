use Rattle.std.proofs.Common.{◌∙◌, ap₂, subst, sym}
use Rattle.sk_model.specs.Batches.{batch_push}
use Rattle.sk_store.proofs.Steps.{whole}
use Rattle.sk_store.specs.Stored.{Executes, world}
use Rattle.sk_jobs.specs.Batching.{try_make}
use Rattle.sk_jobs.proofs.batches.push_batch.Goals as goal

pub returns : goal.returns
returns c =
    let old = c.args.store.now in
    let same = ap₂ (batch_push (world old)) (sym c.in_ok-batch.ensures) (sym c.in_ok-jobs.ensures) ∙ c.in_default.ensures.told in
    subst (λ o. Executes old o c.close.result c.close.new.self) (sym same)
    (whole old c.begin.new.self c.make_open-done.new.store c.close.new.self (try_make c.in_ok-batch.batch c.in_ok-jobs.jobs) c.make_open-done.result c.close.result
    c.requires.ready c.begin.ensures c.make_open-done.ensures.step c.make_open-done.ensures.ok c.close.ensures.same c.close.ensures.ok c.close.ensures.err)
