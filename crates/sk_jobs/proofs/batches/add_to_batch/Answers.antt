use Rattle.std.proofs.Common.{◌∙◌, ap, ap₂, subst, sym}
use Rattle.sk_resp.specs.Spelling.{Bytes}
use Rattle.sk_model.specs.Batches.{batch_add}
use Rattle.sk_store.proofs.Steps.{whole}
use Rattle.sk_store.specs.Stored.{Executes, world}
use Rattle.sk_jobs.specs.Batching.{try_join}
use Rattle.sk_jobs.proofs.batches.add_to_batch.Goals as goal

pub returns : goal.returns
returns c =
    let old = c.args.store.now in
    let jobs = c.in_ok-jobs.jobs in
    let same = ap₂ (batch_add (world old)) (sym c.bytes.ensures) (sym c.in_ok-jobs.ensures) ∙ c.in_default.ensures.told ∙ ap (λ (b : Bytes). try_join b jobs (world old)) (c.bytes.ensures ∙ sym c.bytes-2.ensures) in
    subst (λ o. Executes old o c.close.result c.close.new.self) (sym same)
    (whole old c.begin.new.self c.join_open-done.new.store c.close.new.self (try_join c.bytes-2.result.now jobs) c.join_open-done.result c.close.result
    c.requires c.begin.ensures c.join_open-done.ensures.step c.join_open-done.ensures.ok c.close.ensures.same c.close.ensures.ok c.close.ensures.err)
