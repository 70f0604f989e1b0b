use Rattle.std.proofs.Common.{◌≡◌, ◌∙◌, None, ap, length, sym}
use Rattle.std.proofs.lemmas.Result.{IfOk-at_ok, IfErr-at_err}
use Rattle.sk_value.specs.Answer.{counted}
use Rattle.sk_batch.specs.Events.{joined}
use Rattle.sk_batch.specs.Faults.{add_fault}
use Rattle.sk_undo.specs.Versions.{edited}
use Rattle.sk_model.specs.Batches.{jids_of, join, push_jobs, unless}
use Rattle.sk_model.specs.Change.{perform}
use Rattle.sk_store.specs.Stored.{world}
use Rattle.sk_jobs.proofs.Batching.{done_comes, told_comes}
use Rattle.sk_jobs.proofs.Calling.{with_batched}
use Rattle.sk_jobs.proofs.batches.join_open.Goals as goal

pub returns-in-Err-clause-ok : goal.returns-in-Err-clause-ok
returns-in-Err-clause-ok c =
    let bid = c.args.bid.now in
    let w = world c.args.store.now in
    let jids : c.jobs.inside.jids.items ≡ jids_of c.args.jobs = c.jobs.invariant.0 ∙ ap jids_of c.jobs.view_is in
    let same = IfErr-at_err (λ _. c.add_jobs.new.batches ≡ c.args.store.now.batches) c.in-Err.is c.in_ok-added.ensures.same in
    told_comes w (with_batched c.add_jobs.new.batches.current w) (join bid c.args.jobs) _ c.in_ok-added.added c.in-Err.say c.in-Err.is
    (λ p. ap (λ js. unless (add_fault bid js w.batches) p) (sym jids) ∙ c.in_ok-added.ensures.told.told p) (ap (λ s. with_batched s.current w) same)

pub returns-clause-ok : goal.returns-clause-ok
returns-clause-ok c =
    let w = world c.args.store.now in
    let bid = c.args.bid.now in
    let b = c.add_jobs.new.batches in
    let jids : c.jobs.inside.jids.items ≡ jids_of c.args.jobs = c.jobs.invariant.0 ∙ ap jids_of c.jobs.view_is in
    let kept = IfOk-at_ok (λ _. add_fault bid c.jobs.inside.jids.items w.batches ≡ None) c.in_default.is c.in_ok-added.ensures.told.kept in
    let clear : add_fault bid (jids_of c.args.jobs) w.batches ≡ None = ap (λ js. add_fault bid js w.batches) (sym jids) ∙ kept in
    let done = IfOk-at_ok (λ _. b ≡ edited (joined bid c.jobs.inside.jids.items w.batches) c.args.store.now.batches) c.in_default.is c.in_ok-added.ensures.ok in
    let batches = ap (λ s. s.current) done ∙ ap (λ js. joined bid js w.batches) jids in
    done_comes w (world c.push_jobs.new.store) (join bid c.args.jobs) _ c.counted.result clear (record {
      reply_is = c.counted.ensures ∙ ap counted (c.len-count.ensures ∙ c.jobs.inside.payloads.ok.0 ∙ ap length c.jobs.view_is);
      new_is = c.in_ok-push_jobs.ensures.ok ∙ ap (λ ts. perform (with_batched b.current w) (push_jobs ts)) c.jobs.view_is ∙ ap (λ b. perform (with_batched b w) (push_jobs c.args.jobs)) batches;
    })
