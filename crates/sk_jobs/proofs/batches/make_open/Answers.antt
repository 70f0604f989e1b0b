use Rattle.std.proofs.Common.{◌≤◌, ◌^◌, length, ◌≡◌, ◌∙◌, None, ap, arith, sym}
use Rattle.std.proofs.lemmas.Result.{IfOk-at_ok, IfErr-at_err}
use Rattle.sk_value.specs.Answer.{texts}
use Rattle.sk_batch.specs.Events.{made, made_fires}
use Rattle.sk_batch.specs.Faults.{make_fault}
use Rattle.sk_undo.specs.Versions.{edited}
use Rattle.sk_model.specs.Batches.{jids_of, make, push_jobs, unless}
use Rattle.sk_model.specs.Change.{perform}
use Rattle.sk_model.specs.Notify.{fired_texts}
use Rattle.sk_model.specs.Outcome.{Realizes}
use Rattle.sk_model.proofs.Tools.Outcomes.{if_ok}
use Rattle.sk_store.specs.Stored.{world}
use Rattle.sk_jobs.proofs.Batching.{done_comes, make_is, told_comes}
use Rattle.sk_jobs.proofs.Calling.{with_batched}
use Rattle.sk_jobs.proofs.Covering.{jobs_inner, made_fits}
use Rattle.sk_jobs.proofs.batches.make_open.Goals as goal

pub returns-in-Err-clause-ok : goal.returns-in-Err-clause-ok
returns-in-Err-clause-ok c =
    let batch = c.args.batch in
    let w = world c.args.store.now in
    let jids : c.jobs.inside.jids.items ≡ jids_of c.args.jobs = c.jobs.invariant.0 ∙ ap jids_of c.jobs.view_is in
    let same = IfErr-at_err (λ _. c.make_batch.new.batches ≡ c.args.store.now.batches) c.in-Err.is c.in_ok-made.ensures.same in
    told_comes w (with_batched c.make_batch.new.batches.current w) (make batch c.args.jobs) _ c.in_ok-made.made c.in-Err.say c.in-Err.is
    (λ p. ap (λ js. unless (make_fault batch.bid batch.parent js w.batches) p) (sym jids) ∙ c.in_ok-made.ensures.told.told p) (ap (λ s. with_batched s.current w) same)

pub returns-clause-ok : goal.returns-clause-ok
returns-clause-ok c =
    let batch = c.args.batch in
    let w = world c.args.store.now in
    let b = c.make_batch.new.batches in
    let jids : c.jobs.inside.jids.items ≡ jids_of c.args.jobs = c.jobs.invariant.0 ∙ ap jids_of c.jobs.view_is in
    let kept = IfOk-at_ok (λ _. make_fault batch.bid batch.parent c.jobs.inside.jids.items w.batches ≡ None) c.in-Ok.is c.in_ok-made.ensures.told.kept in
    let clear : make_fault batch.bid batch.parent (jids_of c.args.jobs) w.batches ≡ None = ap (λ js. make_fault batch.bid batch.parent js w.batches) (sym jids) ∙ kept in
    let fires : c.in-Ok.firings.items ≡ made_fires batch (jids_of c.args.jobs) = IfOk-at_ok (λ firings. firings.items ≡ made_fires batch c.jobs.inside.jids.items) c.in-Ok.is c.in_ok-made.ensures.fires ∙ ap (made_fires batch) jids in
    let done = IfOk-at_ok (λ _. b ≡ edited (made batch c.jobs.inside.jids.items w.batches) c.args.store.now.batches) c.in-Ok.is c.in_ok-made.ensures.ok in
    let batches = ap (λ s. s.current) done ∙ ap (λ js. made batch js w.batches) jids in
    let pushed = c.in_ok-push_jobs.ensures.ok ∙ ap (λ ts. perform (with_batched b.current w) (push_jobs ts)) c.jobs.view_is in
    if_ok _ _ c.as_reply.result
    (λ reply e.
    let comes : Realizes w (make batch c.args.jobs) reply (world c.push_callbacks.new.store) = record {
      reply_is = e ∙ ap texts (c.in_ok-fired.ensures.texts ∙ ap fired_texts fires);
      new_is = make_is w (world c.push_jobs.new.store) (world c.push_callbacks.new.store) b.current batch c.args.jobs c.in-Ok.firings.items fires batches pushed c.in_ok-fired.ensures.ok;
    } in
    done_comes w (world c.push_callbacks.new.store) (make batch c.args.jobs) _ reply clear comes)
    c.as_reply.ensures

pub push_callbacks-requires : goal.push_callbacks-requires
push_callbacks-requires c =
    let batch = c.args.batch in
    let w = world c.args.store.now in
    let b = c.make_batch.new.batches in
    let mid = world c.push_jobs.new.store in
    let jids : c.jobs.inside.jids.items ≡ jids_of c.args.jobs = c.jobs.invariant.0 ∙ ap jids_of c.jobs.view_is in
    let kept = IfOk-at_ok (λ _. make_fault batch.bid batch.parent c.jobs.inside.jids.items w.batches ≡ None) c.in-Ok.is c.in_ok-made.ensures.told.kept in
    let clear : make_fault batch.bid batch.parent (jids_of c.args.jobs) w.batches ≡ None = ap (λ js. make_fault batch.bid batch.parent js w.batches) (sym jids) ∙ kept in
    let fires : c.in-Ok.firings.items ≡ made_fires batch (jids_of c.args.jobs) = IfOk-at_ok (λ firings. firings.items ≡ made_fires batch c.jobs.inside.jids.items) c.in-Ok.is c.in_ok-made.ensures.fires ∙ ap (made_fires batch) jids in
    let done = IfOk-at_ok (λ _. b ≡ edited (made batch c.jobs.inside.jids.items w.batches) c.args.store.now.batches) c.in-Ok.is c.in_ok-made.ensures.ok in
    let few : length b.current.batches ≤ 2 ^ 60 = omega (arith, c.len-batches.ensures.is, c.len-batches.ensures.few) in
    let inner = ap (λ u. u.tally.inner) c.in_ok-push_jobs.ensures.ok ∙ jobs_inner (with_batched b.current w) c.jobs.inside.payloads.items in
    made_fits mid.tally w.tally.inner w.batches b.current batch (jids_of c.args.jobs) c.in-Ok.firings.items clear c.requires.covered inner
    fires (ap (λ t. t.current) done ∙ ap (λ js. made batch js w.batches) jids) c.push_count-pushes.ensures.outside few
