use Rattle.std.proofs.Common.{◌∙◌, ap, ap₂, sym}
use Rattle.std.specs.Prelude.{None}
use Rattle.sk_payload.specs.Member.{is_name}
use Rattle.sk_batch.specs.Faults.{breaks, is_full, jids_fault}
use Rattle.sk_batch.specs.declared.batch_fault.BatchFault.TheVariants.{Full}
use Rattle.sk_model.specs.World.{World}
use Rattle.sk_store.specs.Stored.{world}
use Rattle.sk_jobs.proofs.Batching.{full_told, push_kept, push_room}
use Rattle.sk_jobs.proofs.batches.check_push.Goals as goal

pub returns-then-not-are_too_much-clause-told : goal.returns-then-not-are_too_much-clause-told
returns-then-not-are_too_much-clause-told c =
    let v : World = world c.args.store.now in
    push_kept v c.args.batch.now c.args.jobs.now _ _ _
    (c.is_bid.ensures ∙ ap (is_name 64) c.bytes-bid.ensures) c.in_ok-check.ensures
    c.check_bid.ensures c.in_ok-told.ensures.told
    c.are_fit.ensures c.in_ok-check-2.ensures
    ∙ push_room v c.args.batch.now c.args.jobs.now (sym c.check_bid.ensures ∙ c.in_ok-told.ensures.kept) (sym c.are_too_much.ensures.is ∙ c.if-not-are_too_much.true)

pub returns-then-not-are_too_much-clause-room : goal.returns-then-not-are_too_much-clause-room
returns-then-not-are_too_much-clause-room c = c.are_too_much.ensures.room c.if-not-are_too_much.true

pub returns-clause-told : goal.returns-clause-told
returns-clause-told c =
    let v : World = world c.args.store.now in
    let s = (world c.args.store.now).batches in
    push_kept v c.args.batch.now c.args.jobs.now _ _ _
    (c.is_bid.ensures ∙ ap (is_name 64) c.bytes-bid.ensures) c.in_ok-check.ensures
    c.check_bid.ensures c.in_ok-told.ensures.told
    c.are_fit.ensures c.in_ok-check-2.ensures
    ∙ full_told v c.args.jobs.now _ _ _
    (c.check_new.ensures ∙ ap₂ (λ bid jids. jids_fault bid jids s (breaks (is_full s) Full None)) c.bytes-bid.ensures c.jids.ensures) c.in_ok-told-2.ensures.told
    (sym c.are_too_much.ensures.is ∙ c.if-not-are_too_much.false)
