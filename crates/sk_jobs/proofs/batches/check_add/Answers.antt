use Rattle.std.proofs.Common.{◌∙◌, ap, sym}
use Rattle.std.specs.Prelude.{None}
use Rattle.sk_batch.specs.Faults.{jids_fault}
use Rattle.sk_model.specs.World.{World}
use Rattle.sk_store.specs.Stored.{world}
use Rattle.sk_jobs.proofs.Batching.{add_kept, add_room, full_told}
use Rattle.sk_jobs.proofs.batches.check_add.Goals as goal

pub returns-then-not-are_too_much-clause-told : goal.returns-then-not-are_too_much-clause-told
returns-then-not-are_too_much-clause-told c =
    let v : World = world c.args.store.now in
    add_kept v c.args.bid.now c.args.jobs.now _ _
    c.check_batch.ensures c.in_ok-told.ensures.told
    c.may_join.ensures c.in_ok-check.ensures
    ∙ add_room v c.args.bid.now c.args.jobs.now (sym c.check_batch.ensures ∙ c.in_ok-told.ensures.kept) (sym c.are_too_much.ensures.is ∙ c.if-not-are_too_much.true)

pub returns-then-not-are_too_much-clause-room : goal.returns-then-not-are_too_much-clause-room
returns-then-not-are_too_much-clause-room c = c.are_too_much.ensures.room c.if-not-are_too_much.true

pub returns-clause-told : goal.returns-clause-told
returns-clause-told c =
    let v : World = world c.args.store.now in
    add_kept v c.args.bid.now c.args.jobs.now _ _
    c.check_batch.ensures c.in_ok-told.ensures.told
    c.may_join.ensures c.in_ok-check.ensures
    ∙ full_told v c.args.jobs.now _ _ _
    (c.check_jids.ensures ∙ ap (λ jids. jids_fault c.args.bid.now jids (world c.args.store.now).batches None) c.jids.ensures) c.in_ok-told-2.ensures.told
    (sym c.are_too_much.ensures.is ∙ c.if-not-are_too_much.false)
