use Rattle.std.proofs.Common.{ap, ◌∙◌, arith}
use Rattle.sk_batch.specs.Batched.{has_bid}
use Rattle.sk_batch.specs.States.{with_fired}
use Rattle.sk_batch.proofs.Places.{tag_moved}
use Rattle.sk_undo.specs.Versions.{edited}
use Rattle.sk_batch.specs.declared.batch.Fired.{Fired}
use Rattle.sk_batch.proofs.edits.mark_one.Goals as goal

pub returns-then-at-len-clause-list : goal.returns-then-at-len-clause-list
returns-then-at-len-clause-list c = c.set_state.ensures.list ∙ ap (λ xs. edited xs c.args.batches.now.list) (tag_moved (has_bid c.args.bid.now) (with_fired c.args.kind) c.args.batches.now.list.current c.find-at.result c.get.result.now (record { fired = c.with_kind-fired.result; numbers = c.get.result.now.0.numbers }) c.get.ensures (ap (λ (f : Fired). record { fired = f; numbers = c.get.result.now.0.numbers }) c.with_kind-fired.ensures) c.find-at.ensures.is (omega (arith, c.if-at-len.true, c.len.ensures.is)))
