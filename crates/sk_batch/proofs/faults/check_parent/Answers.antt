use Rattle.std.proofs.Common.{◌∙◌, true, false, arith, refl, sym}
use Rattle.sk_batch.specs.States.{of_lists, seen_of}
use Rattle.sk_batch.proofs.Looks.{found_nowhere, found_there}
use Rattle.sk_batch.proofs.Refusals.{parent_rules}
use Rattle.sk_batch.proofs.faults.check_parent.Goals as goal

pub returns-then-at-len : goal.returns-then-at-len
returns-then-at-len c = λ members kept.
    sym (parent_rules c.args.bid.now (of_lists (seen_of c.args.batches.now.list.current) members) _ c.args.parent.now false _ (found_nowhere c.args.batches.now.list.current c.args.parent.now c.find-at.result c.find-at.ensures.is (omega (arith, c.if-at-len.true, c.len.ensures.is))) refl refl)

pub returns-then-is_there : goal.returns-then-is_there
returns-then-is_there c = λ members kept.
    sym (parent_rules c.args.bid.now (of_lists (seen_of c.args.batches.now.list.current) members) _ c.args.parent.now true true (found_there c.args.batches.now.list.current c.args.parent.now c.find-at.result c.find-at.ensures.is (omega (arith, c.if-at-len.false, c.len.ensures.is, c.find-at.ensures.within))) (sym c.is_there.ensures ∙ c.if-is_there.true) refl)

pub returns-then-is_settled : goal.returns-then-is_settled
returns-then-is_settled c = λ members kept.
    sym (parent_rules c.args.bid.now (of_lists (seen_of c.args.batches.now.list.current) members) true c.args.parent.now true false (found_there c.args.batches.now.list.current c.args.parent.now c.find-at.result c.find-at.ensures.is (omega (arith, c.if-at-len.false, c.len.ensures.is, c.find-at.ensures.within))) (sym c.is_there.ensures ∙ c.if-is_there.false) (sym (c.is_settled.ensures members c.args.parent.now kept c.find-at.ensures.is) ∙ c.if-is_settled.true))

pub returns-else-is_settled : goal.returns-else-is_settled
returns-else-is_settled c = λ members kept.
    sym (parent_rules c.args.bid.now (of_lists (seen_of c.args.batches.now.list.current) members) false c.args.parent.now true false (found_there c.args.batches.now.list.current c.args.parent.now c.find-at.result c.find-at.ensures.is (omega (arith, c.if-at-len.false, c.len.ensures.is, c.find-at.ensures.within))) (sym c.is_there.ensures ∙ c.if-is_there.false) (sym (c.is_settled.ensures members c.args.parent.now kept c.find-at.ensures.is) ∙ c.if-is_settled.false))
