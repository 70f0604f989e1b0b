use Rattle.std.proofs.Common.{◌≡◌, not, filter, length, sym, ◌∙◌, ap, arith}
use Rattle.sk_table.specs.Slots.{goes_to}
use Rattle.sk_table.proofs.Growth.{no_rest, two_parts}
use Rattle.sk_table.proofs.bucket.Bucket.part.Goals as goal

pub loop-slot-init : goal.loop-slot-init
loop-slot-init g c =
    let goes = goes_to c.args.half c.args.address in
    let slots = c.self.inside.slots.items in
    let rest_is : c.into_iter-slot-iterator.result.rest.items ≡ slots = c.into_iter-slot-iterator.ensures.into_iter_gives.0 ∙ ap (λ v. v.items) c.replace-slot-items.ensures.value in
    let counted = c.count_going-going.ensures.is in
    let no_far = c.in_ok-far.ensures.len in
    let far_room = c.in_ok-far.ensures.capacity in
    let far_rest = ap (λ l. length (filter goes l)) rest_is in
    let parts = two_parts goes slots in
    let total = c.len.ensures in
    let ok = c.self.inside.slots.ok.0 in
    let no_near = c.in_ok-near.ensures.len in
    let near_room = c.in_ok-near.ensures.capacity in
    let near_rest = ap (λ l. length (filter (λ slot. not (goes slot)) l)) rest_is in
    (c.in_ok-far.ensures.items, c.in_ok-near.ensures.items, grind (arith, counted, no_far, far_room, far_rest), grind (arith, counted, no_near, near_room, near_rest, parts, total, ok), sym (rest_is ∙ c.self.view_is))

pub push_reserved-requires : goal.push_reserved-requires
push_reserved-requires g c =
    let steps = c.in-Some.ensures.steps in
    let goes = c.if-goes_to.ensures in
    let room = c.loop-slot.invariant.2 in
    grind (arith, steps, goes, room)

pub push_reserved-requires-else-goes_to : goal.push_reserved-requires-else-goes_to
push_reserved-requires-else-goes_to g c =
    let steps = c.in-Some.ensures.steps in
    let goes = c.if-goes_to.ensures in
    let room = c.loop-slot.invariant.3 in
    grind (arith, steps, goes, room)

pub returns-clause-near : goal.returns-clause-near
returns-clause-near g c =
    let none = c.in-None.ensures.steps.0 in
    let ok = c.loop-slot.slot-iterator.rest.ok in
    let all = c.loop-slot.invariant.4 in
    c.loop-slot.invariant.1 ∙ ap (filter (λ slot. not (goes_to c.args.half c.args.address slot))) (no_rest c.loop-slot.yielded c.loop-slot.slot-iterator.rest.items (sym ok.0 ∙ none) ∙ sym all)
