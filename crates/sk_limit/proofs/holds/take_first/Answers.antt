use Rattle.std.proofs.Common.{Ok, subst}
use Rattle.sk_limit.specs.Hold.{Takes, wish_of}
use Rattle.sk_limit.proofs.Holding.{got_slot, next_behind, stopped}
use Rattle.sk_limit.proofs.holds.take_first.Goals as goal

pub returns-in-Ok-true : goal.returns-in-Ok-true
returns-in-Ok-true g c =
    let slot = c.loop-slot.slot in
    let before = g.L.Link.carried c.args.link.now c.loop-slot.link in
    let now = g.L.Link.carried c.loop-slot.link c.take.new.link in
    let taken = subst (λ b. Takes now (wish_of slot c.args.most c.args.millis) slot.slot (Ok b)) c.in-Ok-true.field-0-test (c.in-Ok-true.ensures c.args.most) in
    got_slot before now (g.L.Link.carried c.args.link.now c.take.new.link) c.args.slot slot c.args.most c.args.millis
    (g.met.L.Link.carried_more c.args.link.now c.loop-slot.link c.take.new.link) c.loop-slot-test.true c.loop-slot.invariant taken

pub loop-slot-preserved : goal.loop-slot-preserved
loop-slot-preserved g c =
    let slot = c.loop-slot.slot in
    let before = g.L.Link.carried c.args.link.now c.loop-slot.link in
    let now = g.L.Link.carried c.loop-slot.link c.take.new.link in
    let taken = subst (λ b. Takes now (wish_of slot c.args.most c.args.millis) slot.slot (Ok b)) c.in-Ok-false.field-0-test (c.in-Ok-false.ensures c.args.most) in
    next_behind before now (g.L.Link.carried c.args.link.now c.take.new.link) c.args.slot slot c.args.most c.args.millis
    (g.met.L.Link.carried_more c.args.link.now c.loop-slot.link c.take.new.link) c.loop-slot-test.true c.loop-slot.invariant taken

pub returns-in-Err : goal.returns-in-Err
returns-in-Err g c =
    let before = g.L.Link.carried c.args.link.now c.loop-slot.link in
    let now = g.L.Link.carried c.loop-slot.link c.take.new.link in
    stopped before now (g.L.Link.carried c.args.link.now c.take.new.link) c.args.slot c.loop-slot.slot c.args.most c.args.millis
    (g.met.L.Link.carried_more c.args.link.now c.loop-slot.link c.take.new.link) c.loop-slot-test.true c.loop-slot.invariant c.in-Err.fault (c.in-Err.ensures c.args.most)
