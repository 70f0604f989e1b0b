use Rattle.std.proofs.Common.{◌≡◌, ℕ, List, take, get_or, arith, subst, sym}
use Rattle.sk_client.proofs.Slices.{IsSlice-early, room_behind}
use Rattle.sk_client.proofs.bulk.slice_len.Goals as goal

pub returns-then-size-room-clause-slice : goal.returns-then-size-room-clause-slice
returns-then-size-room-clause-slice c =
    let part = take c.min-end.result c.args.texts.now in
    let item = subst (λ (t : List ℕ). t ≡ get_or part c.loop-n.n t) (sym c.bytes-size.ensures) c.text-item.is in
    IsSlice-early c.args.queue.now c.args.most c.min-end.result c.loop-n.n c.loop-n.room c.args.texts.now c.bytes-size.result.now (omega arith) c.requires.name
    c.requires.short c.loop-n.invariant c.loop-n-test.true item (omega arith)

pub loop-n-preserved : goal.loop-n-preserved
loop-n-preserved c =
    let part = take c.min-end.result c.args.texts.now in
    let item = subst (λ (t : List ℕ). t ≡ get_or part c.loop-n.n t) (sym c.bytes-size.ensures) c.text-item.is in
    room_behind c.args.queue.now c.loop-n.n c.loop-n.room part c.bytes-size.result.now c.loop-n.invariant c.loop-n-test.true item (omega arith)
