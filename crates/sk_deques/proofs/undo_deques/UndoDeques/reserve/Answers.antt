use Rattle.std.proofs.Common.{arith, ◌<◌, length, slice_set, subst, sym}
use Rattle.sk_deques.specs.DequeMoves.{lists_of}
use Rattle.sk_deques.proofs.DequeViews.{length_lists}
use Rattle.sk_deques.proofs.DequeRooms.{roomier_set, roomier_sound, roomier_spaces, shown_roomier, items_set, space_set}
use Rattle.sk_deques.proofs.undo_deques.UndoDeques.reserve.Goals as goal

pub invariant_of-self-2 : goal.invariant_of-self-2
invariant_of-self-2 g c =
    let there : c.args.list < length (lists_of c.self.inside.deques.items) = subst (λ v. c.args.list < length v.lists.current) (sym c.self.view_is) c.requires in
    let deque : c.args.list < length c.self.inside.deques.items = omega (arith, length_lists c.self.inside.deques.items, there) in
    let more = roomier_set c.self.inside.deques.items c.args.list c.index_mut.result.now c.reserve-2.new.self deque c.index_mut.ensures.value c.reserve-2.ensures.items c.reserve-2.ensures.space in
    rw (c.in_ok-reserve.ensures.items) (roomier_sound c.self.inside.log.items c.self.inside.deques.items (slice_set c.self.inside.deques.items c.args.list c.reserve-2.new.self) c.self.inside.in_step more c.self.invariant)

pub returns-clause-lists : goal.returns-clause-lists
returns-clause-lists g c =
    let there : c.args.list < length (lists_of c.self.inside.deques.items) = subst (λ v. c.args.list < length v.lists.current) (sym c.self.view_is) c.requires in
    let deque : c.args.list < length c.self.inside.deques.items = omega (arith, length_lists c.self.inside.deques.items, there) in
    let more = roomier_set c.self.inside.deques.items c.args.list c.index_mut.result.now c.reserve-2.new.self deque c.index_mut.ensures.value c.reserve-2.ensures.items c.reserve-2.ensures.space in
    rw (c.in_ok-reserve.ensures.items, ← c.self.view_is) (shown_roomier c.self.inside.in_step c.self.inside.log.items c.self.inside.deques.items (slice_set c.self.inside.deques.items c.args.list c.reserve-2.new.self) more)

pub returns-clause-spaces : goal.returns-clause-spaces
returns-clause-spaces g c =
    let there : c.args.list < length (lists_of c.self.inside.deques.items) = subst (λ v. c.args.list < length v.lists.current) (sym c.self.view_is) c.requires in
    let deque : c.args.list < length c.self.inside.deques.items = omega (arith, length_lists c.self.inside.deques.items, there) in
    let more = roomier_set c.self.inside.deques.items c.args.list c.index_mut.result.now c.reserve-2.new.self deque c.index_mut.ensures.value c.reserve-2.ensures.items c.reserve-2.ensures.space in
    λ other. rw (← c.self.view_is) (roomier_spaces c.self.inside.deques.items (slice_set c.self.inside.deques.items c.args.list c.reserve-2.new.self) other more)

pub returns-clause-items : goal.returns-clause-items
returns-clause-items g c =
    let there : c.args.list < length (lists_of c.self.inside.deques.items) = subst (λ v. c.args.list < length v.lists.current) (sym c.self.view_is) c.requires in
    let deque : c.args.list < length c.self.inside.deques.items = omega (arith, length_lists c.self.inside.deques.items, there) in
    rw (items_set c.self.inside.deques.items c.args.list c.reserve-2.new.self deque, space_set c.self.inside.deques.items c.args.list c.reserve-2.new.self deque) c.reserve-2.ensures.ok
