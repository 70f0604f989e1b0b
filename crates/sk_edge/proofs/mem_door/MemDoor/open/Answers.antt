use Rattle.std.proofs.Common.{◌≡◌, ◌<◌, ◌∷◌, ◌++◌, ◌+◌, ◌∙◌, [], List, Some, arith, drop, take, get_or, length, sym, ap, subst}
use Rattle.std.specs.Prelude.{vec_len}
use Rattle.std.specs.Vec.Iter.{into_iter_items, into_iter_len}
use Rattle.std.specs.List.{AllZip}
use Rattle.std.proofs.lemmas.List.{drop-drop}
use Rattle.sk_base.specs.Memory.{Ends}
use Rattle.sk_edge.specs.Memory.{DoorView, EarView}
use Rattle.sk_edge.specs.Doors.{first_lists, IsEar, IsRoomFor}
use Rattle.sk_edge.proofs.Zips.{first_len, next_at, pop_next, push_next}
use Rattle.sk_edge.proofs.mem_door.MemDoor.open.Goals as goal

abbrev IsNext : EarView → List Ends → Type 0
IsNext = IsEar (λ e. Some e.heard) (λ e. e.kept) (λ e. e.nudged)

-- one more ear, with the next room, over the next list
pub loop-room-preserved : goal.loop-room-preserved
loop-room-preserved c =
    let old = c.loop-room.invariant.2 in
    let lists = c.args.self.now.heard in
    let all = first_lists (vec_len c.args.rooms) lists in
    let at = vec_len c.loop-room.ears in
    let count : at + into_iter_len c.loop-room.room-iterator ≡ vec_len c.args.rooms = old.count in
    let gone : into_iter_len c.next.new.self + 1 ≡ into_iter_len c.loop-room.room-iterator = c.in-Some.ensures.steps.1 in
    let fits : at < vec_len c.args.rooms = omega arith in
    let lt : at < length all = omega (arith, first_len (vec_len c.args.rooms) lists) in
    let next = pop_next IsRoomFor (into_iter_items c.next.new.self) all at [] c.in-Some.room lt
    (subst (λ z. AllZip IsRoomFor z (drop at all)) c.in-Some.ensures.steps.0 old.rooms) in
    let one : vec_len c.push_reserved.new.self ≡ at + 1 = c.push_reserved.ensures.len in
    let left : c.loop-room.self.heard ≡ drop at lists = ap (λ d. d.heard) old.left in
    let here : c.next_list.result.items ≡ get_or all at [] = c.next_list.ensures.list ∙ next_at (vec_len c.args.rooms) at lists c.loop-room.self.heard left fits in
    let hears : Some c.new.result.heard ≡ Some (get_or all at []) = ap Some (ap (λ e. e.heard) c.new.ensures ∙ here) in
    let keeps : IsRoomFor c.new.result.kept (get_or all at []) = ap (λ e. e.kept) c.new.ensures ∙ next.0 in
    let more = push_next IsNext c.loop-room.ears.items all at [] c.new.result lt old.heard (hears, keeps, ap (λ e. e.nudged) c.new.ensures) in (
      tt,
      tt,
      record {
        count = omega arith;
        room = omega (arith, old.room, c.push_reserved.ensures.capacity);
        left = c.next_list.ensures.rest ∙ ap (λ (d : DoorView). record d { heard = drop 1 d.heard }) old.left
            ∙ ap (λ (h : List (List Ends)). record c.args.self.now { heard = h }) (drop-drop 1 at lists ∙ ap (λ n. drop n lists) (sym one));
        rooms = subst (λ n. AllZip IsRoomFor (into_iter_items c.next.new.self) (drop n all)) (sym one) next.1;
        heard = subst (λ z. AllZip IsNext z (take (vec_len c.push_reserved.new.self) all)) (sym c.push_reserved.ensures.items)
            (subst (λ n. AllZip IsNext (c.loop-room.ears.items ++ c.new.result ∷ []) (take n all)) (sym one) more);
      },
    )
