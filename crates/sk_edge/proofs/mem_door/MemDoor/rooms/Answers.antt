use Rattle.std.proofs.Common.{◌≡◌, ◌<◌, ◌∙◌, ◌++◌, ◌∷◌, [], Some, arith, get_or, take, length, sym, ap, subst}
use Rattle.std.specs.Prelude.{vec_len}
use Rattle.std.specs.List.{AllZip}
use Rattle.std.proofs.lemmas.List.{take_all}
use Rattle.sk_edge.specs.Doors.{first_lists, IsRoomFor}
use Rattle.sk_edge.proofs.Zips.{first_at, first_len, push_next}
use Rattle.sk_edge.proofs.mem_door.MemDoor.rooms.Goals as goal

-- one more room, for the next list
pub loop-self-preserved : goal.loop-self-preserved
loop-self-preserved c =
    let lists = c.args.self.now.heard in
    let all = first_lists c.args.loops lists in
    let at = vec_len c.loop-self.rooms in
    let fits : at < c.args.loops = omega arith in
    let lt : at < length all = omega (arith, first_len c.args.loops lists) in
    let sized : c.count_of-count.result ≡ length (get_or all at []) =
    c.count_of-count.ensures ∙ ap (λ k. length (get_or lists k [])) c.len-in-loop-self.ensures ∙ ap length (sym (first_at c.args.loops at lists fits)) in
    let fit : IsRoomFor c.in_ok-with_room.field-0 (get_or all at []) =
    c.in_ok-with_room.ensures ∙ ap (λ n. Some (record { items = []; room = n })) sized in
    let more = push_next IsRoomFor c.loop-self.rooms.items all at [] c.in_ok-with_room.field-0 lt c.loop-self.invariant.fit fit in
    record {
      few = omega arith;
      room = omega arith;
      fit = subst (λ z. AllZip IsRoomFor z (take (vec_len c.push_reserved.new.self) all)) (sym c.push_reserved.ensures.items)
          (subst (λ n. AllZip IsRoomFor (c.loop-self.rooms.items ++ c.in_ok-with_room.field-0 ∷ []) (take n all)) (sym c.push_reserved.ensures.len) more);
    }

-- all lists were passed
pub returns-clause-fit : goal.returns-clause-fit
returns-clause-fit c =
    let lists = c.args.self.now.heard in
    let all = first_lists c.args.loops lists in
    let whole : take (vec_len c.loop-self.rooms) all ≡ all = take_all (vec_len c.loop-self.rooms) all (omega (arith, first_len c.args.loops lists)) in
    subst (λ z. AllZip IsRoomFor c.loop-self.rooms.items z) whole c.loop-self.invariant.fit
