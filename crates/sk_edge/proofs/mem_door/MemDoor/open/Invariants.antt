use Rattle.std.proofs.Common.{◌≡◌, ◌≤◌, ◌+◌, Some, drop, take}
use Rattle.std.specs.Prelude.{vec_len, vec_capacity}
use Rattle.std.specs.List.{AllZip}
use Rattle.std.specs.Vec.Iter.{into_iter_items, into_iter_len}
use Rattle.sk_edge.specs.Doors.{first_lists, IsEar, IsRoomFor}
use Rattle.sk_edge.proofs.mem_door.MemDoor.open.Given as goal

abbrev pub invariant-loop-room : goal.invariant-loop-room
invariant-loop-room l =
    (goal.iterator-loop-room).can_next l.room-iterator ×
    (goal.iterator-loop-room).is_finite l.room-iterator ×
    record {
      count : vec_len l.ears + into_iter_len l.room-iterator ≡ vec_len l.fn.rooms;
      room : vec_len l.fn.rooms ≤ vec_capacity l.ears;
      left : l.self ≡ record l.fn.self { heard = drop (vec_len l.ears) l.fn.self.heard };
      rooms : AllZip IsRoomFor (into_iter_items l.room-iterator) (drop (vec_len l.ears) (first_lists (vec_len l.fn.rooms) l.fn.self.heard));
      heard : AllZip (IsEar (λ e. Some e.heard) (λ e. e.kept) (λ e. e.nudged)) l.ears.items (take (vec_len l.ears) (first_lists (vec_len l.fn.rooms) l.fn.self.heard));
    }
