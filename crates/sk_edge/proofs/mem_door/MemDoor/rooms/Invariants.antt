use Rattle.std.proofs.Common.{◌≤◌, ◌-◌, take}
use Rattle.std.specs.Prelude.{vec_len, vec_capacity}
use Rattle.std.specs.List.{AllZip}
use Rattle.sk_edge.specs.Doors.{first_lists, IsRoomFor}
use Rattle.sk_edge.proofs.mem_door.MemDoor.rooms.Given as goal

abbrev pub invariant-loop-self : goal.invariant-loop-self
invariant-loop-self l =
    record {
      few : vec_len l.rooms ≤ l.loops;
      room : l.loops ≤ vec_capacity l.rooms;
      fit : AllZip IsRoomFor l.rooms.items (take (vec_len l.rooms) (first_lists l.loops l.self.heard));
    }

abbrev pub decreases-loop-self : goal.decreases-loop-self
decreases-loop-self l = l.loops - vec_len l.rooms
