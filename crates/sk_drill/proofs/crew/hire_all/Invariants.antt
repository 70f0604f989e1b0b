use Rattle.std.proofs.Common.{◌≡◌, ◌+◌, ◌++◌, length, map, vec_capacity, vec_len}
use Rattle.std.specs.List.{AllByRecursion}
use Rattle.sk_drill.specs.Crews.{AssignedSoFar, IsHired, IsReady, Room}
use Rattle.sk_drill.proofs.crew.hire_all.Given as goal

abbrev pub invariant-loop-i : goal.invariant-loop-i
invariant-loop-i g l = record {
  hired : AssignedSoFar (IsHired l.plan) l.fn.outfit.teams.items l.fn.outfit.rules.items l.staff.items (l.i + 1) l.outfit.teams.items l.outfit.rules.items;
  ready : AllByRecursion (IsReady g.S.Seats) l.staff.items;
  seats : map (λ w. w.seats) l.staff.items ++ l.outfit.seats.items ≡ l.fn.outfit.seats.items;
  teams : map (λ w. w.registry) l.staff.items ++ l.outfit.teams.items ≡ l.fn.outfit.teams.items;
  len : vec_len l.staff ≡ l.i;
  capacity : vec_capacity l.staff ≡ vec_capacity l.fn.staff;
  seats_left : length l.outfit.seats.items + l.i ≡ length l.fn.outfit.seats.items;
  teams_left : length l.outfit.teams.items + l.i ≡ length l.fn.outfit.teams.items;
  rules_left : length l.outfit.rules.items + l.i ≡ length l.fn.outfit.rules.items;
  room : AllByRecursion (λ s. Room (g.S.Seats.free s) (g.S.Seats.left s) l.plan.jobs) l.outfit.seats.items;
}
