use Rattle.std.proofs.Common.{◌≡◌, ◌≤◌, ◌+◌, ◌-◌, length, vec_len, vec_capacity}
use Rattle.sk_link.specs.Wire.{WireCarries}
use Rattle.sk_launcher.specs.Connections.{door_tells}
use Rattle.sk_launcher.specs.Launching.{HiresAll, office}
use Rattle.sk_launcher.specs.Teams.{teams_of}
use Rattle.sk_launcher.specs.Working.{hired_workers, worker_settings}
use Rattle.sk_launcher.proofs.hire.hire_all.Given as goal

abbrev pub invariant-loop-alloc : goal.invariant-loop-alloc
invariant-loop-alloc g l = record {
  hired : HiresAll (WireCarries g.N.Conn.Sink.taken g.N.Conn.Source.left g.N.Conn.Source.read_faults g.N.Conn.Sink.write_faults)
      (worker_settings l.settings.ident l.settings.order l.settings.prefetch)
      (office (door_tells (g.N.Door.dialled l.fn.net) (g.N.Door.kept l.fn.net)) (teams_of (λ v. (goal.Job-dyn g v).runs v.1) l.fn.outfit.teams.items)
      l.fn.outfit.rules.items l.fn.outfit.dice.items)
      (hired_workers g.C.Clock.moments (λ v. (goal.Job-dyn g v).runs v.1) l.staff.items)
      (office (door_tells (g.N.Door.dialled l.net) (g.N.Door.kept l.net)) (teams_of (λ v. (goal.Job-dyn g v).runs v.1) l.outfit.teams.items)
      l.outfit.rules.items l.outfit.dice.items);
  few : vec_len l.staff ≤ l.settings.threads;
  teams : length l.outfit.teams.items + vec_len l.staff ≡ length l.fn.outfit.teams.items;
  rules : length l.outfit.rules.items + vec_len l.staff ≡ length l.fn.outfit.rules.items;
  dice : length l.outfit.dice.items + vec_len l.staff ≡ length l.fn.outfit.dice.items;
  room : vec_capacity l.staff ≡ vec_capacity l.fn.staff;
  later : g.N.Door.door_faults l.fn.net ≤ g.N.Door.door_faults l.net;
}

abbrev pub decreases-loop-alloc : goal.decreases-loop-alloc
decreases-loop-alloc g l = l.settings.threads - vec_len l.staff
