use Rattle.std.proofs.Common.{◌≡◌, ◌≤◌, ◌+◌, List, length, vec_len, vec_capacity}
use Rattle.std.specs.List.{AllZip}
use Rattle.sk_link.specs.Wire.{WireCarries, WireState}
use Rattle.sk_launcher.specs.Connections.{Each, Keeping, door_tells}
use Rattle.sk_launcher.specs.Launching.{AllReturned, Leaves, returned}
use Rattle.sk_launcher.specs.Teams.{teams_of}
use Rattle.sk_launcher.specs.Working.{WorkState, hired_worker}
use Rattle.sk_launcher.proofs.dismiss.dismiss_all.Given as goal

abbrev pub invariant-loop-worker : goal.invariant-loop-worker
invariant-loop-worker g l = record {
  gone : (gone : List (WorkState (WireState g.row.N-Conn.Denot) _ _))
      × AllZip (λ w gone. Leaves (WireCarries g.N.Conn.Sink.taken g.N.Conn.Source.left g.N.Conn.Source.read_faults g.N.Conn.Sink.write_faults)
      (hired_worker g.C.Clock.moments (λ v. (goal.Job-dyn g v).runs v.1) w) gone) l.yielded gone
      × Each (λ a gone b. Keeping a gone.link.conn b) (door_tells (g.N.Door.dialled l.fn.net) (g.N.Door.kept l.fn.net)) gone
      (door_tells (g.N.Door.dialled l.net) (g.N.Door.kept l.net))
      × AllReturned gone (returned (teams_of (λ v. (goal.Job-dyn g v).runs v.1) l.fn.returns.teams.items) l.fn.returns.rules.items l.fn.returns.tallies.items l.fn.returns.faults.items)
      (returned (teams_of (λ v. (goal.Job-dyn g v).runs v.1) l.returns.teams.items) l.returns.rules.items l.returns.tallies.items l.returns.faults.items);
  rules : vec_capacity l.returns.rules ≡ vec_capacity l.fn.returns.rules;
  some_rules : vec_len l.returns.rules + length l.worker-iterator.rest.items ≡ vec_len l.fn.returns.rules + vec_len l.fn.staff;
  teams : vec_capacity l.returns.teams ≡ vec_capacity l.fn.returns.teams;
  tallies : vec_capacity l.returns.tallies ≡ vec_capacity l.fn.returns.tallies;
  faults : vec_capacity l.returns.faults ≡ vec_capacity l.fn.returns.faults;
  some_teams : vec_len l.returns.teams + length l.worker-iterator.rest.items ≡ vec_len l.fn.returns.teams + vec_len l.fn.staff;
  some_tallies : vec_len l.returns.tallies + length l.worker-iterator.rest.items ≡ vec_len l.fn.returns.tallies + vec_len l.fn.staff;
  some_faults : vec_len l.returns.faults + length l.worker-iterator.rest.items ≤ vec_len l.fn.returns.faults + vec_len l.fn.staff;
  same : g.N.Door.door_faults l.net ≡ g.N.Door.door_faults l.fn.net;
}
