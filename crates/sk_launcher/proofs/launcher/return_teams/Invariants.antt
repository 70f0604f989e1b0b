use Rattle.std.proofs.Common.{◌≡◌, ◌+◌, ◌++◌, length, vec_len, vec_capacity}
use Rattle.sk_launcher.specs.Teams.{teams_of}
use Rattle.sk_launcher.proofs.launcher.return_teams.Given as goal

abbrev pub invariant-loop-team : goal.invariant-loop-team
invariant-loop-team g l = record {
  some : vec_len l.teams + length l.left.items ≡ vec_len l.fn.teams + length l.fn.left.items;
  room : vec_capacity l.teams ≡ vec_capacity l.fn.teams;
  teams : teams_of (λ v. (goal.Job-dyn g v).runs v.1) l.teams.items ++ teams_of (λ v. (goal.Job-dyn g v).runs v.1) l.left.items ≡ teams_of (λ v. (goal.Job-dyn g v).runs v.1) l.fn.teams.items ++ teams_of (λ v. (goal.Job-dyn g v).runs v.1) l.fn.left.items;
}

abbrev pub decreases-loop-team : goal.decreases-loop-team
decreases-loop-team g l = length l.left.items
