use Rattle.std.proofs.Common.{◌≡◌, vec_len}
use Rattle.sidekiq.proofs.launch.Given as goal

-- a rule for each team
abbrev pub invariant-loop-team : goal.invariant-loop-team
invariant-loop-team g l = (vec_len l.teams ≡ l._team) × (vec_len l.rules ≡ l._team)
