use Rattle.std.proofs.Common.{filter, length}
use Rattle.std.specs.Prelude.{option_map}
use Rattle.sk_store.specs.Stored.{world}
use Rattle.sk_jobs.specs.Rescuing.{IsPassed}
use Rattle.sk_jobs.proofs.Passing.{past}
use Rattle.sk_jobs.proofs.rescues.next_gone.Given as goal

-- the rows behind the identities that were passed
abbrev pub decreases-loop-ident : goal.decreases-loop-ident
decreases-loop-ident l = length (filter (past (option_map (λ word. word.now) l.passed)) (world l.store).rows)

abbrev pub invariant-loop-ident : goal.invariant-loop-ident
invariant-loop-ident l = record { passed : IsPassed (option_map (λ word. word.now) l.passed) (world l.store) }
