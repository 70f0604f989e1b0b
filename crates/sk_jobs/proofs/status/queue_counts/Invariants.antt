use Rattle.std.proofs.Common.{◌≡◌, ◌++◌, drop, map}
use Rattle.sk_jobs.specs.Counting.{waiting}
use Rattle.sk_jobs.proofs.status.queue_counts.Given as goal

-- those so far, and those of the names that are left
abbrev pub invariant-loop-at : goal.invariant-loop-at
invariant-loop-at l = l.list.items ++ map (waiting l.places.current.rows) (drop l.at l.places.current.names) ≡ map (waiting l.places.current.rows) l.places.current.names
