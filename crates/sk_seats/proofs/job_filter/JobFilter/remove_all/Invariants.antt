use Rattle.std.proofs.Common.{◌≡◌, drop}
use Rattle.sk_seats.specs.JobFilter.{without_jobs}
use Rattle.sk_seats.proofs.job_filter.JobFilter.remove_all.Given as goal

-- the works that are left lead to the same counts
abbrev pub invariant-loop-work : goal.invariant-loop-work
invariant-loop-work l = without_jobs (drop l.work-index l.works) l.self ≡ without_jobs l.works l.initial.self
