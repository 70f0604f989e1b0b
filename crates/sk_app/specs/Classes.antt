-- What the jobs of the shipped program come to.
use Rattle.std.specs.Prelude.{◌==◌, ℕ, codes, if◌then◌else◌}
use Rattle.sk_worker.specs.declared.job.Outcome.{Outcome}
use Rattle.sk_worker.specs.declared.job.Outcome.TheVariants.{Raised, Returned}

abbrev pub fail_outcome : Outcome
fail_outcome = Raised (record { class = codes "Failure"; message = codes "asked to fail" })

-- by how often the job's runs failed before
abbrev pub flip_outcome : ℕ → Outcome
flip_outcome count = if count == 0 then fail_outcome else Returned
