-- What a run of a wrapped job comes to.
use Rattle.std.specs.Prelude.{◌≡◌, ◌++◌, List, [], ◌∷◌, Option, Result, Ok, Err}
use Rattle.std.specs.declared.alloc.AllocError.{AllocError}
use Rattle.sk_base.specs.Outside.{Takes}
use Rattle.sk_payload.specs.declared.head.Head.{Head}
use Rattle.sk_worker.specs.Run.{Run}
use Rattle.sk_worker.specs.declared.job.Outcome.{Outcome}
use Rattle.sk_worker.specs.declared.job.Outcome.TheVariants.{Raised}
use Rattle.sk_middle.specs.GatedRun.{GatedRun}
use Rattle.sk_middle.specs.declared.runner.Runner.TheVariants as by
use Rattle.sk_middle.specs.declared.gate.Verdict.{Verdict}
use Rattle.sk_middle.specs.declared.gate.Verdict.TheVariants.{Go, Raise}

-- a wrapped job, as its runs change it: the inner job, and the runs since it was wrapped
pub record Wrapped (J : Type 0) : Type 0 where
  pub inner : J
  pub gated : List GatedRun

-- What the inner job's run comes to: that job tells it, and it is told as the inner job's.
abbrev pub InnerRuns : {J : Type 0} → (J → Option (List Run)) → Wrapped J → Head → Result Outcome AllocError → Wrapped J → Type 0
InnerRuns tells old h (Ok outcome) new =
    Takes (tells old.inner) (record { head = h; outcome = outcome } ∷ []) (tells new.inner)
    × (new.gated ≡ old.gated ++ record { run = record { head = h; outcome = outcome }; by = by.Inner } ∷ [])
InnerRuns tells old h (Err e) new = Takes (tells old.inner) [] (tells new.inner) × (new.gated ≡ old.gated)

-- The same of a job and the runs that are told of it.
abbrev pub RunsInner : {J : Type 0} → (J → Option (List Run)) → J → List GatedRun → Head → Result Outcome AllocError → J → List GatedRun → Type 0
RunsInner tells inner gated h result inner' gated' =
    InnerRuns tells (record { inner = inner; gated = gated }) h result (record { inner = inner'; gated = gated' })

-- What a run comes to where the gate answers this. Go: what the inner job's run comes to. Raise: that error, in a run of its own, and the inner job is as
-- it was. No memory: the same, and nothing has changed.
abbrev pub Comes : {J : Type 0} → (J → Option (List Run)) → Wrapped J → Head → Result Verdict AllocError → Result Outcome AllocError
    → Wrapped J → Type 0
Comes tells old h (Ok Go) result new = InnerRuns tells old h result new
Comes tells old h (Ok (Raise raised)) result new =
    (result ≡ Ok (Raised raised)) × (new.inner ≡ old.inner)
    × (new.gated ≡ old.gated ++ record { run = record { head = h; outcome = Raised raised }; by = by.Gate } ∷ [])
Comes tells old h (Err e) result new = (result ≡ Err e) × (new ≡ old)

-- The gate answers something of the head, and the run comes to what follows from that.
abbrev pub RunsGated : {J : Type 0} → (Result Verdict AllocError → Type 0) → (J → Option (List Run)) → J → List GatedRun → Head
    → Result Outcome AllocError → J → List GatedRun → Type 0
RunsGated Answers tells inner gated h result inner' gated' =
    (verdict : _) × Answers verdict × Comes tells (record { inner = inner; gated = gated }) h verdict result (record { inner = inner'; gated = gated' })
