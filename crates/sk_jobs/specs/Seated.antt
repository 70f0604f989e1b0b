-- The jobs in a worker's hands, as its commands find them.
use Rattle.std.specs.Prelude.{◌≡◌, ◌<◌, ℕ, [], Some, Bool, length}
use Rattle.std.specs.List.{position}
use Rattle.sk_resp.specs.Spelling.{Bytes}
use Rattle.sk_places.specs.Placed.{Placed, ended_job}
use Rattle.sk_seats.specs.declared.phase.Phase.{Phase}
use Rattle.sk_seats.specs.declared.phase.Phase.TheVariants.{Plain, Joined}
use Rattle.sk_seats.specs.declared.work.Stage.{Stage}
use Rattle.sk_seats.specs.declared.work.Stage.TheVariants.{Held, Put, Settled}
use Rattle.sk_seats.specs.declared.work.Work.{Work}
use Rattle.sk_seats.specs.Phases.{works_of}
use Rattle.sk_model.specs.Change.{ending_of}
use Rattle.sk_model.specs.Outcome.{Outcome}
use Rattle.sk_model.specs.Workers.{release_of}
use Rattle.sk_model.specs.World.{World, phase_of}

-- what is known of the jobs once a work of this text, at this stage, is released
abbrev pub ended_at : Stage → Bytes → Placed → Placed
ended_at Held text p = p
ended_at Put text p = p
ended_at (Settled end) text p = ended_job (ending_of end) text p

abbrev pub ended_by : Work → Placed → Placed
ended_by work p = ended_at work.stage work.payload p

-- the process of a worker's seat
abbrev pub ident_in : Phase → Bytes
ident_in Plain = []
ident_in (Joined ident works) = ident

-- what a seat's release of a job of this text comes to
abbrev pub released : World → ℕ → Bytes → Bytes → Outcome
released w seat ident text = release_of w seat (phase_of w seat) ident (Some text)

-- the first work of the seat that passes stands at this index
pub record IsFound (test : Work → Bool) (phase : Phase) (at : ℕ) : Type 0 where
  pub is : position test (works_of phase) ≡ Some at
  pub within : at < length (works_of phase)
