-- The jobs in a worker's hands, in order of fetching. A command is always about the first that it fits.
use Rattle.std.specs.Prelude.{ℕ, List, [], ◌∷◌, Option, Some, None, Bool, true, false, ◌&&◌, ◌||◌, not, cond, bytes_eq, set, slice_get}
use Rattle.std.specs.Option.{is_some, option_map_or}
use Rattle.sk_base.specs.declared.limits.TheConstants.{MOST_PREFETCH}
use Rattle.sk_resp.specs.Spelling.{Bytes}
use Rattle.sk_payload.specs.Follows.{follows}
use Rattle.sk_payload.specs.Head.{head}
use Rattle.sk_seats.specs.declared.work.Stage.{Stage}
use Rattle.sk_seats.specs.declared.work.Stage.TheVariants.{Held, Put, Settled}
use Rattle.sk_seats.specs.declared.work.Work.{Work}

-- the most that a seat has at a time
abbrev pub most_works : ℕ
most_works = MOST_PREFETCH

-- a job that was just fetched
abbrev pub held : Bytes → Work
held payload = record { payload = payload; stage = Held }

abbrev pub is_held : Stage → Bool
is_held Held = true
is_held Put = false
is_held (Settled end) = false

-- ## Which work a command is about

-- one that is held, of this text
abbrev pub is_held_as : Bytes → Work → Bool
is_held_as text work = is_held work.stage && bytes_eq work.payload text

-- one that is held, and that this text follows after a failure
abbrev pub is_retried_as : Bytes → Work → Bool
is_retried_as text work = is_held work.stage && follows work.payload text

-- a failed text may be buried, and a payload itself that has no head
abbrev pub may_bury : Bytes → Bytes → Bool
may_bury payload text = follows payload text || (bytes_eq payload text && not (is_some (head payload)))

abbrev pub is_buried_as : Bytes → Work → Bool
is_buried_as text work = is_held work.stage && may_bury work.payload text

-- one that was put back or is settled, of this text
abbrev pub is_done_as : Bytes → Work → Bool
is_done_as text work = not (is_held work.stage) && bytes_eq work.payload text

-- ## By index

-- the work there is at this stage from now on
abbrev pub staged_at : ℕ → Stage → List Work → List Work
staged_at at stage works = option_map_or (λ work. set works at (record work { stage = stage })) (slice_get works at) works

-- ## The first that passes

abbrev pub first : (Work → Bool) → List Work → Option Work
first test [] = None
first test (work ∷ works) = cond (test work) (Some work) (first test works)

-- it is at this stage from now on
abbrev pub staged : (Work → Bool) → Stage → List Work → List Work
staged test stage [] = []
staged test stage (work ∷ works) = cond (test work) (record work { stage = stage } ∷ works) (work ∷ staged test stage works)

-- it goes
abbrev pub without : (Work → Bool) → List Work → List Work
without test [] = []
without test (work ∷ works) = cond (test work) works (work ∷ without test works)
