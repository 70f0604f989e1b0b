-- The life of a job, as the moves of a run make it. Nothing here knows of lists and indexes.
use Rattle.std.specs.Prelude.{◌≡◌, ◌↔◌, ℕ, List, [], ◌∷◌, length, Option, Some, None, Bool, true, not, ◌&&◌, nat_lt, cond}
use Rattle.std.specs.BTreeMap.{is_at}
use Rattle.std.specs.List.{AllByRecursion, list_any}
use Rattle.sk_resp.specs.Spelling.{Bytes}
use Rattle.sk_payload.specs.Head.{head, names}
use Rattle.sk_payload.specs.declared.head.Head.{Head}
use Rattle.sk_resp.specs.WordOrder.{text_cmp}
use Rattle.sk_places.specs.Rows.{rows_of as count_of}
use Rattle.sk_seats.specs.declared.phase.Phase.{Phase}
use Rattle.sk_seats.specs.declared.work.Stage.{Stage}
use Rattle.sk_seats.specs.declared.work.Stage.TheVariants.{Held, Put, Settled}
use Rattle.sk_seats.specs.declared.work.Work.{Work}
use Rattle.sk_seats.specs.Phases.{works_of}
use Rattle.sk_seats.specs.Works.{first, is_done_as}
use Rattle.sk_places.specs.declared.ending.Ending.{Ending}
use Rattle.sk_places.specs.declared.ending.Ending.TheVariants.{Muddled, Deleted, Trimmed}
use Rattle.sk_places.specs.declared.totals.Totals.{Totals}
use Rattle.sk_places.specs.Totals.{accounted, pushes_in}
use Rattle.sk_model.specs.World.{World, phase_of}
use Rattle.sk_model.specs.Live.{stands, fresh, is_live}
use Rattle.sk_model.specs.Change.{Add, Carry, Take, Trim, Merge, PutBack, Free, Change, Moves, Passes, Names, Unnames, Keeps, Turns, Beats, Counts, Recovers, Forgets, Locks, Unlocks, Elects, TakesSlot, Fire, Makes, Joins, Notifies, ending_of, changed}

-- how many rows name the job
abbrev pub rows_of : Bytes → World → ℕ
rows_of jid w = count_of jid w.rows

pub data Life : Type 0 where
  -- no push of it was fresh yet
  Unborn : Life
  -- It was freshly pushed, and hasn't ended since then.
  Live : Life
  -- It was live, and ended.
  Ended : (how : Ending) → Life

-- What a live job comes to. Another has ended, or not begun.
abbrev pub ended : Ending → Life → Life
ended how Unborn = Unborn
ended how Live = Ended how
ended how (Ended before) = Ended before

-- the life of the job once a work at this stage is released
abbrev pub life_at : Stage → Bytes → Bytes → Life → Life
life_at Held text jid life = life
life_at Put text jid life = life
life_at (Settled end) text jid life = cond (names text jid) (ended (ending_of end) life) life

abbrev pub life_of_work : Bytes → Life → Option Work → Life
life_of_work jid life None = life
life_of_work jid life (Some work) = life_at work.stage work.payload jid life

-- A seat that is done with the job ends its life by the release.
abbrev pub freed_life : Bytes → Phase → Bytes → Life → Life
freed_life text phase jid life = life_of_work jid life (first (is_done_as text) (works_of phase))

-- The life of the job after a change of this world. A push that isn't fresh is no life of its own.
abbrev pub life_after : World → Bytes → Life → Change → Life
life_after w jid life (Moves (Add row end from)) = cond (names row.text jid) (cond (fresh w jid) Live (ended Muddled life)) life
life_after w jid life (Moves (Take row from)) = cond (names row.text jid) (ended Deleted life) life
life_after w jid life (Moves (Trim row)) = cond (names row.text jid) (ended Trimmed life) life
life_after w jid life (Moves (Free seat text)) = freed_life text (phase_of w seat) jid life
life_after w jid life (Moves (Merge row)) = life
life_after w jid life (Moves (PutBack row)) = life
life_after w jid life (Moves (Carry row from to score end)) = life
life_after w jid life (Passes now) = life
life_after w jid life (Names queue) = life
life_after w jid life (Unnames queue) = life
life_after w jid life (Keeps keys) = life
life_after w jid life (Turns seat phase) = life
life_after w jid life (Beats ident) = life
life_after w jid life (Counts name) = life
life_after w jid life (Recovers other) = life
life_after w jid life (Forgets other) = life
life_after w jid life (Locks digest other seconds) = life
life_after w jid life (Unlocks digest other) = life
life_after w jid life (Elects ident) = life
life_after w jid life (TakesSlot loop slot text) = life
life_after w jid life (Moves (Fire bid kind)) = life
life_after w jid life (Makes batch jids) = life
life_after w jid life (Joins bid jids) = life
life_after w jid life (Notifies event bid other) = life

-- its life after changes, in order
abbrev pub life_through : World → Bytes → Life → List Change → Life
life_through w jid life [] = life
life_through w jid life (change ∷ changes) = life_through (changed w change) jid (life_after w jid life change) changes

-- ## What is kept

abbrev pub generation_in : Option Head → ℕ
generation_in None = 0
generation_in (Some h) = h.gen_

-- how often the job had failed when the text was made
abbrev pub generation : Bytes → ℕ
generation text = generation_in (head text)

-- the text is of the job, and was made after more failures than this one
abbrev pub is_newer : Bytes → Bytes → Bytes → Bool
is_newer held jid text = names text jid && nat_lt (generation held) (generation text)

abbrev pub outranks : World → Bytes → Bytes → Bool
outranks w held jid = list_any (λ row. is_newer held jid row.text) w.rows

-- Of a job whose text was put back a newer row stands.
abbrev pub IsOutranked : World → Bytes → Work → Type 0
IsOutranked w jid work = work.stage ≡ Put → names work.payload jid ≡ true → outranks w work.payload jid ≡ true

-- A job is kept where it stands, and where a newer row of it stands for each old payload that a seat has put back and still has.
pub record IsKept (w : World) (jid : Bytes) : Type 0 where
  pub standing : stands w jid ≡ true
  pub newer : (seat : ℕ) → AllByRecursion (IsOutranked w jid) (works_of (phase_of w seat))

-- Each job whose life is Live is kept.
abbrev pub Kept : World → (Bytes → Life) → Type 0
Kept w lives = (jid : Bytes) → lives jid ≡ Live → IsKept w jid

-- ## What the world knows of lives

-- The world has the job as live exactly where its life is Live.
abbrev pub Knows : World → Bytes → Life → Type 0
Knows w jid life = (is_live w jid ≡ true) ↔ (life ≡ Live)

-- no job twice
abbrev pub is_distinct : List Bytes → Bool
is_distinct [] = true
is_distinct (jid ∷ jids) = not (list_any (is_at (text_cmp jid)) jids) && is_distinct jids

-- Each row that was pushed is accounted for.
abbrev pub Balanced : World → Type 0
Balanced w = pushes_in w.tally ≡ accounted w.tally (length w.live)

-- Each live job is kept, and each pushed row is accounted for.
pub record IsSound (w : World) : Type 0 where
  pub kept : (jid : Bytes) → is_live w jid ≡ true → IsKept w jid
  pub distinct : is_distinct w.live ≡ true
  pub balanced : Balanced w
