-- Which jobs may be in hands: a count for each place, and three places for each job.
use Rattle.std.specs.Prelude.{◌≡◌, ℕ, zero, suc, ◌+◌, ◌-◌, ◌*◌, ◌/◌, ◌%◌, ◌^◌, ◌<◌, max, Bool, ◌&&◌, cond, nat_lt, List, [], ◌∷◌, length, get_or, set, ⊤}
use Rattle.std.specs.Option.{option_map_or}
use Rattle.sk_resp.specs.Spelling.{Bytes}
use Rattle.sk_payload.specs.Head.{jid_of}
use Rattle.sk_seats.specs.declared.job_filter.Places.{Places}
use Rattle.sk_seats.specs.declared.job_filter.TheConstants.{SPREAD, STRIDE, STUCK}
use Rattle.sk_seats.specs.declared.phase.Phase.{Phase}
use Rattle.sk_seats.specs.declared.work.Work.{Work}
use Rattle.sk_seats.specs.Phases.{works_of}

-- how many jobs in hands have each place
abbrev pub Counts : Type 0
Counts = List ℕ

-- ## Places

-- the number of an id, once one more byte of it is read
unfoldable pub mixed : ℕ → ℕ → ℕ
mixed number byte = ((number + byte) % 2 ^ 64 * SPREAD) % 2 ^ 64

abbrev pub number_from : ℕ → Bytes → ℕ
number_from number [] = number
number_from number (byte ∷ bytes) = number_from (mixed number byte) bytes

-- the number of an id, which spreads ids over 64 bits
unfoldable pub number_of : Bytes → ℕ
number_of jid = number_from 0 jid

-- a place among so many
unfoldable pub place_of : ℕ → ℕ → ℕ
place_of number size = number % max size 1

-- the places of a job among so many
abbrev pub places_of : Bytes → ℕ → Places
places_of jid size = record {
  first = place_of (number_of jid) size;
  second = place_of (number_of jid / STRIDE) size;
  third = place_of (number_of jid / STRIDE / STRIDE) size;
}

-- ## Counts

-- one job more or fewer has a place. A count at the end of its range stays there
abbrev pub raised : ℕ → ℕ
raised count = cond (nat_lt count STUCK) (count + 1) count

abbrev pub lowered : ℕ → ℕ
lowered count = cond (nat_lt count STUCK) (count - 1) count

-- the count at a place
abbrev pub changed : (ℕ → ℕ) → ℕ → Counts → Counts
changed step place counts = set counts place (step (get_or counts place 0))

abbrev pub is_counted : ℕ → Counts → Bool
is_counted place counts = nat_lt 0 (get_or counts place 1)

-- the counts at three places
abbrev pub changed_at : (ℕ → ℕ) → Places → Counts → Counts
changed_at step places counts = changed step places.third (changed step places.second (changed step places.first counts))

abbrev pub are_counted : Places → Counts → Bool
are_counted places counts = is_counted places.first counts && (is_counted places.second counts && is_counted places.third counts)

-- a seat may have the job
abbrev pub may_have : Bytes → Counts → Bool
may_have jid counts = are_counted (places_of jid (length counts)) counts

-- the counts, with the job of a payload or without it
abbrev pub with_job : Bytes → Counts → Counts
with_job payload counts = option_map_or (λ jid. changed_at raised (places_of jid (length counts)) counts) (jid_of payload) counts

abbrev pub without_job : Bytes → Counts → Counts
without_job payload counts = option_map_or (λ jid. changed_at lowered (places_of jid (length counts)) counts) (jid_of payload) counts

-- the same of each work
abbrev pub with_jobs : List Work → Counts → Counts
with_jobs [] counts = counts
with_jobs (work ∷ works) counts = with_jobs works (with_job work.payload counts)

abbrev pub without_jobs : List Work → Counts → Counts
without_jobs [] counts = counts
without_jobs (work ∷ works) counts = without_jobs works (without_job work.payload counts)

-- the same of all works of each seat
abbrev pub with_phases : List Phase → Counts → Counts
with_phases [] counts = counts
with_phases (phase ∷ phases) counts = with_phases phases (with_jobs (works_of phase) counts)

-- ## How often a place is had, among so many

-- 1 where the places are one
abbrev pub one : ℕ → ℕ → ℕ
one zero zero = 1
one zero (suc other) = 0
one (suc place) zero = 0
one (suc place) (suc other) = one place other

abbrev pub times : Places → ℕ → ℕ
times places place = one places.first place + one places.second place + one places.third place

-- by the job of a payload
abbrev pub times_by : ℕ → Bytes → ℕ → ℕ
times_by size payload place = option_map_or (λ jid. times (places_of jid size) place) (jid_of payload) 0

-- by the jobs in a seat's hands
abbrev pub times_in : ℕ → List Work → ℕ → ℕ
times_in size [] place = 0
times_in size (work ∷ works) place = times_by size work.payload place + times_in size works place

-- by the jobs in all hands
abbrev pub times_among : ℕ → List Phase → ℕ → ℕ
times_among size [] place = 0
times_among size (phase ∷ phases) place = times_in size (works_of phase) place + times_among size phases place

-- each count but one at the end of its range is so often as its place is had
abbrev pub AreTimes : Counts → (ℕ → ℕ) → Type 0
AreTimes [] had = ⊤
AreTimes (count ∷ counts) had = (count < STUCK → count ≡ had 0) × AreTimes counts (λ place. had (suc place))

-- the counts are those of the jobs in hands
abbrev pub CountsHands : Counts → List Phase → Type 0
CountsHands counts phases = AreTimes counts (times_among (length counts) phases)
