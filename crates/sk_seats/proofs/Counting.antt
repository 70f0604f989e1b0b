-- The counts of the filter are those of the jobs in hands, whatever a seat does.
use Rattle.std.proofs.Common.{◌≡◌, ℕ, zero, suc, ◌+◌, ◌-◌, ◌<◌, ◌≤◌, length, List, [], ◌∷◌, ◌++◌, refl, sym, ap, ◌∙◌, arith, Bool, true, false, ◌&&◌, ◌||◌, cond, nat_lt, get_or, set, remove, replicate, slice_get, bytes_eq, length-set}
use Rattle.std.specs.Prelude.{Option, Some, None, option_map}
use Rattle.std.specs.Option.{option_map_or, unwrap_or}
use Rattle.std.specs.List.{list_any}
use Rattle.std.specs.Map.{keys_of, lookup, remove_entry, set_value, values_of}
use Rattle.std.specs.BTreeMap.{is_at, insert_entry}
use Rattle.std.specs.Ordering.{is_eq, match_ordering, nat_cmp}
use Rattle.std.specs.declared.cmp.Ordering.{Ordering}
use Rattle.std.specs.declared.cmp.Ordering.TheVariants.{Less, Equal, Greater}
use Rattle.std.proofs.lemmas.Map.Keys.{sorted_head, sorted_tail}
use Rattle.std.proofs.lemmas.Slice.Eq.{bytes_eq-Decides}
use Rattle.sk_resp.specs.Spelling.{Bytes}
use Rattle.sk_payload.specs.Head.{head, jid_of, names}
use Rattle.sk_payload.specs.declared.head.Head.{Head}
use Rattle.sk_seats.specs.declared.job_filter.Places.{Places}
use Rattle.sk_seats.specs.declared.job_filter.TheConstants.{STUCK}
use Rattle.sk_seats.specs.declared.phase.Phase.{Phase}
use Rattle.sk_seats.specs.declared.phase.Phase.TheVariants.{Plain, Joined}
use Rattle.sk_seats.specs.declared.work.Stage.{Stage}
use Rattle.sk_seats.specs.declared.work.Work.{Work}
use Rattle.sk_seats.specs.JobFilter.{AreTimes, Counts, CountsHands, changed, changed_at, is_counted, lowered, may_have, one, places_of, raised, times, times_among, times_by, times_in, with_job, with_jobs, with_phases, without_job, without_jobs}
use Rattle.sk_seats.specs.Order.{InOrder}
use Rattle.sk_seats.specs.Phases.{Phases, has, holding, is_plain, or_plain, phase_in, releasing_at, some_has, staging_at, works_of}
use Rattle.sk_seats.specs.Works.{held, staged_at}
use Rattle.sk_seats.proofs.Seating.{AreBehind, further, none_found}

-- ## One count

-- the place is had once more
abbrev Adds : ℕ → (ℕ → ℕ) → (ℕ → ℕ) → Type 0
Adds place less more = (p : ℕ) → more p ≡ less p + one place p

one_raised : (count less more : ℕ) → more ≡ less + 1 → (count < STUCK → count ≡ less) → raised count < STUCK → raised count ≡ more
one_raised count less more adds told below = by_less (nat_lt count STUCK) refl below where
  by_less : (is_less : Bool) → nat_lt count STUCK ≡ is_less → cond is_less (count + 1) count < STUCK → cond is_less (count + 1) count ≡ more
  by_less true is below = let same : count ≡ less = told (grind (arith, is)) in omega (arith, same, adds)
  by_less false is below = absurd (grind (arith, is, below))

one_lowered : (count less more : ℕ) → more ≡ less + 1 → (count < STUCK → count ≡ more) → lowered count < STUCK → lowered count ≡ less
one_lowered count less more adds told below = by_less (nat_lt count STUCK) refl below where
  by_less : (is_less : Bool) → nat_lt count STUCK ≡ is_less → cond is_less (count - 1) count < STUCK → cond is_less (count - 1) count ≡ less
  by_less true is below = let same : count ≡ more = told (grind (arith, is)) in omega (arith, same, adds)
  by_less false is below = absurd (grind (arith, is, below))

same_times : (counts : Counts) (had again : ℕ → ℕ) → ((p : ℕ) → again p ≡ had p) → AreTimes counts had → AreTimes counts again
same_times [] had again same told = tt
same_times (count ∷ counts) had again same told = ((λ below. told.0 below ∙ sym (same 0)), same_times counts (λ p. had (suc p)) (λ p. again (suc p)) (λ p. same (suc p)) told.1)

raise_there : (place : ℕ) (counts : Counts) (less more : ℕ → ℕ) → Adds place less more → AreTimes counts less → AreTimes (changed raised place counts) more
raise_there place [] less more adds told = tt
raise_there zero (count ∷ counts) less more adds told =
    (one_raised count (less 0) (more 0) (adds 0) told.0, same_times counts (λ p. less (suc p)) (λ p. more (suc p)) others told.1) where
      others : (p : ℕ) → more (suc p) ≡ less (suc p)
      others p = let e : more (suc p) ≡ less (suc p) + 0 = adds (suc p) in omega (arith, e)
raise_there (suc place) (count ∷ counts) less more adds told =
    (λ below. told.0 below ∙ sym first, raise_there place counts (λ p. less (suc p)) (λ p. more (suc p)) (λ p. adds (suc p)) told.1) where
      first : more 0 ≡ less 0
      first = let e : more 0 ≡ less 0 + 0 = adds 0 in omega (arith, e)

lower_there : (place : ℕ) (counts : Counts) (less more : ℕ → ℕ) → Adds place less more → AreTimes counts more → AreTimes (changed lowered place counts) less
lower_there place [] less more adds told = tt
lower_there zero (count ∷ counts) less more adds told =
    (one_lowered count (less 0) (more 0) (adds 0) told.0, same_times counts (λ p. more (suc p)) (λ p. less (suc p)) others told.1) where
      others : (p : ℕ) → less (suc p) ≡ more (suc p)
      others p = let e : more (suc p) ≡ less (suc p) + 0 = adds (suc p) in omega (arith, e)
lower_there (suc place) (count ∷ counts) less more adds told =
    (λ below. told.0 below ∙ first, lower_there place counts (λ p. less (suc p)) (λ p. more (suc p)) (λ p. adds (suc p)) told.1) where
      first : more 0 ≡ less 0
      first = let e : more 0 ≡ less 0 + 0 = adds 0 in omega (arith, e)

-- ## The counts of one job

raise_all : (places : Places) (counts : Counts) (less more : ℕ → ℕ) → ((p : ℕ) → more p ≡ less p + times places p) → AreTimes counts less → AreTimes (changed_at raised places counts) more
raise_all places counts less more adds told =
    raise_there places.third (changed raised places.second (changed raised places.first counts)) twice more (λ p. omega (arith, adds p))
    (raise_there places.second (changed raised places.first counts) once twice (λ p. refl) (raise_there places.first counts less once (λ p. refl) told)) where
      once : ℕ → ℕ
      once p = less p + one places.first p

      twice : ℕ → ℕ
      twice p = less p + one places.first p + one places.second p

lower_all : (places : Places) (counts : Counts) (less more : ℕ → ℕ) → ((p : ℕ) → more p ≡ less p + times places p) → AreTimes counts more → AreTimes (changed_at lowered places counts) less
lower_all places counts less more adds told =
    lower_there places.third (changed lowered places.second (changed lowered places.first counts)) less once (λ p. refl)
    (lower_there places.second (changed lowered places.first counts) once twice (λ p. refl) (lower_there places.first counts twice more (λ p. omega (arith, adds p)) told)) where
      once : ℕ → ℕ
      once p = less p + one places.third p

      twice : ℕ → ℕ
      twice p = less p + one places.third p + one places.second p

length_there : (step : ℕ → ℕ) (place : ℕ) (counts : Counts) → length (changed step place counts) ≡ length counts
length_there step place counts = length-set counts place (step (get_or counts place 0))

length_at : (step : ℕ → ℕ) (places : Places) (counts : Counts) → length (changed_at step places counts) ≡ length counts
length_at step places counts =
    let first : Counts = changed step places.first counts in
    let second : Counts = changed step places.second first in
    length_there step places.third second ∙ length_there step places.second first ∙ length_there step places.first counts

length_with : (payload : Bytes) (counts : Counts) → length (with_job payload counts) ≡ length counts
length_with payload counts = by_jid (jid_of payload) where
  by_jid : (o : Option Bytes) → length (option_map_or (λ jid. changed_at raised (places_of jid (length counts)) counts) o counts) ≡ length counts
  by_jid None = refl
  by_jid (Some jid) = length_at raised (places_of jid (length counts)) counts

length_without : (payload : Bytes) (counts : Counts) → length (without_job payload counts) ≡ length counts
length_without payload counts = by_jid (jid_of payload) where
  by_jid : (o : Option Bytes) → length (option_map_or (λ jid. changed_at lowered (places_of jid (length counts)) counts) o counts) ≡ length counts
  by_jid None = refl
  by_jid (Some jid) = length_at lowered (places_of jid (length counts)) counts

add_job : (payload : Bytes) (counts : Counts) (less more : ℕ → ℕ) → ((p : ℕ) → more p ≡ less p + times_by (length counts) payload p) → AreTimes counts less → AreTimes (with_job payload counts) more
add_job payload counts less more adds told = by_jid (jid_of payload) adds where
  by_jid : (o : Option Bytes) → ((p : ℕ) → more p ≡ less p + option_map_or (λ jid. times (places_of jid (length counts)) p) o 0) → AreTimes (option_map_or (λ jid. changed_at raised (places_of jid (length counts)) counts) o counts) more
  by_jid None adds = same_times counts less more (λ p. let e : more p ≡ less p + 0 = adds p in omega (arith, e)) told
  by_jid (Some jid) adds = raise_all (places_of jid (length counts)) counts less more adds told

remove_job : (payload : Bytes) (counts : Counts) (less more : ℕ → ℕ) → ((p : ℕ) → more p ≡ less p + times_by (length counts) payload p) → AreTimes counts more → AreTimes (without_job payload counts) less
remove_job payload counts less more adds told = by_jid (jid_of payload) adds where
  by_jid : (o : Option Bytes) → ((p : ℕ) → more p ≡ less p + option_map_or (λ jid. times (places_of jid (length counts)) p) o 0) → AreTimes (option_map_or (λ jid. changed_at lowered (places_of jid (length counts)) counts) o counts) less
  by_jid None adds = same_times counts more less (λ p. let e : more p ≡ less p + 0 = adds p in omega (arith, e)) told
  by_jid (Some jid) adds = lower_all (places_of jid (length counts)) counts less more adds told

-- ## The counts of the works of a seat

length_with_jobs : (works : List Work) (counts : Counts) → length (with_jobs works counts) ≡ length counts
length_with_jobs [] counts = refl
length_with_jobs (work ∷ works) counts = length_with_jobs works (with_job work.payload counts) ∙ length_with work.payload counts

length_without_jobs : (works : List Work) (counts : Counts) → length (without_jobs works counts) ≡ length counts
length_without_jobs [] counts = refl
length_without_jobs (work ∷ works) counts = length_without_jobs works (without_job work.payload counts) ∙ length_without work.payload counts

add_jobs : (works : List Work) (counts : Counts) (less more : ℕ → ℕ) → ((p : ℕ) → more p ≡ less p + times_in (length counts) works p) → AreTimes counts less → AreTimes (with_jobs works counts) more
add_jobs [] counts less more adds told = same_times counts less more (λ p. let e : more p ≡ less p + 0 = adds p in omega (arith, e)) told
add_jobs (work ∷ works) counts less more adds told = add_jobs works next once more others (add_job work.payload counts less once (λ p. refl) told) where
  next : Counts
  next = with_job work.payload counts

  once : ℕ → ℕ
  once p = less p + times_by (length counts) work.payload p

  others : (p : ℕ) → more p ≡ once p + times_in (length next) works p
  others p =
      let e : more p ≡ once p + times_in (length counts) works p = omega (arith, adds p) in
      e ∙ ap (λ size. once p + times_in size works p) (sym (length_with work.payload counts))

remove_jobs : (works : List Work) (counts : Counts) (less more : ℕ → ℕ) → ((p : ℕ) → more p ≡ less p + times_in (length counts) works p) → AreTimes counts more → AreTimes (without_jobs works counts) less
remove_jobs [] counts less more adds told = same_times counts more less (λ p. let e : more p ≡ less p + 0 = adds p in omega (arith, e)) told
remove_jobs (work ∷ works) counts less more adds told = remove_jobs works next less rest others (remove_job work.payload counts rest more (λ p. omega (arith, adds p)) told) where
  next : Counts
  next = without_job work.payload counts

  rest : ℕ → ℕ
  rest p = less p + times_in (length counts) works p

  others : (p : ℕ) → rest p ≡ less p + times_in (length next) works p
  others p = ap (λ size. less p + times_in size works p) (sym (length_without work.payload counts))

-- ## New counts for the same seats

length_with_phases : (phases : List Phase) (counts : Counts) → length (with_phases phases counts) ≡ length counts
length_with_phases [] counts = refl
length_with_phases (phase ∷ phases) counts = length_with_phases phases (with_jobs (works_of phase) counts) ∙ length_with_jobs (works_of phase) counts

add_phases : (phases : List Phase) (counts : Counts) (less more : ℕ → ℕ) → ((p : ℕ) → more p ≡ less p + times_among (length counts) phases p) → AreTimes counts less → AreTimes (with_phases phases counts) more
add_phases [] counts less more adds told = same_times counts less more (λ p. let e : more p ≡ less p + 0 = adds p in omega (arith, e)) told
add_phases (phase ∷ phases) counts less more adds told = add_phases phases next once more others (add_jobs (works_of phase) counts less once (λ p. refl) told) where
  next : Counts
  next = with_jobs (works_of phase) counts

  once : ℕ → ℕ
  once p = less p + times_in (length counts) (works_of phase) p

  others : (p : ℕ) → more p ≡ once p + times_among (length next) phases p
  others p =
      let e : more p ≡ once p + times_among (length counts) phases p = omega (arith, adds p) in
      e ∙ ap (λ size. once p + times_among size phases p) (sym (length_with_jobs (works_of phase) counts))

zeros_told : (size : ℕ) → AreTimes (replicate size 0) (λ p. 0)
zeros_told zero = tt
zeros_told (suc size) = ((λ below. refl), zeros_told size)

-- a new filter that counts the works of each seat
pub counted_anew : (phases : List Phase) (size : ℕ) → CountsHands (with_phases phases (replicate size 0)) phases
counted_anew phases size =
    add_phases phases (replicate size 0) (λ p. 0) had adds (zeros_told size) where
      had : ℕ → ℕ
      had p = times_among (length (with_phases phases (replicate size 0))) phases p

      adds : (p : ℕ) → had p ≡ 0 + times_among (length {A = ℕ} (replicate size 0)) phases p
      adds p =
          let e : had p ≡ times_among (length {A = ℕ} (replicate size 0)) phases p = ap (λ n. times_among n phases p) (length_with_phases phases (replicate size 0)) in
          omega (arith, e)

-- ## What a seat does

-- ## What the jobs of a seat come to

-- it has fetched one more
held_times : (size p : ℕ) (payload : Bytes) (works : List Work) → times_in size (works ++ held payload ∷ []) p ≡ times_in size works p + times_by size payload p
held_times size p payload [] = omega arith
held_times size p payload (work ∷ works) = omega (arith, held_times size p payload works)

holding_times : (size p : ℕ) (payload : Bytes) (phase : Phase) → is_plain phase ≡ false → times_in size (works_of (holding payload phase)) p ≡ times_in size (works_of phase) p + times_by size payload p
holding_times size p payload Plain kept = absurd (cc kept)
holding_times size p payload (Joined ident works) kept = held_times size p payload works

-- one comes to another stage
staged_times : (size p at : ℕ) (stage : Stage) (works : List Work) → times_in size (staged_at at stage works) p ≡ times_in size works p
staged_times size p at stage [] = refl
staged_times size p zero stage (work ∷ works) = refl
staged_times size p (suc at) stage (work ∷ works) = by_get (slice_get works at) (staged_times size p at stage works) where
  with_stage : Work → List Work
  with_stage w = set works at (record w { stage = stage })

  by_get : (o : Option Work) → times_in size (option_map_or with_stage o works) p ≡ times_in size works p
      → times_in size (option_map_or (λ w. work ∷ with_stage w) o (work ∷ works)) p ≡ times_by size work.payload p + times_in size works p
  by_get None same = refl
  by_get (Some w) same = ap (λ n. times_by size work.payload p + n) same

staging_times : (size p at : ℕ) (stage : Stage) (phase : Phase) → times_in size (works_of (staging_at at stage phase)) p ≡ times_in size (works_of phase) p
staging_times size p at stage Plain = refl
staging_times size p at stage (Joined ident works) = staged_times size p at stage works

-- one goes
removed_times : (size p at : ℕ) (works : List Work) (work : Work) → slice_get works at ≡ Some work → times_in size works p ≡ times_in size (remove works at) p + times_by size work.payload p
removed_times size p at [] work found = absurd (cc found)
removed_times size p zero (first ∷ works) work found =
    let same : first ≡ work = cc found in
    let times_same : times_by size first.payload p ≡ times_by size work.payload p = ap (λ w. times_by size w.payload p) same in
    omega (arith, times_same)
removed_times size p (suc at) (first ∷ works) work found = omega (arith, removed_times size p at works work found)

releasing_times : (size p at : ℕ) (phase : Phase) (work : Work) → slice_get (works_of phase) at ≡ Some work → times_in size (works_of phase) p ≡ times_in size (works_of (releasing_at at phase)) p + times_by size work.payload p
releasing_times size p at Plain work found = absurd (cc found)
releasing_times size p at (Joined ident works) work found = removed_times size p at works work found

-- ## What the jobs in all hands come to

-- a seat turns to another phase
set_times : (size p : ℕ) (test : ℕ → Bool) (phases : Phases) (old next : Phase) → lookup test phases ≡ Some old
    → times_among size (values_of (set_value test phases next)) p + times_in size (works_of old) p ≡ times_among size (values_of phases) p + times_in size (works_of next) p
set_times size p test [] old next found = absurd (cc found)
set_times size p test (e ∷ phases) old next found = by_test (test e.0) found (set_times size p test phases old next) where
  by_test : (passes : Bool) → cond passes (Some e.1) (lookup test phases) ≡ Some old
      → (lookup test phases ≡ Some old → times_among size (values_of (set_value test phases next)) p + times_in size (works_of old) p ≡ times_among size (values_of phases) p + times_in size (works_of next) p)
      → times_among size (values_of (cond passes ((e.0, next) ∷ phases) (e ∷ set_value test phases next))) p + times_in size (works_of old) p ≡ times_in size (works_of e.1) p + times_among size (values_of phases) p + times_in size (works_of next) p
  by_test true found more =
      let same : e.1 ≡ old = cc found in
      let times_same : times_in size (works_of e.1) p ≡ times_in size (works_of old) p = ap (λ phase. times_in size (works_of phase) p) same in
      omega (arith, times_same)
  by_test false found more = omega (arith, more found)

-- a seat gets a phase, in place of the one that it may have had
insert_times : (size p seat : ℕ) (phases : Phases) (next : Phase) → InOrder phases
    → times_among size (values_of (insert_entry nat_cmp phases seat next)) p + times_in size (works_of (phase_in phases seat)) p ≡ times_among size (values_of phases) p + times_in size (works_of next) p
insert_times size p seat [] next ordered = omega arith
insert_times size p seat (e ∷ phases) next ordered =
    by_order (nat_cmp seat e.0) refl (sorted_head nat_cmp e.0 (keys_of phases) ordered) (insert_times size p seat phases next (sorted_tail nat_cmp e.0 (keys_of phases) ordered)) where
      by_order : (r : Ordering) → nat_cmp seat e.0 ≡ r → AreBehind e.0 phases
          → times_among size (values_of (insert_entry nat_cmp phases seat next)) p + times_in size (works_of (phase_in phases seat)) p ≡ times_among size (values_of phases) p + times_in size (works_of next) p
          → times_among size (values_of (match_ordering r ((seat, next) ∷ e ∷ phases) ((e.0, next) ∷ phases) (e ∷ insert_entry nat_cmp phases seat next))) p + times_in size (works_of (or_plain (cond (is_eq r) (Some e.1) (lookup (is_at (nat_cmp seat)) phases)))) p
          ≡ times_in size (works_of e.1) p + times_among size (values_of phases) p + times_in size (works_of next) p
      by_order Less r behind more =
          let none : times_in size (works_of (phase_in phases seat)) p ≡ 0 = ap (λ o. times_in size (works_of (or_plain o)) p) (none_found seat phases (further seat e.0 phases r behind)) in
          omega (arith, none)
      by_order Equal r behind more = omega arith
      by_order Greater r behind more = omega (arith, more)

-- a seat has no phase any more
remove_times : (size p : ℕ) (test : ℕ → Bool) (phases : Phases) → times_among size (values_of phases) p ≡ times_among size (values_of (remove_entry test phases)) p + times_in size (works_of (or_plain (lookup test phases))) p
remove_times size p test [] = refl
remove_times size p test (e ∷ phases) = by_test (test e.0) (remove_times size p test phases) where
  by_test : (passes : Bool) → times_among size (values_of phases) p ≡ times_among size (values_of (remove_entry test phases)) p + times_in size (works_of (or_plain (lookup test phases))) p
      → times_in size (works_of e.1) p + times_among size (values_of phases) p ≡ times_among size (values_of (cond passes phases (e ∷ remove_entry test phases))) p + times_in size (works_of (or_plain (cond passes (Some e.1) (lookup test phases)))) p
  by_test true more = omega arith
  by_test false more = omega (arith, more)

-- ## What a seat does

-- it fetches a job
pub held_counted : (seat : ℕ) (phases : Phases) (payload : Bytes) (old : Phase) (counts : Counts) → lookup (is_at (nat_cmp seat)) phases ≡ Some old → is_plain old ≡ false → CountsHands counts (values_of phases)
    → CountsHands (with_job payload counts) (values_of (set_value (is_at (nat_cmp seat)) phases (holding payload old)))
held_counted seat phases payload old counts found kept told =
    add_job payload counts (times_among (length counts) (values_of phases)) (times_among (length (with_job payload counts)) (values_of after)) adds told where
      after : Phases
      after = set_value (is_at (nat_cmp seat)) phases (holding payload old)

      adds : (p : ℕ) → times_among (length (with_job payload counts)) (values_of after) p ≡ times_among (length counts) (values_of phases) p + times_by (length counts) payload p
      adds p = omega (
        arith,
        ap (λ size. times_among size (values_of after) p) (length_with payload counts),
        set_times (length counts) p (is_at (nat_cmp seat)) phases old (holding payload old) found,
        holding_times (length counts) p payload old kept,
      )

-- a job in its hands comes to another stage
pub staged_counted : (seat : ℕ) (phases : Phases) (at : ℕ) (stage : Stage) (old : Phase) (counts : Counts) → lookup (is_at (nat_cmp seat)) phases ≡ Some old → CountsHands counts (values_of phases)
    → CountsHands counts (values_of (set_value (is_at (nat_cmp seat)) phases (staging_at at stage old)))
staged_counted seat phases at stage old counts found told = same_times counts (times_among (length counts) (values_of phases)) (times_among (length counts) (values_of after)) same told where
  after : Phases
  after = set_value (is_at (nat_cmp seat)) phases (staging_at at stage old)

  same : (p : ℕ) → times_among (length counts) (values_of after) p ≡ times_among (length counts) (values_of phases) p
  same p = omega (
    arith,
    set_times (length counts) p (is_at (nat_cmp seat)) phases old (staging_at at stage old) found,
    staging_times (length counts) p at stage old,
  )

-- there is a work at each index
pub work_there : (works : List Work) (at : ℕ) → at < length works → (work : Work) × (slice_get works at ≡ Some work)
work_there [] at within = absurd (omega (arith, within))
work_there (work ∷ works) zero within = (work, refl)
work_there (work ∷ works) (suc at) within = work_there works at (omega (arith, within))

-- it lets go of a job
pub released_counted : (seat : ℕ) (phases : Phases) (at : ℕ) (work : Work) (old : Phase) (counts : Counts) → lookup (is_at (nat_cmp seat)) phases ≡ Some old → slice_get (works_of old) at ≡ Some work → CountsHands counts (values_of phases)
    → CountsHands (without_job work.payload counts) (values_of (set_value (is_at (nat_cmp seat)) phases (releasing_at at old)))
released_counted seat phases at work old counts found there told =
    remove_job work.payload counts (times_among (length (without_job work.payload counts)) (values_of after)) (times_among (length counts) (values_of phases)) adds told where
      after : Phases
      after = set_value (is_at (nat_cmp seat)) phases (releasing_at at old)

      adds : (p : ℕ) → times_among (length counts) (values_of phases) p ≡ times_among (length (without_job work.payload counts)) (values_of after) p + times_by (length counts) work.payload p
      adds p = omega (
        arith,
        ap (λ size. times_among size (values_of after) p) (length_without work.payload counts),
        set_times (length counts) p (is_at (nat_cmp seat)) phases old (releasing_at at old) found,
        releasing_times (length counts) p at old work there,
      )

-- it joins, without a job
pub joined_counted : (seat : ℕ) (phases : Phases) (ident : Bytes) (counts : Counts) → InOrder phases → CountsHands counts (values_of phases)
    → CountsHands (without_jobs (works_of (phase_in phases seat)) counts) (values_of (insert_entry nat_cmp phases seat (Joined ident [])))
joined_counted seat phases ident counts ordered told =
    remove_jobs works counts (times_among (length (without_jobs works counts)) (values_of after)) (times_among (length counts) (values_of phases)) adds told where
      works : List Work
      works = works_of (phase_in phases seat)

      after : Phases
      after = insert_entry nat_cmp phases seat (Joined ident [])

      adds : (p : ℕ) → times_among (length counts) (values_of phases) p ≡ times_among (length (without_jobs works counts)) (values_of after) p + times_in (length counts) works p
      adds p = omega (
        arith,
        ap (λ size. times_among size (values_of after) p) (length_without_jobs works counts),
        insert_times (length counts) p seat phases (Joined ident []) ordered,
      )

-- it is Plain from now on
pub cut_counted : (seat : ℕ) (phases : Phases) (counts : Counts) → CountsHands counts (values_of phases)
    → CountsHands (without_jobs (works_of (phase_in phases seat)) counts) (values_of (remove_entry (is_at (nat_cmp seat)) phases))
cut_counted seat phases counts told =
    remove_jobs works counts (times_among (length (without_jobs works counts)) (values_of after)) (times_among (length counts) (values_of phases)) adds told where
      works : List Work
      works = works_of (phase_in phases seat)

      after : Phases
      after = remove_entry (is_at (nat_cmp seat)) phases

      adds : (p : ℕ) → times_among (length counts) (values_of phases) p ≡ times_among (length (without_jobs works counts)) (values_of after) p + times_in (length counts) works p
      adds p = omega (
        arith,
        ap (λ size. times_among size (values_of after) p) (length_without_jobs works counts),
        remove_times (length counts) p (is_at (nat_cmp seat)) phases,
      )

-- ## A job that isn't counted

one_there : (place : ℕ) → one place place ≡ 1
one_there zero = refl
one_there (suc place) = one_there place

had_counted : (place : ℕ) (counts : Counts) (had : ℕ → ℕ) → AreTimes counts had → 0 < had place → is_counted place counts ≡ true
had_counted place [] had told some = refl
had_counted zero (zero ∷ counts) had told some = let none : 0 ≡ had 0 = told.0 (omega arith) in absurd (omega (arith, none, some))
had_counted zero (suc count ∷ counts) had told some = grind arith
had_counted (suc place) (count ∷ counts) had told some = had_counted place counts (λ p. had (suc p)) told.1 some

named : (payload jid : Bytes) → names payload jid ≡ true → jid_of payload ≡ Some jid
named payload jid is = by_head (head payload) is where
  by_head : (o : Option Head) → unwrap_or (option_map (λ h. bytes_eq h.jid jid) o) false ≡ true → option_map (λ h. h.jid) o ≡ Some jid
  by_head None is = absurd (cc is)
  by_head (Some h) is = ap Some ((bytes_eq-Decides h.jid jid).0 is)

times_here : (jid : Bytes) (size p : ℕ) (works : List Work) → list_any (λ work. names work.payload jid) works ≡ true → times (places_of jid size) p ≤ times_in size works p
times_here jid size p [] found = absurd (cc found)
times_here jid size p (work ∷ works) found = by_name (names work.payload jid) refl found (times_here jid size p works) where
  by_name : (is_named : Bool) → names work.payload jid ≡ is_named → (is_named || list_any (λ w. names w.payload jid) works) ≡ true
      → (list_any (λ w. names w.payload jid) works ≡ true → times (places_of jid size) p ≤ times_in size works p)
      → times (places_of jid size) p ≤ times_by size work.payload p + times_in size works p
  by_name true is found more =
      let its : times_by size work.payload p ≡ times (places_of jid size) p = ap (λ o. option_map_or (λ j. times (places_of j size) p) o 0) (named work.payload jid is) in
      omega (arith, its)
  by_name false is found more = omega (arith, more found)

times_somewhere : (jid : Bytes) (size p : ℕ) (phases : Phases) → some_has jid phases ≡ true → times (places_of jid size) p ≤ times_among size (values_of phases) p
times_somewhere jid size p [] found = absurd (cc found)
times_somewhere jid size p (e ∷ phases) found = by_has (has jid e.1) refl found (times_somewhere jid size p phases) where
  by_has : (here : Bool) → has jid e.1 ≡ here → (here || some_has jid phases) ≡ true
      → (some_has jid phases ≡ true → times (places_of jid size) p ≤ times_among size (values_of phases) p)
      → times (places_of jid size) p ≤ times_in size (works_of e.1) p + times_among size (values_of phases) p
  by_has true is found more = omega (arith, times_here jid size p (works_of e.1) is)
  by_has false is found more = omega (arith, more found)

all_three : (a b c : Bool) → a ≡ true → b ≡ true → c ≡ true → (a && (b && c)) ≡ true
all_three a b c x y z = rw (x, y, z) refl

-- no seat has a job of which a count is 0
pub not_in_hands : (jid : Bytes) (phases : Phases) (counts : Counts) → CountsHands counts (values_of phases) → may_have jid counts ≡ false → some_has jid phases ≡ false
not_in_hands jid phases counts told not_counted = by_has (some_has jid phases) refl where
  places : Places
  places = places_of jid (length counts)

  there : some_has jid phases ≡ true → (p : ℕ) → 0 < times places p → is_counted p counts ≡ true
  there is p some = had_counted p counts (times_among (length counts) (values_of phases)) told (omega (arith, some, times_somewhere jid (length counts) p phases is))

  counted : some_has jid phases ≡ true → may_have jid counts ≡ true
  counted is = all_three (is_counted places.first counts) (is_counted places.second counts) (is_counted places.third counts)
      (there is places.first (omega (arith, one_there places.first)))
      (there is places.second (omega (arith, one_there places.second)))
      (there is places.third (omega (arith, one_there places.third)))

  by_has : (here : Bool) → some_has jid phases ≡ here → here ≡ false
  by_has false is = refl
  by_has true is = sym (counted is) ∙ not_counted
