-- What is recorded of jobs: how many rows name each of them, and which are live.
use Rattle.std.specs.Prelude.{◌≡◌, ◌+◌, ◌-◌, ◌^◌, ◌&&◌, ℕ, Bool, true, false, Option, Some, IfSome, List, cond, length, map, nat_eq, nat_lt, not, option_map}
use Rattle.std.specs.BTreeSet.{insert_key}
use Rattle.std.specs.Map.{keys_of}
use Rattle.sk_payload.specs.Head.{jid_of}
use Rattle.sk_resp.specs.Spelling.{Bytes}
use Rattle.sk_resp.specs.WordOrder.{text_cmp}
use Rattle.sk_undo.specs.Versions.{Versions}
use Rattle.sk_table.specs.Counts.{Counts, count_in, counted}
use Rattle.sk_places.specs.Ends.{left}
use Rattle.sk_places.specs.Index.{count_of, with_job, without_job}
use Rattle.sk_places.specs.LiveJobs.{Lived, job_pushed, lived, one_if, pushed, was_live, without_jid}
use Rattle.sk_places.specs.Totals.{count_end}
use Rattle.sk_places.specs.declared.ending.Ending.{Ending}
use Rattle.sk_places.specs.declared.ending.Ending.TheVariants.{Muddled}
use Rattle.sk_places.specs.declared.job_record.JobRecord.{JobRecord}
use Rattle.sk_places.specs.declared.origin.Origin.{Origin}
use Rattle.sk_places.specs.declared.totals.Totals.{Totals}

pub record Recorded : Type 0 where
  -- how many rows name each job
  pub counts : Counts
  -- the jobs that are live, and what became of the others
  pub lived : Lived

abbrev pub recorded : Counts → Lived → Recorded
recorded counts lived = record { counts = counts; lived = lived }

-- no row names the job, and no worker has it in its hands
abbrev pub is_new : Bool → Counts → Bytes → Bool
is_new held counts jid = nat_eq (count_in jid counts) 0 && not held

-- a row of this job is pushed
abbrev pub job_recorded : Origin → Bool → Bytes → Recorded → Recorded
job_recorded from held jid r = recorded (with_job (Some jid) r.counts) (job_pushed from (is_new held r.counts jid) (Some jid) r.lived)

-- a row of this text is pushed
abbrev pub row_pushed : Origin → Bool → Bytes → Recorded → Recorded
row_pushed from held text r = recorded (with_job (jid_of text) r.counts) (pushed from (is_new held r.counts) text r.lived)

-- there is one more row of this text
abbrev pub row_added : Bytes → Recorded → Recorded
row_added text r = recorded (with_job (jid_of text) r.counts) r.lived

-- there is one less, and its job ends in this way, if it does and is live
abbrev pub row_left : Option Ending → Bytes → Recorded → Recorded
row_left how text r = recorded (without_job (jid_of text) r.counts) (left how text r.lived)

-- ## As the code keeps them

-- One number is kept under a job's id: how many rows name it, and as much as this more where it is live.
abbrev pub live_mark : ℕ
live_mark = 2 ^ 31

abbrev pub is_live : ℕ → Bool
is_live n = not (nat_lt n live_mark)

abbrev pub rows_noted : ℕ → ℕ
rows_noted n = cond (is_live n) (n - live_mark) n

abbrev pub live_noted : ℕ → ℕ
live_noted n = one_if (is_live n)

-- one part of each number, and no job of which that is none
abbrev pub part_of : (ℕ → ℕ) → Counts → Counts
part_of part numbers = counted (map (λ entry. (entry.0, part entry.1)) numbers)

abbrev pub counts_in : Counts → Counts
counts_in numbers = part_of rows_noted numbers

abbrev pub live_in : Counts → List Bytes
live_in numbers = keys_of (part_of live_noted numbers)

abbrev pub recorded_in : Counts → Totals → Recorded
recorded_in numbers totals = recorded (counts_in numbers) (lived (live_in numbers) totals)

-- the numbers with their step, the totals, and what these were at the begin of the step
abbrev pub records_in : Versions Counts → Totals → Totals → Versions Recorded
records_in numbers totals totals_then = record { current = recorded_in numbers.current totals; saved = option_map (λ n. recorded_in n totals_then) numbers.saved }

-- the number of so many rows, and of a job that is live or isn't
abbrev pub number_of : ℕ → Bool → ℕ
number_of rows live = cond live (rows + live_mark) rows

-- the jobs that are live, with this one or without it
abbrev pub live_with : Bool → Bytes → List Bytes → List Bytes
live_with true jid live = insert_key text_cmp live jid
live_with false jid live = without_jid jid live

-- how many jobs are live, where one of them was or wasn't, and now is or isn't
abbrev pub live_after : ℕ → Bool → Bool → ℕ
live_after live before after = cond after (cond before live (live + 1)) (cond before (live - 1) live)

-- what the numbers tell of the job, and of no job where there is none
pub record IsRecordOf (record_of : JobRecord) (job : Option Bytes) (numbers : Counts) : Type 0 where
  pub rows : record_of.rows ≡ count_of job (counts_in numbers)
  pub live : record_of.live ≡ was_live job (live_in numbers)

-- the row that was pushed has a job, which is fresh, or was live or wasn't
abbrev pub count_named : Bool → Bool → Totals → Totals
count_named fresh live t = cond fresh t (count_end Muddled (one_if live) (record t { again = t.again + 1 }))

-- how many jobs are live, and how many were
pub record AreLiveCounted (numbers : Versions Counts) (live live_then : ℕ) : Type 0 where
  pub current : live ≡ length (live_in numbers.current)
  pub saved : IfSome numbers.saved (λ n. live_then ≡ length (live_in n))
