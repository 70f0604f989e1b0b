-- The jobs that are live, and how they come to live and end.
use Rattle.std.specs.Prelude.{ℕ, ◌+◌, ◌≤◌, List, [], ◌∷◌, Option, Some, None, option_map, Bool, false, cond, length, IfSome}
use Rattle.std.specs.List.{list_any}
use Rattle.std.specs.BTreeMap.{is_at}
use Rattle.std.specs.BTreeSet.{insert_key}
use Rattle.std.specs.Set.{remove_key}
use Rattle.sk_resp.specs.Spelling.{Bytes}
use Rattle.sk_payload.specs.Head.{jid_of}
use Rattle.sk_undo.specs.Versions.{Versions}
use Rattle.sk_resp.specs.WordOrder.{text_cmp}
use Rattle.sk_places.specs.declared.ending.Ending.{Ending}
use Rattle.sk_places.specs.declared.ending.Ending.TheVariants.{Muddled}
use Rattle.sk_places.specs.declared.origin.Origin.{Origin}
use Rattle.sk_places.specs.declared.totals.Totals.{Totals}
use Rattle.sk_places.specs.Totals.{no_totals, pushes_in, count_push, count_end, accounted, last_push, last_outside}

pub record Lived : Type 0 where
  -- the ids of the jobs that are live, in the order of their bytes
  pub live : List Bytes
  -- how many rows were ever pushed, and what became of them
  pub totals : Totals

abbrev pub no_jobs : Lived
no_jobs = record { live = []; totals = no_totals }

abbrev pub is_among : Bytes → List Bytes → Bool
is_among jid live = list_any (is_at (text_cmp jid)) live

abbrev pub without_jid : Bytes → List Bytes → List Bytes
without_jid jid live = remove_key (is_at (text_cmp jid)) live

abbrev pub one_if : Bool → ℕ
one_if b = cond b 1 0

-- ## A push

-- A fresh job lives, and one that isn't fresh is muddled, if it was live. Text without a head is no job.
abbrev pub born : (Bytes → Bool) → Option Bytes → List Bytes → List Bytes
born fresh None live = live
born fresh (Some jid) live = cond (fresh jid) (insert_key text_cmp live jid) (without_jid jid live)

abbrev pub count_job : (Bytes → Bool) → Option Bytes → List Bytes → Totals → Totals
count_job fresh None live t = record t { bare = t.bare + 1 }
count_job fresh (Some jid) live t = cond (fresh jid) t (count_end Muddled (one_if (is_among jid live)) (record t { again = t.again + 1 }))

abbrev pub pushed : Origin → (Bytes → Bool) → Bytes → Lived → Lived
pushed from fresh text l = record { live = born fresh (jid_of text) l.live; totals = count_job fresh (jid_of text) l.live (count_push from l.totals) }

-- ## An end

abbrev pub over : Option Bytes → List Bytes → List Bytes
over None live = live
over (Some jid) live = without_jid jid live

abbrev pub was_live : Option Bytes → List Bytes → Bool
was_live None live = false
was_live (Some jid) live = is_among jid live

-- the job of the text ends in this way, if it is live
abbrev pub ended : Ending → Bytes → Lived → Lived
ended how text l = record { live = over (jid_of text) l.live; totals = count_end how (one_if (was_live (jid_of text) l.live)) l.totals }

-- and so do the jobs of each of these texts
abbrev pub all_ended : Ending → List Bytes → Lived → Lived
all_ended how [] l = l
all_ended how (text ∷ texts) l = all_ended how texts (ended how text l)

-- ## As the code keeps them

abbrev pub lived : List Bytes → Totals → Lived
lived live totals = record { live = live; totals = totals }

-- the live jobs with their step, the totals, and what these were at the begin of the step
abbrev pub jobs_in : Versions (List Bytes) → Totals → Totals → Versions Lived
jobs_in live totals totals_then = record { current = lived live.current totals; saved = option_map (λ l. lived l totals_then) live.saved }

-- a row with this job, or with none, is pushed
abbrev pub job_pushed : Origin → Bool → Option Bytes → Lived → Lived
job_pushed from fresh job l = record { live = born (λ jid. fresh) job l.live; totals = count_job (λ jid. fresh) job l.live (count_push from l.totals) }

-- No more jobs live or ended than rows were pushed, so no total grows too large.
pub record IsAccounted (l : Lived) : Type 0 where
  pub within : accounted l.totals (length l.live) ≤ pushes_in l.totals
  pub few : pushes_in l.totals ≤ last_push
  pub outside : l.totals.outside ≤ last_outside

-- what stands, and what stood
pub record AreAccounted (s : Versions Lived) : Type 0 where
  pub current : IsAccounted s.current
  pub saved : IfSome s.saved IsAccounted
