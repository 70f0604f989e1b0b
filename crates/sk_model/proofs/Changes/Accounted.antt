-- Each change leaves the live jobs kept, and the pushed rows accounted for.
use Rattle.std.proofs.Common.{◌≡◌, ◌⊎◌, inl, ℕ, ◌+◌, suc, List, length, refl, sym, ap, ◌∙◌, arith, Bool, true, false, cond}
use Rattle.std.specs.Prelude.{Option, Some, None, option_map, unwrap_or}
use Rattle.std.specs.Str.{bytes_eq}
use Rattle.std.specs.BTreeSet.{insert_key}
use Rattle.sk_resp.specs.Spelling.{Bytes}
use Rattle.sk_resp.specs.WordOrder.{text_cmp}
use Rattle.sk_payload.specs.Head.{head, names, jid_of}
use Rattle.sk_payload.specs.declared.head.Head.{Head}
use Rattle.sk_seats.specs.declared.phase.Phase.{Phase}
use Rattle.sk_seats.specs.declared.phase.Phase.TheVariants.{Plain, Joined}
use Rattle.sk_seats.specs.declared.work.Stage.{Stage}
use Rattle.sk_seats.specs.declared.work.Stage.TheVariants.{Held, Put, Settled}
use Rattle.sk_seats.specs.declared.work.Work.{Work}
use Rattle.sk_seats.specs.Works.{first, is_done_as}
use Rattle.sk_places.specs.declared.ending.Ending.{Ending}
use Rattle.sk_places.specs.declared.ending.Ending.TheVariants.{Returned, Discarded, Deleted, Trimmed, Muddled}
use Rattle.sk_places.specs.declared.origin.Origin.{Origin}
use Rattle.sk_places.specs.declared.origin.Origin.TheVariants.{Outside, Inner}
use Rattle.sk_places.specs.declared.totals.Totals.{Totals}
use Rattle.sk_places.specs.Totals.{accounted, pushes_in, count_push, count_end}
use Rattle.sk_model.specs.World.{World, phase_of}
use Rattle.sk_model.specs.Live.{fresh, is_live, born, count_job, with_end}
use Rattle.sk_places.specs.LiveJobs.{without_jid, one_if, over, was_live}
use Rattle.sk_model.specs.Change.{Move, Add, Carry, Take, Trim, Merge, PutBack, Free, Change, Moves, Passes, Names, Unnames, Keeps, Turns, Beats, Counts, Recovers, Forgets, Locks, Unlocks, Elects, TakesSlot, Fire, Makes, Joins, Notifies, ending_of, freed, freed_at, freed_work, moved, changed}
use Rattle.sk_model.specs.Life.{Life, Unborn, Live, Ended, IsKept, IsSound, Knows, Balanced, is_distinct, ended, freed_life, life_at, life_of_work, life_after}
use Rattle.sk_model.proofs.Tools.Texts.{bytes_tell}
use Rattle.sk_model.proofs.Changes.LiveJobs.{has_jid, has_inserted, has_left, had_before, had_other, length_inserted, length_left, distinct_inserted, distinct_left}

-- ## The job of a text

abbrev pub is_jid : Bytes → Option Bytes → Bool
is_jid jid None = false
is_jid jid (Some other) = bytes_eq other jid

of_head : (jid : Bytes) (found : Option Head) → unwrap_or (option_map (λ h. bytes_eq h.jid jid) found) false ≡ is_jid jid (option_map (λ h. h.jid) found)
of_head jid None = refl
of_head jid (Some h) = refl

names_is : (text jid : Bytes) → names text jid ≡ is_jid jid (jid_of text)
names_is text jid = of_head jid (head text)

-- ## Lives, and the live jobs

-- a job that is live after a push was so before, and is another; or it is the fresh one
born_back : (w : World) (o : Option Bytes) (jid : Bytes) → is_distinct w.live ≡ true → has_jid jid (born w o) ≡ true → ((is_live w jid ≡ true) × (is_jid jid o ≡ false)) ⊎ ((is_jid jid o ≡ true) × (fresh w jid ≡ true))
born_back w None jid distinct live = inl (live, refl)
born_back w (Some k) jid distinct live = by_fresh (fresh w k) refl live where
  by_fresh : (new : Bool) → fresh w k ≡ new → has_jid jid (cond new (insert_key text_cmp w.live k) (without_jid k w.live)) ≡ true → ((is_live w jid ≡ true) × (bytes_eq k jid ≡ false)) ⊎ ((bytes_eq k jid ≡ true) × (fresh w jid ≡ true))
  by_fresh true e live = let i = has_inserted w.live k jid in grind (arith, i, e, live, bytes_tell)
  by_fresh false e live = let b = had_before w.live k jid live in let n = had_other w.live k distinct in grind (arith, b, n, live, bytes_tell)

-- a job that is live after an end was so before, and is another
over_back : (o : Option Bytes) (live : List Bytes) (jid : Bytes) → is_distinct live ≡ true → has_jid jid (over o live) ≡ true → (has_jid jid live ≡ true) × (is_jid jid o ≡ false)
over_back None live jid distinct there = (there, refl)
over_back (Some k) live jid distinct there = let b = had_before live k jid there in let n = had_other live k distinct in grind (arith, b, n, there, bytes_tell)

module _ (w : World) (jid : Bytes) (before : Life) (distinct : is_distinct w.live ≡ true) (was : is_live w jid ≡ true → before ≡ Live) where
  gone_back : (text : Bytes) (how : Ending) → has_jid jid (over (jid_of text) w.live) ≡ true → cond (names text jid) (ended how before) before ≡ Live
  gone_back text how live = let b = over_back (jid_of text) w.live jid distinct live in let n = names_is text jid in let l = was b.0 in grind (arith, b.1, n, l)

  at_back : (stage : Stage) (ident text : Bytes) → has_jid jid (freed_at stage ident text w).live ≡ true → life_at stage text jid before ≡ Live
  at_back Held ident text live = was live
  at_back Put ident text live = was live
  at_back (Settled end) ident text live = gone_back text (ending_of end) live

  work_back : (ident : Bytes) (found : Option Work) → has_jid jid (freed_work ident w found).live ≡ true → life_of_work jid before found ≡ Live
  work_back ident None live = was live
  work_back ident (Some work) live = at_back work.stage ident work.payload live

  free_back : (text : Bytes) (phase : Phase) → has_jid jid (freed text w phase).live ≡ true → freed_life text phase jid before ≡ Live
  free_back text Plain live = was live
  free_back text (Joined ident works) live = work_back ident (first (is_done_as text) works) live

  -- a job that the world has as live has the life Live, where it had it before
  move_back : (move : Move) → is_live (moved w move) jid ≡ true → life_after w jid before (Moves move) ≡ Live
  move_back (Add row end from) live = let b = born_back w (jid_of row.text) jid distinct live in let n = names_is row.text jid in grind (arith, b, n, was)
  move_back (Take row from) live = gone_back row.text Deleted live
  move_back (Trim row) live = gone_back row.text Trimmed live
  move_back (Free seat text) live = free_back text (phase_of w seat) live
  move_back (Carry row from to score end) live = was live
  move_back (Merge row) live = was live
  move_back (PutBack row) live = was live
  move_back (Fire bid kind) live = was live

  live_back : (change : Change) → is_live (changed w change) jid ≡ true → life_after w jid before change ≡ Live
  live_back (Moves move) live = move_back move live
  live_back (Passes now) live = was live
  live_back (Names queue) live = was live
  live_back (Unnames queue) live = was live
  live_back (Keeps keys) live = was live
  live_back (Turns seat phase) live = was live
  live_back (Beats ident) live = was live
  live_back (Counts name) live = was live
  live_back (Recovers other) live = was live
  live_back (Forgets other) live = was live
  live_back (Locks digest other seconds) live = was live
  live_back (Unlocks digest other) live = was live
  live_back (Elects ident) live = was live
  live_back (TakesSlot loop slot text) live = was live
  live_back (Makes batch jids) live = was live
  live_back (Joins bid jids) live = was live
  live_back (Notifies event bid other) live = was live

born_on : (w : World) (o : Option Bytes) (jid : Bytes) → is_jid jid o ≡ false → is_live w jid ≡ true → has_jid jid (born w o) ≡ true
born_on w None jid other there = there
born_on w (Some k) jid other there = let i = has_inserted w.live k jid in let l = has_left w.live k jid in grind (arith, i, l, other, there, bytes_tell)

fresh_on : (w : World) (o : Option Bytes) (jid : Bytes) → is_jid jid o ≡ true → fresh w jid ≡ true → has_jid jid (born w o) ≡ true
fresh_on w None jid named new = absurd (cc named)
fresh_on w (Some k) jid named new = let i = has_inserted w.live k jid in grind (arith, i, named, new, bytes_tell)

over_on : (o : Option Bytes) (live : List Bytes) (jid : Bytes) → is_jid jid o ≡ false → has_jid jid live ≡ true → has_jid jid (over o live) ≡ true
over_on None live jid other there = there
over_on (Some k) live jid other there = let l = has_left live k jid in grind (arith, l, other, there, bytes_tell)

ended_dead : (how : Ending) (before : Life) → ended how before ≡ Live → ⊥
ended_dead how Unborn live = cc live
ended_dead how Live live = cc live
ended_dead how (Ended one) live = cc live

module _ (w : World) (jid : Bytes) (before : Life) (was : before ≡ Live → is_live w jid ≡ true) where
  gone_on : (text : Bytes) (how : Ending) → cond (names text jid) (ended how before) before ≡ Live → has_jid jid (over (jid_of text) w.live) ≡ true
  gone_on text how live = by_name (names text jid) refl live where
    by_name : (named : Bool) → names text jid ≡ named → cond named (ended how before) before ≡ Live → has_jid jid (over (jid_of text) w.live) ≡ true
    by_name true e live = absurd (ended_dead how before live)
    by_name false e live = over_on (jid_of text) w.live jid (sym (names_is text jid) ∙ e) (was live)

  at_on : (stage : Stage) (ident text : Bytes) → life_at stage text jid before ≡ Live → has_jid jid (freed_at stage ident text w).live ≡ true
  at_on Held ident text live = was live
  at_on Put ident text live = was live
  at_on (Settled end) ident text live = gone_on text (ending_of end) live

  work_on : (ident : Bytes) (found : Option Work) → life_of_work jid before found ≡ Live → has_jid jid (freed_work ident w found).live ≡ true
  work_on ident None live = was live
  work_on ident (Some work) live = at_on work.stage ident work.payload live

  free_on : (text : Bytes) (phase : Phase) → freed_life text phase jid before ≡ Live → has_jid jid (freed text w phase).live ≡ true
  free_on text Plain live = was live
  free_on text (Joined ident works) live = work_on ident (first (is_done_as text) works) live

  add_on : (text : Bytes) → cond (names text jid) (cond (fresh w jid) Live (ended Muddled before)) before ≡ Live → has_jid jid (born w (jid_of text)) ≡ true
  add_on text live = by_name (names text jid) (fresh w jid) refl refl live where
    by_name : (named new : Bool) → names text jid ≡ named → fresh w jid ≡ new → cond named (cond new Live (ended Muddled before)) before ≡ Live → has_jid jid (born w (jid_of text)) ≡ true
    by_name true true e f live = fresh_on w (jid_of text) jid (sym (names_is text jid) ∙ e) f
    by_name true false e f live = absurd (ended_dead Muddled before live)
    by_name false new e f live = born_on w (jid_of text) jid (sym (names_is text jid) ∙ e) (was live)

  move_on : (move : Move) → life_after w jid before (Moves move) ≡ Live → is_live (moved w move) jid ≡ true
  move_on (Add row end from) live = add_on row.text live
  move_on (Take row from) live = gone_on row.text Deleted live
  move_on (Trim row) live = gone_on row.text Trimmed live
  move_on (Free seat text) live = free_on text (phase_of w seat) live
  move_on (Carry row from to score end) live = was live
  move_on (Merge row) live = was live
  move_on (PutBack row) live = was live
  move_on (Fire bid kind) live = was live

  live_on : (change : Change) → life_after w jid before change ≡ Live → is_live (changed w change) jid ≡ true
  live_on (Moves move) live = move_on move live
  live_on (Passes now) live = was live
  live_on (Names queue) live = was live
  live_on (Unnames queue) live = was live
  live_on (Keeps keys) live = was live
  live_on (Turns seat phase) live = was live
  live_on (Beats ident) live = was live
  live_on (Counts name) live = was live
  live_on (Recovers other) live = was live
  live_on (Forgets other) live = was live
  live_on (Locks digest other seconds) live = was live
  live_on (Unlocks digest other) live = was live
  live_on (Elects ident) live = was live
  live_on (TakesSlot loop slot text) live = was live
  live_on (Makes batch jids) live = was live
  live_on (Joins bid jids) live = was live
  live_on (Notifies event bid other) live = was live

-- The world has a job as live exactly where its life is Live, if it did so before.
pub known_change : (w : World) (change : Change) (jid : Bytes) (life : Life) → IsSound w → Knows w jid life → Knows (changed w change) jid (life_after w jid life change)
known_change w change jid life s knows = (λ live. live_back w jid life s.distinct knows.0 change live, λ live. live_on w jid life knows.1 change live)

-- ## The pushed rows

-- Of two worlds the second has more pushed rows, and as many more are accounted for.
abbrev pub Tallies : World → World → Type 0
Tallies w v = (is_distinct v.live ≡ true) × Balanced v

count_by : (from : Origin) (t : Totals) (live : ℕ) → (pushes_in (count_push from t) ≡ suc (pushes_in t)) × (accounted (count_push from t) live ≡ accounted t live)
count_by Outside t live = (omega arith, refl)
count_by Inner t live = (omega arith, refl)

count_over : (how : Ending) (n : ℕ) (t : Totals) (live : ℕ) → (pushes_in (count_end how n t) ≡ pushes_in t) × (accounted (count_end how n t) live ≡ accounted t live + n)
count_over Returned n t live = (refl, omega arith)
count_over Discarded n t live = (refl, omega arith)
count_over Deleted n t live = (refl, omega arith)
count_over Trimmed n t live = (refl, omega arith)
count_over Muddled n t live = (refl, omega arith)

module _ (w : World) (s : IsSound w) where
  -- what is fresh isn't live
  fresh_dies : (jid : Bytes) → fresh w jid ≡ true → is_live w jid ≡ false
  fresh_dies jid new = by_live (is_live w jid) refl where
    by_live : (b : Bool) → is_live w jid ≡ b → b ≡ false
    by_live true live = let k = (s.kept jid live).standing in grind (arith, new, k)
    by_live false live = refl

  born_distinct : (o : Option Bytes) → is_distinct (born w o) ≡ true
  born_distinct None = s.distinct
  born_distinct (Some k) = by_fresh (fresh w k) refl where
    by_fresh : (new : Bool) → fresh w k ≡ new → is_distinct (cond new (insert_key text_cmp w.live k) (without_jid k w.live)) ≡ true
    by_fresh true e = distinct_inserted w.live k (fresh_dies k e) s.distinct
    by_fresh false e = distinct_left w.live k s.distinct

  -- one more row is accounted for by a push
  job_count : (o : Option Bytes) (t : Totals) → accounted (count_job w o t) (length (born w o)) ≡ suc (accounted t (length w.live))
  job_count None t = omega arith
  job_count (Some k) t = by_fresh (fresh w k) refl where
    by_fresh : (new : Bool) → fresh w k ≡ new → accounted (cond new t (count_end Muddled (one_if (is_live w k)) (record t { again = t.again + 1 }))) (length (cond new (insert_key text_cmp w.live k) (without_jid k w.live))) ≡ suc (accounted t (length w.live))
    by_fresh true e = omega (arith, length_inserted w.live k (fresh_dies k e))
    by_fresh false e = omega (arith, length_left w.live k)

  job_pushes : (o : Option Bytes) (t : Totals) → pushes_in (count_job w o t) ≡ pushes_in t
  job_pushes None t = refl
  job_pushes (Some k) t = grind arith

  over_distinct : (o : Option Bytes) → is_distinct (over o w.live) ≡ true
  over_distinct None = s.distinct
  over_distinct (Some k) = distinct_left w.live k s.distinct

  over_length : (o : Option Bytes) → length (over o w.live) + one_if (was_live o w.live) ≡ length w.live
  over_length None = omega arith
  over_length (Some k) = length_left w.live k

  end_counts : (how : Ending) (text : Bytes) → Tallies w (with_end how text w)
  end_counts how text =
      let c = count_over how (one_if (was_live (jid_of text) w.live)) w.tally (length (over (jid_of text) w.live)) in
      (over_distinct (jid_of text), omega (arith, c.0, c.1, over_length (jid_of text), s.balanced))

  at_counts : (stage : Stage) (ident text : Bytes) → Tallies w (freed_at stage ident text w)
  at_counts Held ident text = (s.distinct, s.balanced)
  at_counts Put ident text = (s.distinct, s.balanced)
  at_counts (Settled end) ident text = end_counts (ending_of end) text

  work_counts : (ident : Bytes) (found : Option Work) → Tallies w (freed_work ident w found)
  work_counts ident None = (s.distinct, s.balanced)
  work_counts ident (Some work) = at_counts work.stage ident work.payload

  free_counts : (text : Bytes) (phase : Phase) → Tallies w (freed text w phase)
  free_counts text Plain = (s.distinct, s.balanced)
  free_counts text (Joined ident works) = work_counts ident (first (is_done_as text) works)

  move_counts : (move : Move) → Tallies w (moved w move)
  move_counts (Add row end from) =
      let c = count_by from w.tally (length w.live) in
      let t : Totals = count_push from w.tally in
      (born_distinct (jid_of row.text), omega (arith, c.0, c.1, job_count (jid_of row.text) t, job_pushes (jid_of row.text) t, s.balanced))
  move_counts (Take row from) = end_counts Deleted row.text
  move_counts (Trim row) = end_counts Trimmed row.text
  move_counts (Free seat text) = free_counts text (phase_of w seat)
  move_counts (Carry row from to score end) = (s.distinct, s.balanced)
  move_counts (Merge row) = (s.distinct, s.balanced)
  move_counts (PutBack row) = (s.distinct, s.balanced)
  move_counts (Fire bid kind) = (s.distinct, s.balanced)

  change_counts : (change : Change) → Tallies w (changed w change)
  change_counts (Moves move) = move_counts move
  change_counts (Passes now) = (s.distinct, s.balanced)
  change_counts (Names queue) = (s.distinct, s.balanced)
  change_counts (Unnames queue) = (s.distinct, s.balanced)
  change_counts (Keeps keys) = (s.distinct, s.balanced)
  change_counts (Turns seat phase) = (s.distinct, s.balanced)
  change_counts (Beats ident) = (s.distinct, s.balanced)
  change_counts (Counts name) = (s.distinct, s.balanced)
  change_counts (Recovers other) = (s.distinct, s.balanced)
  change_counts (Forgets other) = (s.distinct, s.balanced)
  change_counts (Locks digest other seconds) = (s.distinct, s.balanced)
  change_counts (Unlocks digest other) = (s.distinct, s.balanced)
  change_counts (Elects ident) = (s.distinct, s.balanced)
  change_counts (TakesSlot loop slot text) = (s.distinct, s.balanced)
  change_counts (Makes batch jids) = (s.distinct, s.balanced)
  change_counts (Joins bid jids) = (s.distinct, s.balanced)
  change_counts (Notifies event bid other) = (s.distinct, s.balanced)

-- a life as the world knows it
abbrev known : Bool → Life
known true = Live
known false = Unborn

known_live : (b : Bool) → known b ≡ Live → b ≡ true
known_live true e = refl
known_live false e = absurd (cc e)

-- A change that keeps each job whose life is Live leaves a sound world sound.
pub sound_change : (w : World) (change : Change) → ((jid : Bytes) (life : Life) → (life ≡ Live → IsKept w jid) → life_after w jid life change ≡ Live → IsKept (changed w change) jid) → IsSound w → IsSound (changed w change)
sound_change w change keeps s = record {
  kept = λ jid live. keeps jid (known (is_live w jid)) (λ l. s.kept jid (known_live (is_live w jid) l)) (live_back w jid (known (is_live w jid)) s.distinct (λ y. ap known y) change live);
  distinct = (change_counts w s change).0;
  balanced = (change_counts w s change).1;
}
