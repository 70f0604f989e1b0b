-- The changes of the commands on sets of jobs are good.
use Rattle.std.proofs.Common.{ℤ, subst, ◌≡◌, ◌≤◌, ◌+◌, ◌-◌, ℕ, zero, suc, List, [], ◌∷◌, ◌++◌, refl, sym, ap, ◌∙◌, arith, Bool, true, false, cond, not, length, map}
use Rattle.std.specs.Prelude.{pos, Option, Some, None, filter, take}
use Rattle.std.specs.List.{list_any, list_all}
use Rattle.std.specs.Ordering.{int_cmp, is_eq, is_le}
use Rattle.std.specs.Str.{bytes_eq}
use Rattle.sk_resp.specs.Spelling.{Bytes}
use Rattle.sk_cmd.specs.declared.argument.Side.{Side}
use Rattle.sk_cmd.specs.declared.argument.Side.TheVariants.{Left}
use Rattle.sk_cmd.specs.declared.argument.Scored.{Scored}
use Rattle.sk_cmd.specs.declared.argument.Scored.TheVariants.{Schedule, Retry, Dead}
use Rattle.sk_payload.specs.Head.{head}
use Rattle.sk_payload.specs.declared.head.Head.{Head}
use Rattle.sk_zset.specs.Pair.{Pair}
use Rattle.sk_value.specs.declared.write_op.WriteOp.{WriteOp}
use Rattle.sk_value.specs.declared.write_op.WriteOp.TheVariants as edit
use Rattle.sk_value.specs.Lists.{first_index, end_index, range_of}
use Rattle.sk_resp.specs.WordOrder.{is_member}
use Rattle.sk_zset.specs.Bounds.{is_between}
use Rattle.sk_model.specs.Room.{is_full}
use Rattle.sk_places.specs.declared.row.Place.{Place}
use Rattle.sk_places.specs.declared.row.Place.TheVariants.{Queue, Private, Set}
use Rattle.sk_places.specs.declared.row.Row.{Row}
use Rattle.sk_places.specs.Rows.{pair_of, place_cmp, stands_before, is_at, is_same, rows_at, row_of, row_in, take_row, first_row}
use Rattle.sk_model.specs.World.{World}
use Rattle.sk_model.specs.Change.{Carry, Take, Trim, Merge, Change, Moves, carried, changed, perform}
use Rattle.sk_model.specs.Outcome.{Outcome}
use Rattle.sk_places.specs.Rows.{copies_of}
use Rattle.sk_model.specs.Deletes.{take_all}
use Rattle.sk_model.specs.Sets.{add_as, add_one, add_each, edit_jobs}
use Rattle.sk_model.specs.Jobs.{merge, put_dead, is_old, surplus, most_dead, moment_score, buried_by, Routed, bury, to_queue, promote, each, waiting_rows, due, kill, kill_row, revive, revive_row, revive_as}
use Rattle.sk_model.proofs.Tools.Texts.{bytes_tell, same_is}
use Rattle.sk_model.proofs.Tools.RowsTaken.{passes}
use Rattle.sk_model.proofs.Changes.Rows.{still_there}
use Rattle.sk_model.proofs.Tools.RowsThatGo.{both_parts, append_count, take_fewer, Among, filter_among, take_among, drop_among, among_through, count_first, first_among, count_taken, count_put, count_apart, going_good}
use Rattle.sk_batch.specs.Batched.{Batched}
use Rattle.sk_batch.specs.declared.event.Event.TheVariants.{Died}
use Rattle.sk_batch.specs.declared.firing.Kind.TheVariants.{Death}
use Rattle.sk_model.specs.Notify.{notify}
use Rattle.sk_model.specs.Once.{times, buries, is_burial, is_dead_set, is_of_batch}
use Rattle.sk_model.proofs.Changes.Marked.{Sane}
use Rattle.sk_model.proofs.Changes.Fired.{all_quiet, quiet-append, quiet_batches, quiet_times, times-append}
use Rattle.sk_model.proofs.Changes.Batches.{Leads, StaysWhole, leads_then}
use Rattle.sk_model.proofs.Changes.Callbacks.{calls-append, calls_quiet}
use Rattle.sk_model.proofs.Changes.Order.{buried_late, no_fires, order_behind, quiet_none, some_burial}
use Rattle.sk_model.proofs.Changes.Jobs.{KeepsJobs, keeps_append, keeps_others, keeps_carry, keeps_merge}
use Rattle.sk_model.proofs.Changes.Covered.{covers_append, covers_quiet}
use Rattle.sk_model.proofs.Changes.Lawful.{Good, buries-append, has_died, leads_quiet, stays_quiet, good_nothing, good_append, then_others, perform-append, good_add, good_carry, good_take, good_trim}
use Rattle.sk_model.proofs.Changes.Notify.{TellsDeath, tells_death, notify_more}

-- whichever of two outcomes it is
pub choice : (w : World) (b : Bool) (one other : Outcome) → (b ≡ true → Good w one.changes) → (b ≡ false → Good w other.changes) → Good w (cond b one other).changes
choice w true one other f g = f refl
choice w false one other f g = g refl

-- ## The row that a text names

first_is : (rows : List Row) (row : Row) → first_row rows ≡ Some row → (more : List Row) × (rows ≡ row ∷ more)
first_is [] row e = absurd (cc e)
first_is (other ∷ rows) row e = (rows, ap (λ r. r ∷ rows) (cc e))

one_of : (row : Row) (more rows : List Row) → rows ≡ row ∷ more → Among (row ∷ []) rows
one_of row more rows e other = omega (arith, count_first other row [], count_first other row more, ap (copies_of other) e)

-- it is among the rows
row_among : (text : Bytes) (row : Row) (rows : List Row) → row_of text rows ≡ Some row → Among (row ∷ []) rows
row_among text row rows e =
    let test : Row → Bool = λ other. bytes_eq text other.text in
    let first = first_is (filter test rows) row e in
    among_through (row ∷ []) (filter test rows) rows (one_of row first.0 (filter test rows) first.1) (filter_among test rows)

pub row_there : (text : Bytes) (row : Row) (place : Place) (rows : List Row) → row_of text (rows_at place rows) ≡ Some row → list_any (is_same row) rows ≡ true
row_there text row place rows e = first_among row [] rows (among_through (row ∷ []) (rows_at place rows) rows (row_among text row (rows_at place rows) e) (filter_among (is_at place) rows))

-- it has the text
pub row_text : (text : Bytes) (row : Row) (rows : List Row) → row_of text rows ≡ Some row → bytes_eq text row.text ≡ true
row_text text row rows e =
    let test : Row → Bool = λ other. bytes_eq text other.text in
    let first = first_is (filter test rows) row e in
    passes test row first.0 rows first.1

-- what stands first of a part of those that pass a test passes it
passes_both : (part test : Row → Bool) (row : Row) (more rows : List Row) → filter part (filter test rows) ≡ row ∷ more → test row ≡ true
passes_both part test row more [] e = absurd (cc e)
passes_both part test row more (other ∷ rows) e = grind (arith, e, passes_both part test row more rows)

-- it is at its place
row_at_place : (text : Bytes) (row : Row) (test : Row → Bool) (rows : List Row) → row_of text (filter test rows) ≡ Some row → test row ≡ true
row_at_place text row test rows e =
    let part : Row → Bool = λ other. bytes_eq text other.text in
    let first = first_is (filter part (filter test rows)) row e in
    passes_both part test row first.0 rows first.1

-- ## All of a list

pub all_own : {A : Type 0} (test : A → Bool) (xs : List A) → list_all test (filter test xs) ≡ true
all_own test [] = refl
all_own test (x ∷ xs) = grind (arith, all_own test xs)

pub all_filter : {A : Type 0} (test part : A → Bool) (xs : List A) → list_all test xs ≡ true → list_all test (filter part xs) ≡ true
all_filter test part [] all = refl
all_filter test part (x ∷ xs) all = grind (arith, all_filter test part xs)

all_take : {A : Type 0} (test : A → Bool) (n : ℕ) (xs : List A) → list_all test xs ≡ true → list_all test (take n xs) ≡ true
all_take test zero xs all = refl
all_take test (suc n) [] all = refl
all_take test (suc n) (x ∷ xs) all = grind (arith, all_take test n xs)

all_append : {A : Type 0} (test : A → Bool) (xs ys : List A) → list_all test xs ≡ true → list_all test ys ≡ true → list_all test (xs ++ ys) ≡ true
all_append test [] ys all more = more
all_append test (x ∷ xs) ys all more = grind (arith, all_append test xs ys)

-- ## ZADD, and what takes rows away

add_as_good : (w : World) (set : Scored) (pair : Pair) (found : Option Row) → is_dead_set (Set set) ≡ false → row_of pair.1 (rows_at (Set set) w.rows) ≡ found → Good w (add_as set pair found ∷ [])
add_as_good w set pair None alive e = good_add w (row_in set pair) Left
add_as_good w set pair (Some row) alive e = good_carry w row Left (Set set) pair.0 Left (row_there pair.1 row (Set set) w.rows e) alive

pub add_each_good : (w : World) (set : Scored) (pairs : List Pair) → is_dead_set (Set set) ≡ false → Good w (add_each w set pairs)
add_each_good w set [] alive = good_nothing w
add_each_good w set (pair ∷ pairs) alive = let one = add_one w set pair in
    then_others w one (add_each (changed w one) set pairs) (add_as_good w set pair _ alive refl) (add_each_good (changed w one) set pairs alive)

pub taking_good : (w : World) (rows : List Row) → Among rows w.rows → Good w (take_all rows)
taking_good w rows among = going_good (λ row. Moves (Take row Left)) (λ w row. good_take w row Left) (λ w row. refl) w rows among

part_among : (w : World) (set : Scored) (rows : List Row) → Among rows (rows_at (Set set) w.rows) → Among rows w.rows
part_among w set rows among = among_through rows (rows_at (Set set) w.rows) w.rows among (filter_among (is_at (Set set)) w.rows)

-- ## Burying

-- rows that differ in a test are not the same
apart_by : (test : Row → Bool) (row other : Row) → test row ≡ true → test other ≡ false → is_same row other ≡ false
apart_by test row other passes_ fails = by_same (is_same row other) refl where
  by_same : (b : Bool) → is_same row other ≡ b → b ≡ false
  by_same true e = sym passes_ ∙ ap test (same_is row other e) ∙ fails
  by_same false e = refl

pub text_is : (a b : Bytes) → bytes_eq a b ≡ true → a ≡ b
text_is a b e = grind (arith, bytes_tell a b)

put_as_keeps : (w : World) (row : Row) (found : Option Row) → list_any (is_same row) w.rows ≡ true → is_at (Set Dead) row ≡ false → row_of row.text (rows_at (Set Dead) w.rows) ≡ found
    → KeepsJobs w (merge found ++ Moves (Carry row Left (Set Dead) (moment_score w) Left) ∷ [])
put_as_keeps w row None there alive e = keeps_carry w row Left (Set Dead) (moment_score w) Left there
put_as_keeps w row (Some other) there alive e =
    let apart = apart_by (is_at (Set Dead)) other row (row_at_place row.text other (is_at (Set Dead)) w.rows e) alive in
    let same = sym (text_is row.text other.text (row_text row.text other (rows_at (Set Dead) w.rows) e)) in
    keeps_others w (Moves (Merge other)) (Moves (Carry row Left (Set Dead) (moment_score w) Left) ∷ [])
    (keeps_merge w other row same apart there (row_there row.text other (Set Dead) w.rows e))
    (keeps_carry (changed w (Moves (Merge other))) row Left (Set Dead) (moment_score w) Left (still_there other row w.rows apart there))

surplus_among : (w : World) (rows all : List Row) → Among rows all → Among (surplus w rows) all
surplus_among w rows all among row =
    let young : List Row = filter (λ row. not (is_old w row)) rows in
    let n : ℕ = length young - most_dead in
    omega (arith, append_count (is_same row) (filter (is_old w) rows) (take n young), take_fewer (is_same row) n young, both_parts (is_same row) (is_old w) rows, among row)

pub trims_quiet : (rows : List Row) → all_quiet (map (λ row. Moves (Trim row)) rows) ≡ true
trims_quiet [] = refl
trims_quiet (row ∷ rows) = trims_quiet rows

trims_bury : (b : Bytes) (w : World) (rows : List Row) → buries b w (map (λ row. Moves (Trim row)) rows) ≡ false
trims_bury b w [] = refl
trims_bury b w (row ∷ rows) = trims_bury b (changed w (Moves (Trim row))) rows

-- What buries a text, the trimming of the dead set then, and what the batch is told.
pub record Buries (w : World) (text : Bytes) (put : List Change) : Type 0 where
  pub keeps : KeepsJobs w put
  pub quiet : all_quiet put ≡ true
  pub burial : list_any is_burial put ≡ true
  pub member : (b : Bytes) → buries b w put ≡ is_of_batch b w.batches (head text)

module _ (w : World) (text : Bytes) (put : List Change) (one : Buries w text put) where
  abbrev after : World
  after = perform w put

  abbrev gone : List Row
  gone = surplus after (rows_at (Set Dead) after.rows)

  abbrev done : List Change
  done = put ++ map (λ row. Moves (Trim row)) gone

  trims_good : Good after (map (λ row. Moves (Trim row)) gone)
  trims_good = going_good (λ row. Moves (Trim row)) good_trim (λ w row. refl) after gone (surplus_among after (rows_at (Set Dead) after.rows) after.rows (filter_among (is_at (Set Dead)) after.rows))

  done_quiet : all_quiet done ≡ true
  done_quiet = quiet-append put _ one.quiet (trims_quiet gone)

  done_none : no_fires done ≡ true
  done_none = quiet_none done done_quiet

  done_batches : (perform w done).batches ≡ w.batches
  done_batches = quiet_batches w done done_quiet

  done_buries : (b : Bytes) → buries b w done ≡ is_of_batch b (perform w done).batches (head text)
  done_buries b =
      let both = buries-append b w put (map (λ row. Moves (Trim row)) gone) in
      let trimmed = trims_bury b after gone in
      let own = one.member b in
      let same = ap (λ (s : Batched). is_of_batch b s (head text)) done_batches in
      grind (arith, both, trimmed, own, same)

  abbrev told : List Change
  told = (notify Died (perform w done) text).changes

  notified_death : TellsDeath (perform w done) told (λ b. is_of_batch b (perform w done).batches (head text))
  notified_death = tells_death (perform w done) (head text)

  end_is : perform w (done ++ told) ≡ perform (perform w done) told
  end_is = perform-append w done told

  sane_done : Sane w.batches → Sane (perform w done).batches
  sane_done s = (leads_quiet w done done_quiet).sane s

  died_done : (b : Bytes) → has_died (perform w done).batches b ≡ has_died w.batches b
  died_done b = ap (λ (s : Batched). has_died s b) done_batches

  buries_all : (b : Bytes) → buries b w (done ++ told) ≡ is_of_batch b (perform w done).batches (head text)
  buries_all b =
      let both = buries-append b w done told in
      let own = done_buries b in
      let none = notified_death.buries_none b in
      grind (arith, both, own, none)

  pub buried_good : Good w (buried_by w text put).changes
  buried_good = record {
    lawful = record {
      keeps = keeps_append w done told (keeps_append w put _ one.keeps trims_good.lawful.keeps) notified_death.keeps;
      leads = subst (λ (v : World). Leads w.batches v.batches (λ kind b. times kind b (done ++ told))) (sym end_is)
          (leads_then w.batches (perform w done).batches (perform (perform w done) told).batches _ _ _ (λ kind b. times-append kind b done told) (leads_quiet w done done_quiet) notified_death.leads notified_death.stays);
      deaths = record {
        once = λ s b.
            let sum = times-append Death b done told in
            let none = quiet_times Death b done done_quiet in
            let count = notified_death.once (sane_done s) b in
            let all = buries_all b in
            let died = died_done b in
            grind (arith, sum, none, count, all, died);
        died = λ s b.
            let is = notified_death.died (sane_done s) b in
            let all = buries_all b in
            let died = died_done b in
            let end = ap (λ (v : World). has_died v.batches b) end_is in
            grind (arith, is, all, died, end);
      };
      calls = λ s. calls-append w done told (calls_quiet w done done_quiet) (notified_death.calls (sane_done s));
      order = λ s. order_behind w done told done_none (notified_death.order (sane_done s));
      covers = covers_append w done told (covers_quiet w done done_quiet) notified_death.covers;
    };
    stays = subst (λ (v : World). StaysWhole w.batches v.batches) (sym end_is) (λ b h. notified_death.stays b (stays_quiet w done done_quiet b h));
    late = buried_late done told done_none (some_burial put (map (λ row. Moves (Trim row)) gone) one.burial);
  }

put_dead_buries : (w : World) (row : Row) (found : Option Row) → list_any (is_same row) w.rows ≡ true → is_at (Set Dead) row ≡ false → row_of row.text (rows_at (Set Dead) w.rows) ≡ found
    → Buries w row.text (merge found ++ Moves (Carry row Left (Set Dead) (moment_score w) Left) ∷ [])
put_dead_buries w row None there alive e = record { keeps = put_as_keeps w row None there alive e; quiet = refl; burial = refl; member = λ b. grind arith }
put_dead_buries w row (Some other) there alive e = record { keeps = put_as_keeps w row (Some other) there alive e; quiet = refl; burial = refl; member = λ b. grind arith }

pub bury_good : (w : World) (row : Row) → list_any (is_same row) w.rows ≡ true → is_at (Set Dead) row ≡ false → Good w (bury w row).changes
bury_good w row there alive = buried_good w row.text (put_dead w row) (put_dead_buries w row _ there alive refl)

-- ## Rows that are sent on, one after another

-- none of the rows stands in the dead set
abbrev pub Alive : List Row → Type 0
Alive rows = list_all (λ row. not (is_at (Set Dead) row)) rows ≡ true

no_dead : (other : Row) (rows : List Row) → is_at (Set Dead) other ≡ true → Alive rows → copies_of other rows ≡ 0
no_dead other [] dead alive = refl
no_dead other (row ∷ rows) dead alive = grind (arith, no_dead other rows dead, same_is other row)

-- trimming leaves the rows that aren't dead
trims_keep : (w : World) (rows : List Row) (other : Row) → list_all (is_at (Set Dead)) rows ≡ true → is_at (Set Dead) other ≡ false → copies_of other (perform w (map (λ row. Moves (Trim row)) rows)).rows ≡ copies_of other w.rows
trims_keep w [] other all alive = refl
trims_keep w (row ∷ rows) other all alive =
    let dead : is_at (Set Dead) row ≡ true = grind (arith, all) in
    let rest : list_all (is_at (Set Dead)) rows ≡ true = grind (arith, all) in
    trims_keep (changed w (Moves (Trim row))) rows other rest alive ∙ count_apart other row w.rows (apart_by (is_at (Set Dead)) row other dead alive)

pub surplus_dead : (w : World) (rows : List Row) → list_all (is_at (Set Dead)) rows ≡ true → list_all (is_at (Set Dead)) (surplus w rows) ≡ true
surplus_dead w rows all =
    let young : List Row = filter (λ row. not (is_old w row)) rows in
    all_append (is_at (Set Dead)) (filter (is_old w) rows) (take (length young - most_dead) young)
    (all_filter (is_at (Set Dead)) (is_old w) rows all)
    (all_take (is_at (Set Dead)) (length young - most_dead) young (all_filter (is_at (Set Dead)) (λ row. not (is_old w row)) rows all))

put_keeps : (w : World) (row other : Row) (found : Option Row) → list_any (is_same row) w.rows ≡ true → is_at (Set Dead) row ≡ false → is_at (Set Dead) other ≡ false → row_of row.text (rows_at (Set Dead) w.rows) ≡ found
    → copies_of other w.rows ≤ cond (is_same other row) 1 0 + copies_of other (perform w (merge found ++ Moves (Carry row Left (Set Dead) (moment_score w) Left) ∷ [])).rows
put_keeps w row other None there alive kept e =
    omega (arith, count_taken other row w.rows there, count_put other (carried row (Set Dead) (moment_score w)) (stands_before Left (carried row (Set Dead) (moment_score w))) (take_row Left row w.rows))
put_keeps w row other (Some dead) there alive kept e =
    let at_dead : is_at (Set Dead) dead ≡ true = row_at_place row.text dead (is_at (Set Dead)) w.rows e in
    let left : List Row = take_row Left dead w.rows in
    omega (
      arith,
      count_apart other dead w.rows (apart_by (is_at (Set Dead)) dead other at_dead kept),
      count_taken other row left (still_there dead row w.rows (apart_by (is_at (Set Dead)) dead row at_dead alive) there),
      count_put other (carried row (Set Dead) (moment_score w)) (stands_before Left (carried row (Set Dead) (moment_score w))) (take_row Left row left),
    )

pub bury_keeps : (w : World) (row other : Row) → list_any (is_same row) w.rows ≡ true → is_at (Set Dead) row ≡ false → is_at (Set Dead) other ≡ false
    → copies_of other w.rows ≤ cond (is_same other row) 1 0 + copies_of other (perform w (bury w row).changes).rows
bury_keeps w row other there alive kept =
    let after : World = perform w (put_dead w row) in
    let gone : List Row = surplus after (rows_at (Set Dead) after.rows) in
    let done : List Change = put_dead w row ++ map (λ row. Moves (Trim row)) gone in
    omega (
      arith,
      put_keeps w row other _ there alive kept refl,
      trims_keep after gone other (surplus_dead after (rows_at (Set Dead) after.rows) (all_own (is_at (Set Dead)) after.rows)) kept,
      ap (λ (u : World). copies_of other u.rows) (perform-append w (put_dead w row) (map (λ row. Moves (Trim row)) gone)),
      notify_more other Died (perform w done) (head row.text),
      ap (λ (u : World). copies_of other u.rows) (perform-append w done (notify Died (perform w done) row.text).changes),
    )

first_alive : (row : Row) (more : List Row) → Alive (row ∷ more) → is_at (Set Dead) row ≡ false
first_alive row more alive = grind (arith, alive)

rest_alive : (row : Row) (more : List Row) → Alive (row ∷ more) → Alive more
rest_alive row more alive = grind (arith, alive)

pub carry_keeps : (w : World) (end : Side) (row other : Row) (h : Head) → list_any (is_same row) w.rows ≡ true → copies_of other w.rows ≤ cond (is_same other row) 1 0 + copies_of other (perform w (to_queue end row h).changes).rows
carry_keeps w end row other h there =
    omega (arith, count_taken other row w.rows there, count_put other (carried row (Queue h.queue) (pos 0)) (stands_before end (carried row (Queue h.queue) (pos 0))) (take_row Left row w.rows))

-- a way to send a row is good, and takes no other row that isn't dead
pub record Sends (way : World → Row → Option Head → Routed) : Type 0 where
  pub good : (w : World) (row : Row) (found : Option Head) → list_any (is_same row) w.rows ≡ true → is_at (Set Dead) row ≡ false → Good w (way w row found).changes
  pub keeps : (w : World) (row other : Row) (found : Option Head) → list_any (is_same row) w.rows ≡ true → is_at (Set Dead) row ≡ false → is_at (Set Dead) other ≡ false
      → copies_of other w.rows ≤ cond (is_same other row) 1 0 + copies_of other (perform w (way w row found).changes).rows

module _ (way : World → Row → Option Head → Routed) (sends : Sends way) where
  -- the rows that are still to be sent are there
  others_stay : (w : World) (row : Row) (more : List Row) (found : Option Head) → Among (row ∷ more) w.rows → Alive (row ∷ more) → Among more (perform w (way w row found).changes).rows
  others_stay w row more found among alive other = by_place (is_at (Set Dead) other) refl where
    by_place : (b : Bool) → is_at (Set Dead) other ≡ b → copies_of other more ≤ copies_of other (perform w (way w row found).changes).rows
    by_place true dead = omega (arith, no_dead other more dead (rest_alive row more alive))
    by_place false kept = omega (arith, among other, count_first other row more, sends.keeps w row other found (first_among row more w.rows among) (first_alive row more alive) kept)

  pub each_good : (w : World) (rows : List Row) → Among rows w.rows → Alive rows → Good w (each way w rows).changes
  each_good w [] among alive = good_nothing w
  each_good w (row ∷ rows) among alive =
      let one : List Change = (way w row (head row.text)).changes in
      good_append w one (each way (perform w one) rows).changes
      (sends.good w row (head row.text) (first_among row rows w.rows among) (first_alive row rows alive))
      (each_good (perform w one) rows (others_stay w row rows (head row.text) among alive) (rest_alive row rows alive))

pub send_sends : Sends promote
send_sends = record { good = good; keeps = keeps } where
  good : (w : World) (row : Row) (found : Option Head) → list_any (is_same row) w.rows ≡ true → is_at (Set Dead) row ≡ false → Good w (promote w row found).changes
  good w row None there alive = bury_good w row there alive
  good w row (Some h) there alive = good_carry w row Left (Queue h.queue) (pos 0) Left there refl

  keeps : (w : World) (row other : Row) (found : Option Head) → list_any (is_same row) w.rows ≡ true → is_at (Set Dead) row ≡ false → is_at (Set Dead) other ≡ false
      → copies_of other w.rows ≤ cond (is_same other row) 1 0 + copies_of other (perform w (promote w row found).changes).rows
  keeps w row other None there alive kept = bury_keeps w row other there alive kept
  keeps w row other (Some h) there alive kept = carry_keeps w Left row other h there

-- ## The commands

in_schedule : (place : Place) → is_eq (place_cmp (Set Schedule) place) ≡ true → is_eq (place_cmp (Set Dead) place) ≡ false
in_schedule (Queue q) e = absurd (cc e)
in_schedule (Private ident) e = absurd (cc e)
in_schedule (Set Schedule) e = refl
in_schedule (Set Retry) e = refl
in_schedule (Set Dead) e = absurd (cc e)

in_retry : (place : Place) → is_eq (place_cmp (Set Retry) place) ≡ true → is_eq (place_cmp (Set Dead) place) ≡ false
in_retry (Queue q) e = absurd (cc e)
in_retry (Private ident) e = absurd (cc e)
in_retry (Set Schedule) e = refl
in_retry (Set Retry) e = refl
in_retry (Set Dead) e = absurd (cc e)

schedule_alive : (rows : List Row) → Alive (rows_at (Set Schedule) rows)
schedule_alive [] = refl
schedule_alive (row ∷ rows) = grind (arith, schedule_alive rows, in_schedule row.place)

retry_alive : (rows : List Row) → Alive (rows_at (Set Retry) rows)
retry_alive [] = refl
retry_alive (row ∷ rows) = grind (arith, retry_alive rows, in_retry row.place)

waiting_alive : (w : World) (set : Scored) → Alive (waiting_rows w set)
waiting_alive w Schedule = schedule_alive w.rows
waiting_alive w Retry = retry_alive w.rows
waiting_alive w Dead = refl

waiting_among : (w : World) (set : Scored) → Among (waiting_rows w set) w.rows
waiting_among w Schedule = filter_among (is_at (Set Schedule)) w.rows
waiting_among w Retry = filter_among (is_at (Set Retry)) w.rows
waiting_among w Dead = λ other. omega arith

pub due_good : (w : World) (set : Scored) (limit : ℕ) → Good w (due w set limit).changes
due_good w set limit =
    let test : Row → Bool = λ row. is_le (int_cmp row.score (moment_score w)) in
    let rows : List Row = filter test (waiting_rows w set) in
    each_good promote send_sends w (take limit rows)
    (among_through (take limit rows) rows w.rows (take_among limit rows) (among_through rows (waiting_rows w set) w.rows (filter_among test (waiting_rows w set)) (waiting_among w set)))
    (all_take (λ row. not (is_at (Set Dead) row)) limit rows (all_filter (λ row. not (is_at (Set Dead) row)) test (waiting_rows w set) (waiting_alive w set)))

-- a row that is found among others has what all of them have
found_alive : (text : Bytes) (row : Row) (rows : List Row) → row_of text rows ≡ Some row → Alive rows → is_at (Set Dead) row ≡ false
found_alive text row rows e alive =
    let test : Row → Bool = λ other. bytes_eq text other.text in
    let first = first_is (filter test rows) row e in
    first_alive row first.0 (subst Alive first.1 (all_filter (λ row. not (is_at (Set Dead) row)) test rows alive))

kill_row_good : (w : World) (set : Scored) (text : Bytes) (found : Option Row) → row_of text (waiting_rows w set) ≡ found → Good w (kill_row w found).changes
kill_row_good w set text None e = good_nothing w
kill_row_good w set text (Some row) e =
    bury_good w row (first_among row [] w.rows (among_through (row ∷ []) (waiting_rows w set) w.rows (row_among text row (waiting_rows w set) e) (waiting_among w set)))
    (found_alive text row (waiting_rows w set) e (waiting_alive w set))

pub kill_good : (w : World) (set : Scored) (text : Bytes) → Good w (kill w set text).changes
kill_good w set text = kill_row_good w set text _ refl

revive_as_good : (w : World) (row : Row) (found : Option Head) → list_any (is_same row) w.rows ≡ true → Good w (revive_as row found).changes
revive_as_good w row None there = good_nothing w
revive_as_good w row (Some h) there = good_carry w row Left (Queue h.queue) (pos 0) Left there refl

revive_row_good : (w : World) (set : Scored) (text : Bytes) (found : Option Row) → row_of text (rows_at (Set set) w.rows) ≡ found → Good w (revive_row found).changes
revive_row_good w set text None e = good_nothing w
revive_row_good w set text (Some row) e = revive_as_good w row (head row.text) (row_there text row (Set set) w.rows e)

pub revive_good : (w : World) (set : Scored) (text : Bytes) → Good w (revive w set text).changes
revive_good w set text = revive_row_good w set text _ refl

-- what may be written on a set of jobs
zadd_good : (w : World) (set : Scored) (pairs : List Pair) → Good w (edit_jobs w set (edit.Zadd pairs)).changes
zadd_good w Schedule pairs = choice w (is_full w (map (λ pair. pair.1) pairs)) _ _ (λ y. good_nothing w) (λ n. add_each_good w Schedule pairs refl)
zadd_good w Retry pairs = good_nothing w
zadd_good w Dead pairs = good_nothing w

gone_good : (w : World) (set : Scored) (rows : List Row) → Among rows (rows_at (Set set) w.rows) → Good w (take_all rows)
gone_good w set rows among = taking_good w rows (part_among w set rows among)

ranks_among : (first last : ℤ) (rows : List Row) → Among (range_of first last rows) rows
ranks_among first last rows =
    let n : ℕ = end_index last (length rows) in
    among_through (range_of first last rows) (take n rows) rows (drop_among (first_index first (length rows)) (take n rows)) (take_among n rows)

pub edit_jobs_good : (w : World) (set : Scored) (e : WriteOp) → Good w (edit_jobs w set e).changes
edit_jobs_good w set (edit.Zadd pairs) = zadd_good w set pairs
edit_jobs_good w set (edit.Zrem members) = gone_good w set _ (filter_among (λ row. is_member row.text members) (rows_at (Set set) w.rows))
edit_jobs_good w set (edit.Zremrangebyrank first last) = gone_good w set _ (ranks_among first last (rows_at (Set set) w.rows))
edit_jobs_good w set (edit.Zremrangebyscore least greatest) = gone_good w set _ (filter_among (λ row. is_between least greatest (pair_of row)) (rows_at (Set set) w.rows))
edit_jobs_good w set (edit.Push side texts) = good_nothing w
edit_jobs_good w set (edit.Lrem count text) = good_nothing w
edit_jobs_good w set (edit.Incrby n) = good_nothing w
edit_jobs_good w set (edit.Sadd members) = good_nothing w
edit_jobs_good w set (edit.Srem members) = good_nothing w
edit_jobs_good w set (edit.Hset pairs) = good_nothing w
edit_jobs_good w set (edit.Hdel fields) = good_nothing w
