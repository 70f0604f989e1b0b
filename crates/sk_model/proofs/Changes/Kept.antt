-- Which jobs are kept after a change.
use Rattle.std.proofs.Common.{◌≡◌, ℕ, ℤ, sym, ap, subst, refl, ◌∙◌, arith, Bool, true, false, cond}
use Rattle.std.specs.Prelude.{Option, Some, None}
use Rattle.std.specs.List.{AllByRecursion, list_any}
use Rattle.std.specs.Ordering.{nat_cmp, is_eq}
use Rattle.std.proofs.lemmas.Bool.Decides.{nat_tests}
use Rattle.sk_resp.specs.Spelling.{Bytes}
use Rattle.sk_cmd.specs.declared.argument.Side.{Side}
use Rattle.sk_cmd.specs.declared.argument.Side.TheVariants.{Left}
use Rattle.sk_payload.specs.Head.{names}
use Rattle.sk_places.specs.declared.row.Place.{Place}
use Rattle.sk_places.specs.declared.row.Place.TheVariants.{Private}
use Rattle.sk_places.specs.declared.row.Row.{Row}
use Rattle.sk_places.specs.Rows.{is_same, row_at, take_row}
use Rattle.sk_seats.specs.declared.phase.Phase.{Phase}
use Rattle.sk_seats.specs.declared.phase.Phase.TheVariants.{Plain, Joined}
use Rattle.sk_seats.specs.declared.work.Stage.{Stage}
use Rattle.sk_seats.specs.declared.work.Stage.TheVariants.{Held, Put, Settled}
use Rattle.sk_seats.specs.declared.work.Work.{Work}
use Rattle.sk_model.specs.World.{World, phase_of}
use Rattle.sk_seats.specs.Phases.{phase_in, has, works_of}
use Rattle.sk_seats.specs.Works.{first, is_done_as}
use Rattle.sk_places.specs.declared.ending.Ending.{Ending}
use Rattle.sk_places.specs.declared.ending.Ending.TheVariants.{Muddled}
use Rattle.sk_places.specs.declared.origin.Origin.{Origin}
use Rattle.sk_model.specs.Live.{fresh}
use Rattle.sk_model.specs.Change.{Add, Carry, Merge, PutBack, Free, Moves, Turns, ending_of, carried, freed, freed_at, freed_work, moved, changed}
use Rattle.sk_model.specs.Life.{Life, Unborn, Live, Ended, IsKept, IsOutranked, is_newer, outranks, ended, freed_life, life_at, life_of_work, life_after}
use Rattle.sk_model.proofs.Changes.Rows.{some, some-put_row, some-take_row, some-others, some-merged, some_weaker}
use Rattle.sk_model.proofs.Changes.Phases.{has_some, phase_turned}
use Rattle.sk_model.proofs.Tools.Works.{all_none, all_weaker, first_of_all}

-- Where no seat turns, it holds of each work on that it is outranked, if it does so of any.
still_outranked : (w v : World) (jid : Bytes) → v.phases ≡ w.phases → ((work : Work) → IsOutranked w jid work → IsOutranked v jid work) → IsKept w jid → (seat : ℕ) → AllByRecursion (IsOutranked v jid) (works_of (phase_of v seat))
still_outranked w v jid phases on k seat =
    subst (λ ps. AllByRecursion (IsOutranked v jid) (works_of (phase_in ps seat))) (sym phases) (all_weaker (IsOutranked w jid) (IsOutranked v jid) (works_of (phase_of w seat)) on (k.newer seat))

-- Where no text is lost and no seat turns, a job is kept on.
pub kept_by_texts : (w v : World) (jid : Bytes) → ((test : Bytes → Bool) → some test w.rows ≡ true → some test v.rows ≡ true) → v.phases ≡ w.phases → IsKept w jid → IsKept v jid
kept_by_texts w v jid texts phases k = record {
  standing = texts (λ text. names text jid) k.standing;
  newer = still_outranked w v jid phases (λ work newer put named. texts (is_newer work.payload jid) (newer put named)) k;
}

-- no life is live after its end
ended_not_live : (how : Ending) (before : Life) → ended how before ≡ Live → ⊥
ended_not_live how Unborn live = cc live
ended_not_live how Live live = cc live
ended_not_live how (Ended one) live = cc live

-- ## A row comes

comes_on : (w : World) (row : Row) (end : Side) (from : Origin) (jid : Bytes) → IsKept w jid → IsKept (moved w (Add row end from)) jid
comes_on w row end from jid k = kept_by_texts w (moved w (Add row end from)) jid (λ test stood. some-put_row test end row w.rows ∙ grind (arith, stood)) refl k

-- a fresh job is in no seat's hands
fresh_kept : (w : World) (row : Row) (end : Side) (from : Origin) (jid : Bytes) → names row.text jid ≡ true → fresh w jid ≡ true → IsKept (moved w (Add row end from)) jid
fresh_kept w row end from jid named new = record {
  standing = some-put_row (λ text. names text jid) end row w.rows ∙ grind (arith, named);
  newer = λ seat. all_none _ (λ work. names work.payload jid) (works_of (phase_of w seat)) (λ work other put of_it. absurd (cc (other, of_it))) (in_no_hands seat (has jid (phase_of w seat)) refl);
} where
  in_no_hands : (seat : ℕ) (b : Bool) → has jid (phase_of w seat) ≡ b → b ≡ false
  in_no_hands seat true e = let seen = has_some w.phases seat jid e in grind (arith, seen, new)
  in_no_hands seat false e = refl

pub kept_add : (w : World) (row : Row) (end : Side) (from : Origin) (jid : Bytes) (life : Life) → (life ≡ Live → IsKept w jid) → life_after w jid life (Moves (Add row end from)) ≡ Live → IsKept (moved w (Add row end from)) jid
kept_add w row end from jid life was live = by_name (names row.text jid) (fresh w jid) refl refl live where
  by_name : (named new : Bool) → names row.text jid ≡ named → fresh w jid ≡ new → cond named (cond new Live (ended Muddled life)) life ≡ Live → IsKept (moved w (Add row end from)) jid
  by_name true true e f live = fresh_kept w row end from jid e f
  by_name true false e f live = absurd (ended_not_live Muddled life live)
  by_name false new e f live = comes_on w row end from jid (was live)

pub kept_put : (w : World) (row : Row) (jid : Bytes) → IsKept w jid → IsKept (moved w (PutBack row)) jid
kept_put w row jid k = kept_by_texts w (moved w (PutBack row)) jid (λ test stood. some-put_row test Left row w.rows ∙ grind (arith, stood)) refl k

-- ## A row goes to another place, or becomes one with another

pub kept_carry : (w : World) (row : Row) (from : Side) (to : Place) (score : ℤ) (end : Side) (jid : Bytes) → IsKept w jid → IsKept (moved w (Carry row from to score end)) jid
kept_carry w row from to score end jid k =
    kept_by_texts w (moved w (Carry row from to score end)) jid (λ test stood. some-put_row test end (carried row to score) (take_row from row w.rows) ∙ some-take_row test from row w.rows stood) refl k

pub kept_merge : (w : World) (row other : Row) (jid : Bytes) → row.text ≡ other.text → is_same row other ≡ false → list_any (is_same other) w.rows ≡ true → IsKept w jid → IsKept (moved w (Merge row)) jid
kept_merge w row other jid e apart there k = kept_by_texts w (moved w (Merge row)) jid (λ test stood. some-merged test row other w.rows e apart there stood) refl k

-- ## A row goes

-- one of another job
other_goes : (w v : World) (row : Row) (from : Side) (jid : Bytes) → v.rows ≡ take_row from row w.rows → v.phases ≡ w.phases → names row.text jid ≡ false → IsKept w jid → IsKept v jid
other_goes w v row from jid rows phases other k = record {
  standing = ap (λ rs. some (λ text. names text jid) rs) rows ∙ some-others (λ text. names text jid) from row w.rows other k.standing;
  newer = still_outranked w v jid phases (λ work newer put named. ap (λ rs. some (is_newer work.payload jid) rs) rows
      ∙ some-others (is_newer work.payload jid) from row w.rows (grind (arith, other)) (newer put named)) k;
}

-- or one of the job, which ends it
pub kept_gone : (w v : World) (row : Row) (from : Side) (jid : Bytes) (life : Life) (how : Ending) → v.rows ≡ take_row from row w.rows → v.phases ≡ w.phases → (life ≡ Live → IsKept w jid) → cond (names row.text jid) (ended how life) life ≡ Live → IsKept v jid
kept_gone w v row from jid life how rows phases was live = by_name (names row.text jid) refl live where
  by_name : (named : Bool) → names row.text jid ≡ named → cond named (ended how life) life ≡ Live → IsKept v jid
  by_name true e live = absurd (ended_not_live how life live)
  by_name false e live = other_goes w v row from jid rows phases e (was live)

-- ## A worker releases what it has put back

-- nothing is newer than itself
not_newer : (held jid : Bytes) → is_newer held jid held ≡ false
not_newer held jid = grind (arith, nat_tests)

module _ (w : World) (ident held jid : Bytes) (newer : names held jid ≡ true → outranks w held jid ≡ true) (k : IsKept w jid) where
  -- a newer row of the job outlives the release
  newer_left : names held jid ≡ true → some (is_newer held jid) (take_row Left (row_at (Private ident) held) w.rows) ≡ true
  newer_left named = some-others (is_newer held jid) Left (row_at (Private ident) held) w.rows (not_newer held jid) (newer named)

  -- what the test looks for is left, where it isn't in the payload, or else is in all that is newer
  left_by_release : (test : Bytes → Bool) → (test held ≡ true → (names held jid ≡ true) × ((text : Bytes) → is_newer held jid text ≡ true → test text ≡ true)) → some test w.rows ≡ true
      → some test (take_row Left (row_at (Private ident) held) w.rows) ≡ true
  left_by_release test more stood = by_test (test held) refl where
    by_test : (b : Bool) → test held ≡ b → some test (take_row Left (row_at (Private ident) held) w.rows) ≡ true
    by_test true e = some_weaker (is_newer held jid) test (take_row Left (row_at (Private ident) held) w.rows) (more e).1 (newer_left (more e).0)
    by_test false e = some-others test Left (row_at (Private ident) held) w.rows e stood

  -- the newer row also outranks every other work that the row which went had outranked
  released_put : IsKept (freed_at Put ident held w) jid
  released_put = record {
    standing = left_by_release (λ text. names text jid) (λ y. (y, λ text m. grind (arith, m))) k.standing;
    newer = still_outranked w (freed_at Put ident held w) jid refl
        (λ work outranked put named. left_by_release (is_newer work.payload jid) (λ y. (grind (arith, y), λ text m. grind (arith, nat_tests, y, m))) (outranked put named)) k;
  }

at_kept : (w : World) (stage : Stage) (ident text jid : Bytes) (life : Life) → (life ≡ Live → stage ≡ Put → names text jid ≡ true → outranks w text jid ≡ true) → (life ≡ Live → IsKept w jid)
    → life_at stage text jid life ≡ Live → IsKept (freed_at stage ident text w) jid
at_kept w Held ident text jid before newer was live = was live
at_kept w Put ident text jid before newer was live = released_put w ident text jid (newer live refl) (was live)
at_kept w (Settled end) ident text jid before newer was live = kept_gone w (freed_at (Settled end) ident text w) (row_at (Private ident) text) Left jid before (ending_of end) refl refl was live

work_kept : (w : World) (ident jid : Bytes) (life : Life) (found : Option Work) → ((work : Work) → found ≡ Some work → life ≡ Live → IsOutranked w jid work) → (life ≡ Live → IsKept w jid)
    → life_of_work jid life found ≡ Live → IsKept (freed_work ident w found) jid
work_kept w ident jid before None newer was live = was live
work_kept w ident jid before (Some work) newer was live = at_kept w work.stage ident work.payload jid before (newer work refl) was live

freed_kept : (text : Bytes) (w : World) (seat : ℕ) (phase : Phase) (jid : Bytes) (life : Life) → phase_of w seat ≡ phase → (life ≡ Live → IsKept w jid) → freed_life text phase jid life ≡ Live → IsKept (freed text w phase) jid
freed_kept text w seat Plain jid before is was live = was live
freed_kept text w seat (Joined ident works) jid before is was live = work_kept w ident jid before (first (is_done_as text) works)
    (λ work e l. first_of_all (IsOutranked w jid) (is_done_as text) works work e (subst (λ (p : Phase). AllByRecursion (IsOutranked w jid) (works_of p)) is ((was l).newer seat))) was live

pub kept_free : (w : World) (seat : ℕ) (text jid : Bytes) (life : Life) → (life ≡ Live → IsKept w jid) → life_after w jid life (Moves (Free seat text)) ≡ Live → IsKept (moved w (Free seat text)) jid
kept_free w seat text jid life was live = freed_kept text w seat (phase_of w seat) jid life refl was live

-- ## A seat turns

-- where each of its works was outranked, each of those that it has now is
abbrev pub Ready : World → Phase → Phase → Type 0
Ready w before phase = (jid : Bytes) → AllByRecursion (IsOutranked w jid) (works_of before) → AllByRecursion (IsOutranked w jid) (works_of phase)

pub kept_turn : (w : World) (seat : ℕ) (phase : Phase) (jid : Bytes) → Ready w (phase_of w seat) phase → IsKept w jid → IsKept (changed w (Turns seat phase)) jid
kept_turn w seat phase jid ready k = record {
  standing = k.standing;
  newer = λ other. subst (λ (p : Phase). AllByRecursion (IsOutranked w jid) (works_of p)) (sym (phase_turned w.phases seat other phase)) (by_seat other (is_eq (nat_cmp other seat)));
} where
  by_seat : (other : ℕ) (same : Bool) → AllByRecursion (IsOutranked w jid) (works_of (cond same phase (phase_of w other)))
  by_seat other true = ready jid (k.newer seat)
  by_seat other false = k.newer other
