-- The rows that the store pushed itself are no more than there is room for and than were fired, before a batch is told and after it.
use Rattle.std.proofs.Common.{◌≡◌, ◌<◌, ◌≤◌, ◌^◌, ℕ, zero, suc, ◌+◌, List, [], ◌∷◌, length, refl, sym, subst, ◌∙◌, arith, true, ℤ}
use Rattle.std.specs.Prelude.{Option, Some, None, Result, Ok, Err, IfOk, OnOk}
use Rattle.sk_cmd.specs.declared.argument.Scored.{Scored}
use Rattle.sk_zset.specs.Pair.{Pair}
use Rattle.sk_resp.specs.Spelling.{Bytes}
use Rattle.sk_places.specs.declared.totals.Totals.{Totals}
use Rattle.sk_places.specs.Totals.{last_outside, last_push, pushes_in}
use Rattle.sk_places.specs.LiveJobs.{Lived}
use Rattle.sk_places.specs.Placed.{Placed, moved_if, without_if}
use Rattle.sk_places.specs.declared.row.Place.{Place}
use Rattle.sk_places.specs.declared.row.Row.{Row}
use Rattle.sk_cmd.specs.declared.argument.Side.{Side}
use Rattle.sk_cmd.specs.declared.argument.Side.TheVariants.{Left}
use Rattle.sk_batch.specs.Batched.{Batched}
use Rattle.sk_batch.specs.Events.{fired, made, made_fires, marked}
use Rattle.sk_batch.specs.Faults.{make_fault}
use Rattle.sk_batch.specs.Notify.{fires_of, mark_of}
use Rattle.sk_batch.specs.declared.batch.Batch.{Batch}
use Rattle.sk_batch.specs.declared.event.Event.{Event}
use Rattle.sk_batch.specs.declared.firing.Firing.{Firing}
use Rattle.sk_model.specs.Batches.{push_jobs}
use Rattle.sk_model.specs.Change.{Change, perform}
use Rattle.sk_model.specs.Covered.{IsCovered, fired_count}
use Rattle.sk_model.specs.Room.{most_pushes}
use Rattle.sk_model.specs.Sets.{put_as}
use Rattle.sk_model.specs.Notify.{notify_in}
use Rattle.sk_model.specs.World.{World}
use Rattle.sk_model.proofs.Changes.Covered.{count_few, covers_quiet, quiet_calls, through_inner}
use Rattle.sk_model.proofs.Changes.Fired.{all_quiet}
use Rattle.sk_model.proofs.Commands.Batches.{clear_count, jobs_quiet}
use Rattle.sk_model.proofs.Changes.Notify.{notify_covers, notified_count}
use Rattle.sk_store.specs.declared.store.Store.{Store}
use Rattle.sk_undo.specs.Versions.{Versions}
use Rattle.sk_jobs.specs.Callbacks.{AreCovered, IsNotified}

-- ## How many pushes there are

-- where so many batches have fired no more than three callbacks each
few_fired : (t : Totals) (s : Batched) (count : ℕ) → t.inner + count ≤ most_pushes + fired_count s.batches → t.outside ≤ last_outside → length s.batches ≤ 2 ^ 60 → pushes_in t + count ≤ last_push
few_fired t s count covered outside few = omega (arith, covered, outside, few, count_few s.batches)

-- what a batch fires that is told of a job can be pushed
pub notified_fits : (t : Totals) (s end : Batched) (e : Event) (bid jid : Bytes) (fs : List Firing) → IsCovered t.inner s → fs ≡ fires_of e bid jid s → end ≡ fired (fires_of e bid jid s) (marked (mark_of e) bid jid s) → t.outside ≤ last_outside → length end.batches ≤ 2 ^ 60
    → pushes_in t + length fs ≤ last_push
notified_fits t s end e bid jid fs c fires is outside few =
    let count = subst (λ (b : Batched). t.inner + length (fires_of e bid jid s) ≤ most_pushes + fired_count b.batches) (sym is) (notified_count t.inner e bid jid s c) in
    subst (λ gs. pushes_in t + length gs ≤ last_push) (sym fires) (few_fired t end (length (fires_of e bid jid s)) count outside few)

-- and what one fires that is made
pub made_fits : (t : Totals) (inner : ℕ) (s end : Batched) (batch : Batch) (jids : List Bytes) (fs : List Firing) → make_fault batch.bid batch.parent jids s ≡ None → IsCovered inner s → t.inner ≡ inner → fs ≡ made_fires batch jids → end ≡ made batch jids s → t.outside ≤ last_outside
    → length end.batches ≤ 2 ^ 60 → pushes_in t + length fs ≤ last_push
made_fits t inner s end batch jids fs clear c same fires is outside few =
    let count = subst (λ (b : Batched). inner + length (made_fires batch jids) ≤ most_pushes + fired_count b.batches) (sym is) (clear_count batch jids s inner clear c) in
    subst (λ gs. pushes_in t + length gs ≤ last_push) (sym fires) (few_fired t end (length (made_fires batch jids)) (omega (arith, count, same)) outside few)

-- jobs that clients push are no callbacks
pub jobs_inner : (w : World) (texts : List Bytes) → (perform w (push_jobs texts)).tally.inner ≡ w.tally.inner
jobs_inner w texts = omega (arith, through_inner w (push_jobs texts), quiet_calls (push_jobs texts) (jobs_quiet texts))

-- ## What stays covered

pub notified_covered : (old new : World) (names : List Bytes) (e : Event) (jid : Bytes) (o : Option Bytes) → IsNotified old new names (notify_in e old jid o) → IsCovered old.tally.inner old.batches → IsCovered new.tally.inner new.batches
notified_covered old new names e jid o told c = subst (λ (w : World). IsCovered w.tally.inner w.batches) (sym told.world) (notify_covers e old jid o c)

-- from what holds where there was memory
pub on_if : {A E : Type 0} (P : A → Type 0) (Q : Type 0) (r : Result A E) → ((x : A) → P x → Q) → IfOk r P → OnOk r Q
on_if P Q (Ok x) f p = f x p
on_if P Q (Err e) f p = tt

-- changes that tell no batch of anything, and push no callback
pub quiet_covered : (old new : World) (changes : List Change) → new ≡ perform old changes → all_quiet changes ≡ true → IsCovered old.tally.inner old.batches → IsCovered new.tally.inner new.batches
quiet_covered old new changes e quiet c = subst (λ (w : World). IsCovered w.tally.inner w.batches) (sym e) (covers_quiet old changes quiet c)

pub put_quiet : (set : Scored) (pair : Pair) (found : Option Row) → all_quiet (put_as set pair found ∷ []) ≡ true
put_quiet set pair None = refl
put_quiet set pair (Some row) = refl

-- rows that go or move are no pushes
pub without_jobs : (o : Option Row) (p : Placed) → (without_if Left o p).jobs ≡ p.jobs
without_jobs None p = refl
without_jobs (Some row) p = refl

pub moved_jobs : (o : Option Row) (to : Place) (score : ℤ) (end : Side) (p : Placed) → (moved_if Left o to score end p).jobs ≡ p.jobs
moved_jobs None to score end p = refl
moved_jobs (Some row) to score end p = refl

pub dropped_jobs : (dropped o : Option Row) (to : Place) (score : ℤ) (end : Side) (p : Placed) → (moved_if Left o to score end (without_if Left dropped p)).jobs ≡ p.jobs
dropped_jobs dropped o to score end p = moved_jobs o to score end (without_if Left dropped p) ∙ without_jobs dropped p

pub placed_covered : (s : Store) (p : Versions Placed) → p.current.jobs ≡ s.places.current.jobs → AreCovered s → AreCovered (record s { places = p })
placed_covered s p same c = subst (λ (l : Lived). IsCovered l.totals.inner s.batches.current) (sym same) c
