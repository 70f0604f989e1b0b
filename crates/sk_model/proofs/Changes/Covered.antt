-- What is pushed by the store itself is covered by what is fired: each firing marks something of a batch that wasn't marked before.
use Rattle.std.proofs.Common.{◌≡◌, ◌<◌, ◌≤◌, ℕ, ◌+◌, ◌*◌, List, [], ◌∷◌, ◌++◌, length, refl, sym, ap, subst, ◌∙◌, ◌⊎◌, inl, inr, arith, Bool, true, false, not, ◌&&◌, ◌||◌, Option, Some, None}
use Rattle.std.specs.List.{list_any}
use Rattle.sk_resp.specs.Spelling.{Bytes}
use Rattle.sk_payload.specs.Head.{head, jid_of}
use Rattle.sk_payload.specs.declared.head.Head.{Head}
use Rattle.sk_batch.specs.Batched.{Batched, BatchEntry, has_bid, is_there}
use Rattle.sk_batch.specs.Events.{fired}
use Rattle.sk_batch.specs.Fires.{after_fires, retagged, with_kind}
use Rattle.sk_batch.specs.Open.{is_settled}
use Rattle.sk_batch.specs.declared.batch.Fired.{Fired}
use Rattle.sk_batch.specs.declared.firing.Firing.{Firing}
use Rattle.sk_batch.specs.declared.firing.Kind.{Kind}
use Rattle.sk_batch.specs.declared.firing.Kind.TheVariants.{Complete, Success, Death}
use Rattle.sk_batch.specs.declared.member.Mark.TheVariants.{Returned}
use Rattle.sk_places.specs.declared.ending.Ending.{Ending}
use Rattle.sk_places.specs.declared.ending.Ending.TheVariants.{Returned as Finished, Discarded, Deleted, Trimmed, Muddled}
use Rattle.sk_places.specs.declared.origin.Origin.{Origin}
use Rattle.sk_places.specs.declared.origin.Origin.TheVariants.{Inner, Outside}
use Rattle.sk_places.specs.declared.totals.Totals.{Totals}
use Rattle.sk_places.specs.LiveJobs.{one_if, was_live}
use Rattle.sk_places.specs.Totals.{count_end, count_push}
use Rattle.sk_seats.specs.declared.phase.Phase.{Phase}
use Rattle.sk_seats.specs.declared.phase.Phase.TheVariants.{Plain, Joined}
use Rattle.sk_seats.specs.declared.work.Stage.{Stage}
use Rattle.sk_seats.specs.declared.work.Stage.TheVariants.{Held, Put, Settled}
use Rattle.sk_seats.specs.declared.work.Work.{Work}
use Rattle.sk_seats.specs.Works.{first, is_done_as}
use Rattle.sk_model.specs.World.{World, phase_of}
use Rattle.sk_model.specs.Live.{count_job, fresh}
use Rattle.sk_model.specs.Change.{Add, Carry, Take, Trim, Merge, PutBack, Free, Fire, Move, Change, Moves, Passes, Names, Unnames, Keeps, Turns, Beats, Counts, Recovers, Forgets, Locks, Unlocks, Elects, TakesSlot, Makes, Joins, Notifies, changed, ending_of, freed, freed_at, freed_work, moved, perform}
use Rattle.sk_model.specs.Covered.{IsCovered, fired_count, has_kind, kinds_fired, was_fired}
use Rattle.sk_model.specs.Once.{same_kind, settles}
use Rattle.sk_model.specs.Notify.{push_callback, fire_all, push_to}
use Rattle.sk_model.proofs.Tools.Texts.{bytes_tell}
use Rattle.sk_model.proofs.Changes.Ancestors.{there_retagged}
use Rattle.sk_model.proofs.Changes.Marked.{Sane, marked_nowhere}
use Rattle.sk_model.proofs.Changes.Fired.{alike_fired, all_quiet, count_named, first_quiet, fired_after, fired_retagged, fired_there, is_quiet, named, perform-append, quiet_batches}
use Rattle.sk_model.proofs.Changes.Batches.{Leads, was_completed}

-- the callbacks of a world stay covered over these changes
abbrev pub Covers : World → List Change → Type 0
Covers w changes = IsCovered w.tally.inner w.batches → IsCovered (perform w changes).tally.inner (perform w changes).batches

-- ## How many callbacks changes push

abbrev pub callbacks_in : Change → ℕ
callbacks_in (Moves (Add row end Inner)) = 1
callbacks_in other = 0

abbrev pub callbacks : List Change → ℕ
callbacks [] = 0
callbacks (change ∷ changes) = callbacks_in change + callbacks changes

pub callbacks-append : (one more : List Change) → callbacks (one ++ more) ≡ callbacks one + callbacks more
callbacks-append [] more = omega arith
callbacks-append (change ∷ one) more = omega (arith, callbacks-append one more)

end_inner : (how : Ending) (n : ℕ) (t : Totals) → (count_end how n t).inner ≡ t.inner
end_inner Finished n t = refl
end_inner Discarded n t = refl
end_inner Deleted n t = refl
end_inner Trimmed n t = refl
end_inner Muddled n t = refl

job_inner : (w : World) (o : Option Bytes) (t : Totals) → (count_job w o t).inner ≡ t.inner
job_inner w None t = refl
job_inner w (Some jid) t = by_fresh (fresh w jid) refl where
  by_fresh : (new : Bool) → fresh w jid ≡ new → (count_job w (Some jid) t).inner ≡ t.inner
  by_fresh true e = grind (arith, e)
  by_fresh false e = grind (arith, e)

push_inner : (w : World) (o : Option Bytes) (from : Origin) → (count_job w o (count_push from w.tally)).inner ≡ (count_push from w.tally).inner
push_inner w o from = job_inner w o (count_push from w.tally)

at_inner : (w : World) (stage : Stage) (ident held : Bytes) → (freed_at stage ident held w).tally.inner ≡ w.tally.inner
at_inner w Held ident held = refl
at_inner w Put ident held = refl
at_inner w (Settled end) ident held = end_inner (ending_of end) (one_if (was_live (jid_of held) w.live)) w.tally

work_inner : (w : World) (ident : Bytes) (work : Option Work) → (freed_work ident w work).tally.inner ≡ w.tally.inner
work_inner w ident None = refl
work_inner w ident (Some work) = at_inner w work.stage ident work.payload

free_inner : (w : World) (text : Bytes) (phase : Phase) → (freed text w phase).tally.inner ≡ w.tally.inner
free_inner w text Plain = refl
free_inner w text (Joined ident works) = work_inner w ident (first (is_done_as text) works)

move_inner : (w : World) (move : Move) → (moved w move).tally.inner ≡ callbacks_in (Moves move) + w.tally.inner
move_inner w (Add row end Outside) = omega (arith, push_inner w (jid_of row.text) Outside)
move_inner w (Add row end Inner) = omega (arith, push_inner w (jid_of row.text) Inner)
move_inner w (Free seat text) = omega (arith, free_inner w text (phase_of w seat))
move_inner w (Take row from) = omega (arith, end_inner Deleted (one_if (was_live (jid_of row.text) w.live)) w.tally)
move_inner w (Trim row) = omega (arith, end_inner Trimmed (one_if (was_live (jid_of row.text) w.live)) w.tally)
move_inner w (Carry row from to score end) = omega arith
move_inner w (Merge row) = omega arith
move_inner w (PutBack row) = omega arith
move_inner w (Fire bid kind) = omega arith

change_inner : (w : World) (change : Change) → (changed w change).tally.inner ≡ callbacks_in change + w.tally.inner
change_inner w (Moves move) = move_inner w move
change_inner w (Passes now) = omega arith
change_inner w (Names queue) = omega arith
change_inner w (Unnames queue) = omega arith
change_inner w (Keeps keys) = omega arith
change_inner w (Turns seat phase) = omega arith
change_inner w (Beats ident) = omega arith
change_inner w (Counts name) = omega arith
change_inner w (Recovers jid) = omega arith
change_inner w (Forgets jid) = omega arith
change_inner w (Locks digest jid seconds) = omega arith
change_inner w (Unlocks digest jid) = omega arith
change_inner w (Elects ident) = omega arith
change_inner w (TakesSlot loop slot text) = omega arith
change_inner w (Makes batch jids) = omega arith
change_inner w (Joins bid jids) = omega arith
change_inner w (Notifies event bid jid) = omega arith

pub through_inner : (w : World) (changes : List Change) → (perform w changes).tally.inner ≡ callbacks changes + w.tally.inner
through_inner w [] = omega arith
through_inner w (change ∷ changes) = omega (arith, through_inner (changed w change) changes, change_inner w change)

quiet_call : (change : Change) → is_quiet change ≡ true → callbacks_in change ≡ 0
quiet_call change q = grind (arith, q)

pub quiet_calls : (changes : List Change) → all_quiet changes ≡ true → callbacks changes ≡ 0
quiet_calls [] q = refl
quiet_calls (change ∷ changes) q = let f = first_quiet change changes q in omega (arith, quiet_call change f.0, quiet_calls changes f.1)

-- each firing has at most one
pub push_few : (text : Bytes) (found : Option Head) → callbacks (push_to Inner text found) ≤ 1
push_few text None = omega arith
push_few text (Some h) = omega arith

push_callback_few : (o : Option Bytes) → callbacks (push_callback o) ≤ 1
push_callback_few None = omega arith
push_callback_few (Some text) = push_few text (head text)

pub fires_few : (fs : List Firing) → callbacks (fire_all fs) ≤ length fs
fires_few [] = omega arith
fires_few (f ∷ fs) = omega (arith, callbacks-append (push_callback f.payload) (fire_all fs), push_callback_few f.payload, fires_few fs)

pub few_append : (one more : List Change) (n : ℕ) → callbacks one ≡ 0 → callbacks more ≤ n → callbacks (one ++ more) ≤ n
few_append one more n none few = omega (arith, callbacks-append one more, none, few)

-- ## Changes that leave the batches alone, and lists of changes after one another

pub covers_quiet : (w : World) (changes : List Change) → all_quiet changes ≡ true → Covers w changes
covers_quiet w changes quiet c =
    let inner : (perform w changes).tally.inner ≡ w.tally.inner = omega (arith, through_inner w changes, quiet_calls changes quiet) in
    subst (λ n. IsCovered n (perform w changes).batches) (sym inner) (subst (IsCovered w.tally.inner) (sym (quiet_batches w changes quiet)) c)

pub covers_append : (w : World) (one more : List Change) → Covers w one → Covers (perform w one) more → Covers w (one ++ more)
covers_append w one more first then_ c = subst (λ (v : World). IsCovered v.tally.inner v.batches) (sym (perform-append w one more)) (then_ (first c))

-- ## How much is marked

kinds_more : (kind : Kind) (f : Fired) → has_kind kind f ≡ false → kinds_fired (with_kind kind f) ≡ kinds_fired f + 1
kinds_more Complete f new = grind (arith, new)
kinds_more Success f new = grind (arith, new)
kinds_more Death f new = grind (arith, new)

count_one : (kind : Kind) (b : Bytes) (bs : List BatchEntry) → is_there b bs ≡ true → was_fired kind b bs ≡ false → fired_count (retagged (has_bid b) (with_kind kind) bs) ≡ fired_count bs + 1
count_one kind b [] there new = absurd (cc there)
count_one kind b (e ∷ es) there new = cases (has_bid b e) refl (count_one kind b es) where
  cases : (own : Bool) → has_bid b e ≡ own → (is_there b es ≡ true → was_fired kind b es ≡ false → fired_count (retagged (has_bid b) (with_kind kind) es) ≡ fired_count es + 1) → fired_count (retagged (has_bid b) (with_kind kind) (e ∷ es)) ≡ fired_count (e ∷ es) + 1
  cases true own rest = let more = kinds_more kind e.0 in grind (arith, own, new, more)
  cases false own rest = grind (arith, own, there, new, rest)

-- all of these batches are there, and each kind is fired once
abbrev pub AllThere : List BatchEntry → List Firing → Type 0
AllThere bs [] = Unit {0}
AllThere bs (f ∷ fs) = (is_there f.bid bs ≡ true) × AllThere bs fs

abbrev pub FireOnce : List BatchEntry → List Firing → Type 0
FireOnce bs fs = (kind : Kind) (b : Bytes) → count_named kind b fs + one_if (was_fired kind b bs) ≤ 1

there_still : (f : Firing) (bs : List BatchEntry) (fs : List Firing) → AllThere bs fs → AllThere (retagged (has_bid f.bid) (with_kind f.kind) bs) fs
there_still f bs [] a = tt
there_still f bs (g ∷ fs) a = (there_retagged (has_bid f.bid) (with_kind f.kind) bs g.bid ∙ a.0, there_still f bs fs a.1)

same_own : (kind : Kind) → same_kind kind kind ≡ true
same_own Complete = refl
same_own Success = refl
same_own Death = refl

named_own : (f : Firing) → named f.kind f.bid f ≡ true
named_own f = let s = same_own f.kind in grind (arith, bytes_tell, s)

once_now : (f : Firing) (fs : List Firing) (bs : List BatchEntry) → FireOnce bs (f ∷ fs) → was_fired f.kind f.bid bs ≡ false
once_now f fs bs o = cases (was_fired f.kind f.bid bs) refl where
  cases : (was : Bool) → was_fired f.kind f.bid bs ≡ was → was ≡ false
  cases true e = let h = o f.kind f.bid in let own = named_own f in absurd (grind (arith, e, h, own))
  cases false e = refl

once_still : (f : Firing) (fs : List Firing) (bs : List BatchEntry) → FireOnce bs (f ∷ fs) → FireOnce (retagged (has_bid f.bid) (with_kind f.kind) bs) fs
once_still f fs bs o kind b =
    let after = fired_retagged kind f.kind f.bid b bs in
    let before = o kind b in
    grind (arith, after, before)

pub count_fired : (fs : List Firing) (bs : List BatchEntry) → AllThere bs fs → FireOnce bs fs → fired_count (after_fires fs bs) ≡ fired_count bs + length fs
count_fired [] bs a o = omega arith
count_fired (f ∷ fs) bs a o = omega (
  arith,
  count_fired fs (retagged (has_bid f.bid) (with_kind f.kind) bs) (there_still f bs fs a.1) (once_still f fs bs o),
  count_one f.kind f.bid bs a.0 (once_now f fs bs o),
)

-- what is named is there
all_there : (bs : List BatchEntry) (fs : List Firing) → ((kind : Kind) (b : Bytes) → 0 < count_named kind b fs → is_there b bs ≡ true) → AllThere bs fs
all_there bs [] h = tt
all_there bs (f ∷ fs) h = (h f.kind f.bid (let own = named_own f in grind (arith, own)), all_there bs fs (λ kind b some. h kind b (omega (arith, some))))

some_named : (kind : Kind) (b : Bytes) (fs : List Firing) → list_any (named kind b) fs ≡ true → 0 < count_named kind b fs
some_named kind b [] h = absurd (cc h)
some_named kind b (f ∷ fs) h = grind (arith, h, some_named kind b fs)

-- ## What is fired is covered

-- death is fired once of a batch that is there
abbrev pub DiesOnce : Batched → Batched → List Firing → Bytes → Type 0
DiesOnce s t fs b = (count_named Death b fs + one_if (was_fired Death b s.batches) ≤ 1) × (0 < count_named Death b fs → is_there b t.batches ≡ true)

most_one : (b : Bool) → one_if b ≤ 1
most_one true = omega arith
most_one false = omega arith

pub none_dies_once : (s t : Batched) (fs : List Firing) (b : Bytes) → count_named Death b fs ≡ 0 → DiesOnce s t fs b
none_dies_once s t fs b none = (omega (arith, none, most_one (was_fired Death b s.batches)), λ some. absurd (omega (arith, some, none)))

new_once : (p q : Bool) (n : ℕ) → n ≡ one_if (q && not p) → n + one_if p ≤ 1
new_once p q n e = grind (arith, e)

-- From the batches s these are fired of the batches t, of which as much was fired before.
module _ (s t : Batched) (fs : List Firing) (l : Leads s (fired fs t) (λ kind b. count_named kind b fs)) (was : (kind : Kind) (b : Bytes) → was_fired kind b t.batches ≡ true → was_fired kind b s.batches ≡ true)
    (dies : (b : Bytes) → Sane s → DiesOnce s t fs b) (sane : Sane s) (settled : (b : Bytes) → was_fired Success b s.batches ≡ true → is_settled s b ≡ true) where
  there_is : (b : Bytes) → is_there b (fired fs t).batches ≡ is_there b t.batches
  there_is b = (alike_fired fs t).there b

  complete_there : (b : Bytes) → 0 < count_named Complete b fs → is_there b t.batches ≡ true
  complete_there b some =
      let n = l.complete sane b in
      let there = fired_there Complete b (fired fs t).batches in
      let same = there_is b in
      grind (arith, some, n, there, same)

  success_there : (b : Bytes) → 0 < count_named Success b fs → is_there b t.batches ≡ true
  success_there b some =
      let n = l.success sane b in
      let before = l.there b in
      let none = marked_nowhere Returned s b sane in
      let same = there_is b in
      grind (arith, some, n, before, none, same)

  named_there : (kind : Kind) (b : Bytes) → 0 < count_named kind b fs → is_there b t.batches ≡ true
  named_there Complete b some = complete_there b some
  named_there Success b some = success_there b some
  named_there Death b some = (dies b sane).1 some

  success_once : (b : Bytes) → count_named Success b fs + one_if (was_fired Success b s.batches) ≤ 1
  success_once b =
      let n = l.success sane b in
      let there = fired_there Success b s.batches in
      let done = settled b in
      grind (arith, n, there, done)

  named_once : (kind : Kind) (b : Bytes) → count_named kind b fs + one_if (was_fired kind b s.batches) ≤ 1
  named_once Complete b = new_once (was_completed s b) (was_completed (fired fs t) b) _ (l.complete sane b)
  named_once Success b = success_once b
  named_once Death b = (dies b sane).0

  once : FireOnce t.batches fs
  once kind b = let n = named_once kind b in let before = was kind b in grind (arith, n, before)

  pub count_all : fired_count (fired fs t).batches ≡ fired_count t.batches + length fs
  count_all = count_fired fs t.batches (all_there t.batches fs named_there) once

  -- what succeeded is settled
  settled_still : (b : Bytes) → was_fired Success b (fired fs t).batches ≡ true → is_settled (fired fs t) b ≡ true
  settled_still b h = cases (was_fired Success b t.batches) refl where
    cases : (old : Bool) → was_fired Success b t.batches ≡ old → is_settled (fired fs t) b ≡ true
    cases true e = (l.done sane b (fired_there Success b s.batches (was Success b e), settled b (was Success b e))).1
    cases false e =
        let after = fired_after Success b fs t.batches in
        let some = some_named Success b fs in
        let n = l.success sane b in
        grind (arith, h, e, after, some, n)

pub covers_fired : (w : World) (changes : List Change) (t : Batched) (fs : List Firing)
    → (perform w changes).batches ≡ fired fs t
    → Leads w.batches (fired fs t) (λ kind b. count_named kind b fs)
    → fired_count t.batches ≡ fired_count w.batches.batches
    → ((kind : Kind) (b : Bytes) → was_fired kind b t.batches ≡ true → was_fired kind b w.batches.batches ≡ true)
    → ((b : Bytes) → Sane w.batches → DiesOnce w.batches t fs b)
    → callbacks changes ≤ length fs
    → Covers w changes
covers_fired w changes t fs is l same was dies few c = subst (IsCovered (perform w changes).tally.inner) (sym is) (record {
  sane = l.sane c.sane;
  settled = settled_still w.batches t fs l was dies c.sane c.settled;
  fired = omega (arith, through_inner w changes, count_all w.batches t fs l was dies c.sane c.settled, same, few, c.fired);
})

-- ## How many callbacks there may be

kinds_few : (f : Fired) → kinds_fired f ≤ 3
kinds_few f = omega (arith, most_one f.complete, most_one f.success, most_one f.death)

pub count_few : (bs : List BatchEntry) → fired_count bs ≤ 3 * length bs
count_few [] = omega arith
count_few (e ∷ es) = omega (arith, kinds_few e.0, count_few es)

-- ## The first world

pub covered_none : (most : ℕ) → IsCovered 0 (record { most = most; batches = []; members = [] })
covered_none most = record { sane = record { tree = tt; homes = tt }; settled = λ b h. absurd (cc h); fired = omega arith }
