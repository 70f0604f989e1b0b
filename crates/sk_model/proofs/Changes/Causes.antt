-- What each kind of change owes to its cause, and one list of changes after another.
use Rattle.std.proofs.Common.{◌≡◌, List, [], ◌∷◌, ◌++◌, refl, sym, subst, arith, Bool, true, false, ◌||◌, map}
use Rattle.std.specs.Prelude.{Option, Some, None}
use Rattle.std.specs.List.{list_all, list_any}
use Rattle.std.specs.Ordering.{is_eq}
use Rattle.sk_resp.specs.Spelling.{Bytes}
use Rattle.sk_cmd.specs.declared.argument.Scored.TheVariants.{Schedule, Retry, Dead}
use Rattle.sk_payload.specs.Head.{head}
use Rattle.sk_payload.specs.declared.head.Head.{Head}
use Rattle.sk_places.specs.declared.row.Place.{Place}
use Rattle.sk_places.specs.declared.row.Place.TheVariants.{Queue, Private, Set}
use Rattle.sk_places.specs.declared.row.Row.{Row}
use Rattle.sk_places.specs.Rows.{is_at, place_cmp, rows_at}
use Rattle.sk_batch.specs.Batched.{Batched}
use Rattle.sk_batch.specs.declared.event.Event.{Event as Notified}
use Rattle.sk_batch.specs.declared.event.Event.TheVariants.{Returned, Reported, Died}
use Rattle.sk_batch.specs.declared.firing.Firing.{Firing}
use Rattle.sk_places.specs.declared.origin.Origin.TheVariants.{Outside, Inner}
use Rattle.sk_model.specs.World.{World}
use Rattle.sk_model.specs.Change.{Add, Carry, Take, Trim, Merge, PutBack, Free, Fire, Change, Moves, Passes, Names, Unnames, Keeps, Turns, Beats, Counts, Recovers, Forgets, Locks, Unlocks, Elects, TakesSlot, Makes, Joins, Notifies, changed, perform}
use Rattle.sk_model.specs.Notify.{push_callback, fire_all, push_to, notify_in, notify_of}
use Rattle.sk_model.specs.Jobs.{surplus, buried_by}
use Rattle.sk_model.specs.Event.{Event}
use Rattle.sk_model.specs.Once.{called_by, is_burial, is_dead_set}
use Rattle.sk_model.specs.Causes.{IsRemoval, HasCause, HaveCauses}
use Rattle.sk_model.proofs.Changes.Marked.{Sane}
use Rattle.sk_model.proofs.Changes.Fired.{push_callback_batches}
use Rattle.sk_model.proofs.Changes.Callbacks.{AllCalled, all_called_after}
use Rattle.sk_model.proofs.Changes.Notify.{fires_called}
use Rattle.sk_model.proofs.Commands.Sets.{all_own, surplus_dead}

-- ## Changes that need no cause

-- takes: whether rows may be taken away
abbrev pub is_tame : Bool → Change → Bool
is_tame takes (Moves (Take row from)) = takes
is_tame takes (Moves (Trim row)) = false
is_tame takes (Moves (Free seat text)) = false
is_tame takes (Moves (PutBack row)) = false
is_tame takes (Moves (Add row end Inner)) = false
is_tame takes (Locks digest jid seconds) = false
is_tame takes (Unlocks digest jid) = false
is_tame takes (Elects ident) = false
is_tame takes (TakesSlot loop slot text) = false
is_tame takes (Notifies Returned bid jid) = false
is_tame takes other = true

abbrev pub all_tame : Bool → List Change → Bool
all_tame takes changes = list_all (is_tame takes) changes

pub tame-append : (takes : Bool) (one more : List Change) → all_tame takes one ≡ true → all_tame takes more ≡ true → all_tame takes (one ++ more) ≡ true
tame-append takes [] more e f = f
tame-append takes (change ∷ one) more e f = grind (arith, e, tame-append takes one more, f)

-- a text came into the dead set
abbrev pub some_burial : List Change → Bool
some_burial changes = list_any is_burial changes

module _ (w : World) (event : Event) where
  cause_tame : (takes : Bool) (b : Bool) (due : List Change) (change : Change) → (takes ≡ true → IsRemoval w event) → is_tame takes change ≡ true → HasCause w event b due change
  cause_tame takes b due (Moves (Take row from)) removal e = removal e
  cause_tame takes b due (Moves (Trim row)) removal e = absurd (cc e)
  cause_tame takes b due (Moves (Free seat text)) removal e = absurd (cc e)
  cause_tame takes b due (Moves (PutBack row)) removal e = absurd (cc e)
  cause_tame takes b due (Moves (Add row end Inner)) removal e = absurd (cc e)
  cause_tame takes b due (Moves (Add row end Outside)) removal e = tt
  cause_tame takes b due (Moves (Carry row from to score end)) removal e = tt
  cause_tame takes b due (Moves (Merge row)) removal e = tt
  cause_tame takes b due (Moves (Fire bid kind)) removal e = tt
  cause_tame takes b due (Passes now) removal e = tt
  cause_tame takes b due (Names queue) removal e = tt
  cause_tame takes b due (Unnames queue) removal e = tt
  cause_tame takes b due (Keeps keys) removal e = tt
  cause_tame takes b due (Turns seat phase) removal e = tt
  cause_tame takes b due (Beats ident) removal e = tt
  cause_tame takes b due (Counts name) removal e = tt
  cause_tame takes b due (Recovers jid) removal e = tt
  cause_tame takes b due (Forgets jid) removal e = tt
  cause_tame takes b due (Locks digest jid seconds) removal e = absurd (cc e)
  cause_tame takes b due (Unlocks digest jid) removal e = absurd (cc e)
  cause_tame takes b due (Elects ident) removal e = absurd (cc e)
  cause_tame takes b due (TakesSlot loop slot text) removal e = absurd (cc e)
  cause_tame takes b due (Makes batch jids) removal e = tt
  cause_tame takes b due (Joins bid jids) removal e = tt
  cause_tame takes b due (Notifies Returned bid jid) removal e = absurd (cc e)
  cause_tame takes b due (Notifies Reported bid jid) removal e = tt
  cause_tame takes b due (Notifies Died bid jid) removal e = tt

  pub causes_tame : (takes : Bool) (b : Bool) (due : List Change) (v : World) (changes : List Change) → (takes ≡ true → IsRemoval w event) → all_tame takes changes ≡ true → HaveCauses w event b due v changes
  causes_tame takes b due v [] removal e = tt
  causes_tame takes b due v (change ∷ changes) removal e =
      (cause_tame takes b due change removal (grind (arith, e)), causes_tame takes (b || is_burial change) (called_by v change) (changed v change) changes removal (grind (arith, e)))

  -- ## One list of changes after another

  later_cause : (b c : Bool) (due : List Change) (change : Change) → (b ≡ true → c ≡ true) → HasCause w event b due change → HasCause w event c due change
  later_cause b c due (Moves (Trim row)) more h = (h.0, more h.1)
  later_cause b c due (Moves (Take row from)) more h = h
  later_cause b c due (Moves (Free seat text)) more h = h
  later_cause b c due (Moves (PutBack row)) more h = h
  later_cause b c due (Moves (Add row end Inner)) more h = h
  later_cause b c due (Moves (Add row end Outside)) more h = tt
  later_cause b c due (Moves (Carry row from to score end)) more h = tt
  later_cause b c due (Moves (Merge row)) more h = tt
  later_cause b c due (Moves (Fire bid kind)) more h = tt
  later_cause b c due (Passes now) more h = tt
  later_cause b c due (Names queue) more h = tt
  later_cause b c due (Unnames queue) more h = tt
  later_cause b c due (Keeps keys) more h = tt
  later_cause b c due (Turns seat phase) more h = tt
  later_cause b c due (Beats ident) more h = tt
  later_cause b c due (Counts name) more h = tt
  later_cause b c due (Recovers jid) more h = tt
  later_cause b c due (Forgets jid) more h = tt
  later_cause b c due (Locks digest jid seconds) more h = h
  later_cause b c due (Unlocks digest jid) more h = h
  later_cause b c due (Elects ident) more h = h
  later_cause b c due (TakesSlot loop slot text) more h = h
  later_cause b c due (Makes batch jids) more h = tt
  later_cause b c due (Joins bid jids) more h = tt
  later_cause b c due (Notifies Returned bid jid) more h = h
  later_cause b c due (Notifies Reported bid jid) more h = tt
  later_cause b c due (Notifies Died bid jid) more h = tt

  later : (b c : Bool) (due : List Change) (v : World) (changes : List Change) → (b ≡ true → c ≡ true) → HaveCauses w event b due v changes → HaveCauses w event c due v changes
  later b c due v [] more h = tt
  later b c due v (change ∷ changes) more h =
      (later_cause b c due change more h.0, later (b || is_burial change) (c || is_burial change) (called_by v change) (changed v change) changes (λ e. grind (arith, more, e)) h.1)

  behind_cause : (b : Bool) (due : List Change) (change : Change) → HasCause w event b [] change → HasCause w event b due change
  behind_cause b due (Moves (Add row end Inner)) h = absurd (cc h)
  behind_cause b due (Moves (Trim row)) h = h
  behind_cause b due (Moves (Take row from)) h = h
  behind_cause b due (Moves (Free seat text)) h = h
  behind_cause b due (Moves (PutBack row)) h = h
  behind_cause b due (Moves (Add row end Outside)) h = tt
  behind_cause b due (Moves (Carry row from to score end)) h = tt
  behind_cause b due (Moves (Merge row)) h = tt
  behind_cause b due (Moves (Fire bid kind)) h = tt
  behind_cause b due (Passes now) h = tt
  behind_cause b due (Names queue) h = tt
  behind_cause b due (Unnames queue) h = tt
  behind_cause b due (Keeps keys) h = tt
  behind_cause b due (Turns seat phase) h = tt
  behind_cause b due (Beats ident) h = tt
  behind_cause b due (Counts name) h = tt
  behind_cause b due (Recovers jid) h = tt
  behind_cause b due (Forgets jid) h = tt
  behind_cause b due (Locks digest jid seconds) h = h
  behind_cause b due (Unlocks digest jid) h = h
  behind_cause b due (Elects ident) h = h
  behind_cause b due (TakesSlot loop slot text) h = h
  behind_cause b due (Makes batch jids) h = tt
  behind_cause b due (Joins bid jids) h = tt
  behind_cause b due (Notifies Returned bid jid) h = h
  behind_cause b due (Notifies Reported bid jid) h = tt
  behind_cause b due (Notifies Died bid jid) h = tt

  -- what has its causes at the start of an event has them anywhere in it
  pub anywhere : (b : Bool) (due : List Change) (v : World) (changes : List Change) → HaveCauses w event false [] v changes → HaveCauses w event b due v changes
  anywhere b due v [] h = tt
  anywhere b due v (change ∷ changes) h =
      let mine = later false b [] v (change ∷ changes) (λ e. absurd (cc e)) h in
      (behind_cause b due change mine.0, mine.1)

  pub causes_then : (b : Bool) (due : List Change) (v : World) (one more : List Change) → HaveCauses w event b due v one
      → ((c : Bool) (due' : List Change) → (b || some_burial one ≡ true → c ≡ true) → HaveCauses w event c due' (perform v one) more) → HaveCauses w event b due v (one ++ more)
  causes_then b due v [] more h then_ = then_ b due (λ e. grind (arith, e))
  causes_then b due v (change ∷ one) more h then_ =
      (h.0, causes_then (b || is_burial change) (called_by v change) (changed v change) one more h.1 (λ c due' e. then_ c due' (λ f. e (grind (arith, f)))))

  pub causes_append : (b : Bool) (due : List Change) (v : World) (one more : List Change) → HaveCauses w event b due v one → HaveCauses w event false [] (perform v one) more → HaveCauses w event b due v (one ++ more)
  causes_append b due v one more h then_ = causes_then b due v one more h (λ c due' e. anywhere c due' (perform v one) more then_)

  -- ## Firings, and what is told

  pub job_causes : (b : Bool) (v : World) (text : Bytes) (found : Option Head) → HaveCauses w event b (push_to Inner text found) v (push_to Inner text found)
  job_causes b v text None = tt
  job_causes b v text (Some h) = (refl, tt)

  push_callback_causes : (b : Bool) (v : World) (o : Option Bytes) → HaveCauses w event b (push_callback o) v (push_callback o)
  push_callback_causes b v None = tt
  push_callback_causes b v (Some text) = job_causes b v text (head text)

  pub fires_cause : (v : World) (fs : List Firing) → AllCalled v.batches fs → HaveCauses w event false [] v (fire_all fs)
  fires_cause v [] a = tt
  fires_cause v (f ∷ fs) a =
      let u : World = changed v (Moves (Fire f.bid f.kind)) in
      let o = push_callback f.payload in
      let rest : AllCalled (perform u o).batches fs = subst (λ (s : Batched). AllCalled s fs) (sym (push_callback_batches u f.payload)) (all_called_after v.batches f.bid f.kind fs a.1) in
      let called = subst (λ p. HaveCauses w event false (push_callback p) u o) (sym a.0) (push_callback_causes false u f.payload) in
      (tt, causes_append false _ u o (fire_all fs) called (fires_cause (perform u o) fs rest))

  notify_in_causes : (e : Notified) (v : World) (jid : Bytes) (o : Option Bytes) → Sane v.batches → ((bid : Bytes) → o ≡ Some bid → HasCause w event false [] (Notifies e bid jid)) → HaveCauses w event false [] v (notify_in e v jid o).changes
  notify_in_causes e v jid None sane cause = tt
  notify_in_causes e v jid (Some bid) sane cause =
      (cause bid refl, fires_cause (changed v (Notifies e bid jid)) _ (fires_called e bid jid v.batches sane))

  pub notify_causes : (e : Notified) (v : World) (found : Option Head) → Sane v.batches → ((h : Head) (bid : Bytes) → found ≡ Some h → h.bid ≡ Some bid → HasCause w event false [] (Notifies e bid h.jid)) → HaveCauses w event false [] v (notify_of e v found).changes
  notify_causes e v None sane cause = tt
  notify_causes e v (Some h) sane cause = notify_in_causes e v h.jid h.bid sane (λ bid is. cause h bid refl is)

  -- ## Burying

  dead_is : (place : Place) → is_eq (place_cmp (Set Dead) place) ≡ true → is_dead_set place ≡ true
  dead_is (Queue q) e = absurd (cc e)
  dead_is (Private ident) e = absurd (cc e)
  dead_is (Set Schedule) e = absurd (cc e)
  dead_is (Set Retry) e = absurd (cc e)
  dead_is (Set Dead) e = refl

  trims_cause : (due : List Change) (v : World) (rows : List Row) → list_all (is_at (Set Dead)) rows ≡ true → HaveCauses w event true due v (map (λ row. Moves (Trim row)) rows)
  trims_cause due v [] all = tt
  trims_cause due v (row ∷ rows) all = ((dead_is row.place (grind (arith, all)), refl), trims_cause [] (changed v (Moves (Trim row))) rows (grind (arith, all)))

  -- a text is buried by these changes, the dead set is trimmed, and the batch is told
  pub buried_causes : (v : World) (text : Bytes) (put : List Change) → some_burial put ≡ true → HaveCauses w event false [] v put
      → Sane (perform v (put ++ map (λ row. Moves (Trim row)) (surplus (perform v put) (rows_at (Set Dead) (perform v put).rows)))).batches → HaveCauses w event false [] v (buried_by v text put).changes
  buried_causes v text put some causes sane =
      let after : World = perform v put in
      let gone : List Row = surplus after (rows_at (Set Dead) after.rows) in
      let trims : List Change = map (λ row. Moves (Trim row)) gone in
      let all : list_all (is_at (Set Dead)) gone ≡ true = surplus_dead after (rows_at (Set Dead) after.rows) (all_own (is_at (Set Dead)) after.rows) in
      causes_append false [] v (put ++ trims) _
      (causes_then false [] v put trims causes (λ c due e. subst (λ b. HaveCauses w event b due after trims) (sym (e some)) (trims_cause due after gone all)))
      (notify_causes Died (perform v (put ++ trims)) (head text) sane (λ h bid is named. tt))
