-- The changes by which a batch is told of a job.
use Rattle.std.proofs.Common.{◌≡◌, ◌≤◌, ℕ, ◌+◌, List, [], ◌∷◌, length, refl, sym, ap, subst, ◌∙◌, arith, Bool, true, false, cond, not, ◌&&◌, ◌||◌}
use Rattle.std.specs.Prelude.{Option, Some, None, filter}
use Rattle.std.specs.List.{list_any}
use Rattle.sk_resp.specs.Spelling.{Bytes}
use Rattle.sk_cmd.specs.declared.argument.Side.TheVariants.{Left}
use Rattle.sk_payload.specs.Head.{head}
use Rattle.sk_payload.specs.declared.head.Head.{Head}
use Rattle.sk_places.specs.declared.row.Place.TheVariants.{Queue}
use Rattle.sk_places.specs.declared.row.Row.{Row}
use Rattle.sk_places.specs.Rows.{row_at, stands_before}
use Rattle.sk_batch.specs.Batched.{Batched, is_job, is_member, is_there}
use Rattle.sk_batch.specs.Events.{fired, marked}
use Rattle.sk_batch.specs.Fires.{complete_fires, completes, success_fires, succeeds, death_fires, dies}
use Rattle.sk_batch.specs.Ancestors.{is_under, ancestors}
use Rattle.sk_batch.specs.Open.{with_mark}
use Rattle.sk_batch.specs.Notify.{fires_of, later_fires, mark_of}
use Rattle.sk_batch.specs.declared.event.Event.{Event}
use Rattle.sk_batch.specs.declared.event.Event.TheVariants as event
use Rattle.sk_batch.specs.declared.firing.Firing.{Firing}
use Rattle.sk_batch.specs.declared.firing.Kind.{Kind}
use Rattle.sk_batch.specs.declared.firing.Kind.TheVariants.{Complete, Success, Death}
use Rattle.sk_batch.specs.declared.member.Mark.{Mark}
use Rattle.sk_batch.specs.declared.member.Mark.TheVariants.{Reported, Returned}
use Rattle.sk_batch.proofs.Places.{retagged_none}
use Rattle.sk_places.specs.declared.origin.Origin.{Origin}
use Rattle.sk_places.specs.declared.origin.Origin.TheVariants.{Inner}
use Rattle.sk_model.specs.World.{World}
use Rattle.sk_places.specs.LiveJobs.{one_if}
use Rattle.sk_model.specs.Covered.{IsCovered, fired_count}
use Rattle.sk_model.specs.Change.{Fire, Notifies, Change, Moves, changed, perform}
use Rattle.sk_places.specs.Rows.{copies_of}
use Rattle.sk_model.specs.Room.{most_pushes}
use Rattle.sk_model.specs.Notify.{push_to, push_job, push_callback, fire_all, notify_in, notify_of, notify}
use Rattle.sk_model.specs.Once.{CallsFollow, times, buries, is_of_batch, names_batch}
use Rattle.sk_model.specs.Order.{InOrder}
use Rattle.sk_model.proofs.Tools.Texts.{bytes_tell}
use Rattle.sk_model.proofs.Tools.RowsThatGo.{count_put}
use Rattle.sk_model.proofs.Changes.Ancestors.{line_there}
use Rattle.sk_model.proofs.Changes.Marked.{Sane, home_there}
use Rattle.sk_model.proofs.Changes.Fired.{any-append, any_death, any_others, count-append, count_death, count_named, count_others, fire_all_batches, fire_all_times, fired_after, named, perform-append}
use Rattle.sk_model.proofs.Changes.Batches.{Leads, StaysWhole, leads_own, leads_same}
use Rattle.sk_model.proofs.Changes.NotifyLaws.{fires_are, leads, stays_whole, notified_fires}
use Rattle.sk_model.proofs.Changes.Callbacks.{AllCalled, all_called-append, calls_fired, line_own, own_called}
use Rattle.sk_model.proofs.Changes.Order.{Lined, Ordered, fires_ordered, kinds_ordered, line_lined, lined_ordered}
use Rattle.sk_model.proofs.Changes.Jobs.{KeepsJobs, keeps_nothing, keeps_append, keeps_others, keeps_add, keeps_fire, keeps_notifies}
use Rattle.sk_model.proofs.Changes.Covered.{Covers, DiesOnce, count_all, covers_fired, fires_few, none_dies_once}
use Rattle.sk_model.proofs.Changes.Lawful.{Told, buries-append, good_nothing, has_died, told_of}

-- ## A job that is no member

fires_none : (e : Event) (bid jid : Bytes) (s : Batched) → is_member bid jid s.members ≡ false → fires_of e bid jid s ≡ []
fires_none event.Reported bid jid s m = ap (λ b. cond b (complete_fires (marked Reported bid jid s) bid) []) m
fires_none event.Returned bid jid s m = ap (λ b. cond b (notified_fires event.Returned bid jid s) []) m
fires_none event.Died bid jid s m = ap (λ b. cond b (notified_fires event.Died bid jid s) []) m

marked_none : (by : Mark) (bid jid : Bytes) (s : Batched) → is_member bid jid s.members ≡ false → marked by bid jid s ≡ s
marked_none by bid jid s m = ap (λ ms. record s { members = ms }) (retagged_none (is_job bid jid) (with_mark by) s.members m)

-- ## The batches

-- the batches after a batch was told
abbrev pub after_notified : Event → Bytes → Bytes → Batched → Batched
after_notified e bid jid s = fired (fires_of e bid jid s) (marked (mark_of e) bid jid s)

leads_notified : (e : Event) (bid jid : Bytes) (s : Batched) → Leads s (after_notified e bid jid s) (λ kind b. count_named kind b (fires_of e bid jid s))
leads_notified e bid jid s = by_member (is_member bid jid s.members) refl where
  by_member : (m : Bool) → is_member bid jid s.members ≡ m → Leads s (after_notified e bid jid s) (λ kind b. count_named kind b (fires_of e bid jid s))
  by_member true m = subst (λ fs. Leads s (fired fs (marked (mark_of e) bid jid s)) (λ kind b. count_named kind b fs)) (sym (fires_are e bid jid s m)) (leads e bid jid s m)
  by_member false m = subst (λ fs. Leads s (fired fs (marked (mark_of e) bid jid s)) (λ kind b. count_named kind b fs)) (sym (fires_none e bid jid s m))
      (subst (λ (t : Batched). Leads s t (λ kind b. 0)) (sym (marked_none (mark_of e) bid jid s m)) (leads_own s (λ kind b. 0) (λ kind b. refl)))

stays_notified : (e : Event) (bid jid : Bytes) (s : Batched) → StaysWhole s (after_notified e bid jid s)
stays_notified e bid jid s = by_member (is_member bid jid s.members) refl where
  by_member : (m : Bool) → is_member bid jid s.members ≡ m → StaysWhole s (after_notified e bid jid s)
  by_member true m = subst (λ fs. StaysWhole s (fired fs (marked (mark_of e) bid jid s))) (sym (fires_are e bid jid s m)) (stays_whole e bid jid s m)
  by_member false m = subst (λ fs. StaysWhole s (fired fs (marked (mark_of e) bid jid s))) (sym (fires_none e bid jid s m))
      (subst (StaysWhole s) (sym (marked_none (mark_of e) bid jid s m)) (λ b h. h))

-- ## Death

-- how often death is fired, and whether it is
abbrev Dies : Event → Bytes → Bytes → Batched → Bytes → Bool → Type 0
Dies e bid jid s b dies = (count_named Death b (fires_of e bid jid s) ≡ one_if dies) × (list_any (named Death b) (fires_of e bid jid s) ≡ dies)

-- by nothing but a burying
none_dies : (e : Event) (bid jid : Bytes) (s : Batched) (b : Bytes) → (e ≡ event.Died → ⊥) → Dies e bid jid s b false
none_dies e bid jid s b alive = by_member (is_member bid jid s.members) refl where
  notified_none : (e : Event) → (e ≡ event.Died → ⊥) → (count_named Death b (notified_fires e bid jid s) ≡ 0) × (list_any (named Death b) (notified_fires e bid jid s) ≡ false)
  notified_none event.Reported alive =
      let es = filter (completes (marked Reported bid jid s)) (ancestors s.batches bid) in
      let fs = complete_fires (marked Reported bid jid s) bid in
      (omega (arith, count-append Death b fs [], count_others Death Complete b es refl), any-append Death b fs [] ∙ ap (λ x. x || false) (any_others Death Complete b es refl))
  notified_none event.Returned alive =
      let t = marked Returned bid jid s in
      let es = filter (completes t) (ancestors s.batches bid) in
      let es' = filter (succeeds s t) (ancestors s.batches bid) in
      let fs = complete_fires t bid in
      let gs = success_fires s t bid in
      (omega (arith, count-append Death b fs gs, count_others Death Complete b es refl, count_others Death Success b es' refl), any-append Death b fs gs ∙ ap (λ x. x || list_any (named Death b) gs) (any_others Death Complete b es refl) ∙ any_others Death Success b es' refl)
  notified_none event.Died alive = absurd (alive refl)

  by_member : (m : Bool) → is_member bid jid s.members ≡ m → Dies e bid jid s b false
  by_member true m = subst (λ fs. (count_named Death b fs ≡ 0) × (list_any (named Death b) fs ≡ false)) (sym (fires_are e bid jid s m)) (notified_none e alive)
  by_member false m = subst (λ fs. (count_named Death b fs ≡ 0) × (list_any (named Death b) fs ≡ false)) (sym (fires_none e bid jid s m)) (refl, refl)

-- what a member is under is there
under_there : (bid jid : Bytes) (s : Batched) (b : Bytes) → Sane s → is_member bid jid s.members ≡ true → is_under s.batches bid b ≡ true → is_there b s.batches ≡ true
under_there bid jid s b sane m u = line_there s.batches bid b sane.tree (home_there s.batches s.members bid jid sane.homes m) u

-- by the first one of a member of a batch or of one within it
member_dies : (bid jid : Bytes) (s : Batched) (b : Bytes) → Sane s → Dies event.Died bid jid s b ((is_under s.batches bid b && is_member bid jid s.members) && not (has_died s b))
member_dies bid jid s b sane = by_member (is_member bid jid s.members) refl where
  by_member : (m : Bool) → is_member bid jid s.members ≡ m → Dies event.Died bid jid s b ((is_under s.batches bid b && is_member bid jid s.members) && not (has_died s b))
  by_member true m =
      let t = marked Reported bid jid s in
      let es = filter (completes t) (ancestors s.batches bid) in
      let fs = complete_fires t bid in
      let gs = death_fires s bid in
      let there = home_there s.batches s.members bid jid sane.homes m in
      let count = count-append Death b fs gs in
      let some = any-append Death b fs gs in
      let no = count_others Death Complete b es refl in
      let none = any_others Death Complete b es refl in
      let one = count_death s bid b sane.tree there in
      let once = any_death s bid b sane.tree in
      subst (λ fs. (count_named Death b fs ≡ one_if ((is_under s.batches bid b && is_member bid jid s.members) && not (has_died s b))) × (list_any (named Death b) fs ≡ (is_under s.batches bid b && is_member bid jid s.members) && not (has_died s b)))
      (sym (fires_are event.Died bid jid s m)) (grind (arith, bytes_tell, count, no, one, m), grind (arith, bytes_tell, some, none, once, m))
  by_member false m =
      subst (λ fs. (count_named Death b fs ≡ one_if ((is_under s.batches bid b && is_member bid jid s.members) && not (has_died s b))) × (list_any (named Death b) fs ≡ (is_under s.batches bid b && is_member bid jid s.members) && not (has_died s b)))
      (sym (fires_none event.Died bid jid s m)) (grind (arith, m), grind (arith, m))

-- ## Callbacks

-- each firing has the callback of its batch
pub fires_called : (e : Event) (bid jid : Bytes) (s : Batched) → Sane s → AllCalled (marked (mark_of e) bid jid s) (fires_of e bid jid s)
fires_called e bid jid s sane = by_member (is_member bid jid s.members) refl where
  later_called : (e : Event) → AllCalled (marked (mark_of e) bid jid s) (later_fires e bid jid s)
  later_called event.Reported = tt
  later_called event.Returned = let t = marked Returned bid jid s in own_called Success t (succeeds s t) (ancestors s.batches bid) (line_own Success s.batches bid sane.tree)
  later_called event.Died = own_called Death (marked Reported bid jid s) dies (ancestors s.batches bid) (line_own Death s.batches bid sane.tree)

  by_member : (m : Bool) → is_member bid jid s.members ≡ m → AllCalled (marked (mark_of e) bid jid s) (fires_of e bid jid s)
  by_member true m =
      let t = marked (mark_of e) bid jid s in
      subst (AllCalled t) (sym (fires_are e bid jid s m))
      (all_called-append t (complete_fires t bid) (later_fires e bid jid s) (own_called Complete t (completes t) (ancestors s.batches bid) (line_own Complete s.batches bid sane.tree)) (later_called e))
  by_member false m = subst (AllCalled (marked (mark_of e) bid jid s)) (sym (fires_none e bid jid s m)) tt

-- ## Order

-- they stand in order
pub notified_ordered : (e : Event) (bid jid : Bytes) (s : Batched) → Sane s → Ordered (marked (mark_of e) bid jid s) (fires_of e bid jid s)
notified_ordered e bid jid s sane = by_member (is_member bid jid s.members) refl where
  line : Lined s.batches (ancestors s.batches bid)
  line = line_lined s.batches bid sane.tree

  by_event : (e : Event) → Ordered (marked (mark_of e) bid jid s) (notified_fires e bid jid s)
  by_event event.Reported =
      let t = marked Reported bid jid s in
      kinds_ordered t Complete Success refl (filter (completes t) (ancestors s.batches bid)) [] (lined_ordered t Complete (completes t) (ancestors s.batches bid) line) tt
  by_event event.Returned =
      let t = marked Returned bid jid s in
      kinds_ordered t Complete Success refl (filter (completes t) (ancestors s.batches bid)) (filter (succeeds s t) (ancestors s.batches bid))
      (lined_ordered t Complete (completes t) (ancestors s.batches bid) line) (lined_ordered t Success (succeeds s t) (ancestors s.batches bid) line)
  by_event event.Died =
      let t = marked Reported bid jid s in
      kinds_ordered t Complete Death refl (filter (completes t) (ancestors s.batches bid)) (filter dies (ancestors s.batches bid))
      (lined_ordered t Complete (completes t) (ancestors s.batches bid) line) (lined_ordered t Death dies (ancestors s.batches bid) line)

  by_member : (m : Bool) → is_member bid jid s.members ≡ m → Ordered (marked (mark_of e) bid jid s) (fires_of e bid jid s)
  by_member true m = subst (Ordered (marked (mark_of e) bid jid s)) (sym (fires_are e bid jid s m)) (by_event e)
  by_member false m = subst (Ordered (marked (mark_of e) bid jid s)) (sym (fires_none e bid jid s m)) tt

-- ## Firings, one after another

module _ (b : Bytes) where
  push_buries : (w : World) (from : Origin) (text : Bytes) (found : Option Head) → buries b w (push_to from text found) ≡ false
  push_buries w from text None = refl
  push_buries w from text (Some h) = refl

  pub job_buries : (w : World) (from : Origin) (text : Bytes) → buries b w (push_job from text) ≡ false
  job_buries w from text = push_buries w from text (head text)

  push_callback_buries : (w : World) (o : Option Bytes) → buries b w (push_callback o) ≡ false
  push_callback_buries w None = refl
  push_callback_buries w (Some text) = job_buries w Inner text

  pub fires_bury : (w : World) (fs : List Firing) → buries b w (fire_all fs) ≡ false
  fires_bury w [] = refl
  fires_bury w (f ∷ fs) =
      let v : World = changed w (Moves (Fire f.bid f.kind)) in
      let both = buries-append b v (push_callback f.payload) (fire_all fs) in
      let one = push_callback_buries v f.payload in
      let more = fires_bury (perform v (push_callback f.payload)) fs in
      grind (arith, both, one, more)

push_keeps : (w : World) (from : Origin) (text : Bytes) (found : Option Head) → KeepsJobs w (push_to from text found)
push_keeps w from text None = keeps_nothing w
push_keeps w from text (Some h) = keeps_add w (row_at (Queue h.queue) text) Left from

pub job_keeps : (w : World) (from : Origin) (text : Bytes) → KeepsJobs w (push_job from text)
job_keeps w from text = push_keeps w from text (head text)

push_callback_keeps : (w : World) (o : Option Bytes) → KeepsJobs w (push_callback o)
push_callback_keeps w None = keeps_nothing w
push_callback_keeps w (Some text) = job_keeps w Inner text

pub fires_keep : (w : World) (fs : List Firing) → KeepsJobs w (fire_all fs)
fires_keep w [] = keeps_nothing w
fires_keep w (f ∷ fs) =
    let v : World = changed w (Moves (Fire f.bid f.kind)) in
    keeps_others w (Moves (Fire f.bid f.kind)) _ (keeps_fire w f.bid f.kind)
    (keeps_append v (push_callback f.payload) (fire_all fs) (push_callback_keeps v f.payload) (fires_keep (perform v (push_callback f.payload)) fs))

-- each row is there as often as before, or more often
module _ (other : Row) where
  push_more : (w : World) (from : Origin) (text : Bytes) (found : Option Head) → copies_of other w.rows ≤ copies_of other (perform w (push_to from text found)).rows
  push_more w from text None = omega arith
  push_more w from text (Some h) = count_put other (row_at (Queue h.queue) text) (stands_before Left (row_at (Queue h.queue) text)) w.rows

  push_callback_more : (w : World) (o : Option Bytes) → copies_of other w.rows ≤ copies_of other (perform w (push_callback o)).rows
  push_callback_more w None = omega arith
  push_callback_more w (Some text) = push_more w Inner text (head text)

  fires_more : (w : World) (fs : List Firing) → copies_of other w.rows ≤ copies_of other (perform w (fire_all fs)).rows
  fires_more w [] = omega arith
  fires_more w (f ∷ fs) =
      let v : World = changed w (Moves (Fire f.bid f.kind)) in
      omega (
        arith,
        push_callback_more v f.payload,
        fires_more (perform v (push_callback f.payload)) fs,
        ap (λ (u : World). copies_of other u.rows) (perform-append v (push_callback f.payload) (fire_all fs)),
      )

  notify_in_more : (e : Event) (w : World) (jid : Bytes) (o : Option Bytes) → copies_of other w.rows ≤ copies_of other (perform w (notify_in e w jid o).changes).rows
  notify_in_more e w jid None = omega arith
  notify_in_more e w jid (Some bid) = fires_more (changed w (Notifies e bid jid)) (fires_of e bid jid w.batches)

  pub notify_more : (e : Event) (w : World) (found : Option Head) → copies_of other w.rows ≤ copies_of other (perform w (notify_of e w found).changes).rows
  notify_more e w None = omega arith
  notify_more e w (Some h) = notify_in_more e w h.jid h.bid

-- ## What is told

module _ (e : Event) (w : World) (bid jid : Bytes) where
  abbrev fs : List Firing
  fs = fires_of e bid jid w.batches

  pub notified_batches : (perform w (notify_in e w jid (Some bid)).changes).batches ≡ after_notified e bid jid w.batches
  notified_batches = fire_all_batches (changed w (Notifies e bid jid)) fs

  notified_times : (kind : Kind) (b : Bytes) → times kind b (notify_in e w jid (Some bid)).changes ≡ count_named kind b fs
  notified_times kind b = omega (arith, fire_all_times kind b fs)

  notified_leads : Leads w.batches (perform w (notify_in e w jid (Some bid)).changes).batches (λ kind b. times kind b (notify_in e w jid (Some bid)).changes)
  notified_leads = leads_same w.batches _ _ _ notified_times (subst (λ (t : Batched). Leads w.batches t (λ kind b. count_named kind b fs)) (sym notified_batches) (leads_notified e bid jid w.batches))

  notified_stays : StaysWhole w.batches (perform w (notify_in e w jid (Some bid)).changes).batches
  notified_stays = subst (StaysWhole w.batches) (sym notified_batches) (stays_notified e bid jid w.batches)

  notified_keeps : KeepsJobs w (notify_in e w jid (Some bid)).changes
  notified_keeps = keeps_others w (Notifies e bid jid) (fire_all fs) (keeps_notifies w e bid jid) (fires_keep (changed w (Notifies e bid jid)) fs)

  notified_buries : (b : Bytes) → buries b w (notify_in e w jid (Some bid)).changes ≡ false
  notified_buries b = fires_bury b (changed w (Notifies e bid jid)) fs

  notified_calls : Sane w.batches → CallsFollow w (notify_in e w jid (Some bid)).changes
  notified_calls sane = ((fire_all fs, refl), calls_fired (changed w (Notifies e bid jid)) fs (fires_called e bid jid w.batches sane))

  notified_order : Sane w.batches → InOrder w (notify_in e w jid (Some bid)).changes
  notified_order sane = (refl, fires_ordered (changed w (Notifies e bid jid)) fs (notified_ordered e bid jid w.batches sane))

  -- what is kept of deaths
  notified_died : (b : Bytes) → has_died (perform w (notify_in e w jid (Some bid)).changes).batches b ≡ has_died w.batches b || (is_there b w.batches.batches && list_any (named Death b) fs)
  notified_died b = ap (λ (t : Batched). has_died t b) notified_batches ∙ fired_after Death b fs w.batches.batches

-- ## Callbacks are covered

-- death is fired once, if at all
notified_dies : (e : Event) (bid jid : Bytes) (s : Batched) (b : Bytes) → Sane s → DiesOnce s (marked (mark_of e) bid jid s) (fires_of e bid jid s) b
notified_dies event.Reported bid jid s b sane = none_dies_once s (marked Reported bid jid s) _ b (none_dies event.Reported bid jid s b (λ e. cc e)).0
notified_dies event.Returned bid jid s b sane = none_dies_once s (marked Returned bid jid s) _ b (none_dies event.Returned bid jid s b (λ e. cc e)).0
notified_dies event.Died bid jid s b sane =
    let one = (member_dies bid jid s b sane).0 in
    let there = under_there bid jid s b sane in
    (grind (arith, one), λ some. grind (arith, one, some, there))

-- as many callbacks more as are fired stay covered
pub notified_count : (callbacks : ℕ) (e : Event) (bid jid : Bytes) (s : Batched) → IsCovered callbacks s → callbacks + length (fires_of e bid jid s) ≤ most_pushes + fired_count (after_notified e bid jid s).batches
notified_count callbacks e bid jid s c =
    let count = count_all s (marked (mark_of e) bid jid s) (fires_of e bid jid s) (leads_notified e bid jid s) (λ kind b h. h) (notified_dies e bid jid s) c.sane c.settled in
    omega (arith, count, c.fired)

pub notify_covers : (e : Event) (w : World) (jid : Bytes) (o : Option Bytes) → Covers w (notify_in e w jid o).changes
notify_covers e w jid None c = c
notify_covers e w jid (Some bid) c =
    covers_fired w (notify_in e w jid (Some bid)).changes (marked (mark_of e) bid jid w.batches) (fires_of e bid jid w.batches) (notified_batches e w bid jid) (leads_notified e bid jid w.batches) refl (λ kind b h. h) (notified_dies e bid jid w.batches)
    (omega (arith, fires_few (fires_of e bid jid w.batches))) c

-- what is told but for a burying
module _ (e : Event) (alive : e ≡ event.Died → ⊥) where
  notify_in_told : (w : World) (jid : Bytes) (o : Option Bytes) → Told w (notify_in e w jid o).changes
  notify_in_told w jid None = told_of w [] (good_nothing w)
  notify_in_told w jid (Some bid) = record {
    lawful = record {
      keeps = notified_keeps e w bid jid;
      leads = notified_leads e w bid jid;
      deaths = record {
        once = λ s b. let none = none_dies e bid jid w.batches b alive in let t = notified_times e w bid jid Death b in let no = notified_buries e w bid jid b in grind (arith, none.0, t, no);
        died = λ s b. let none = none_dies e bid jid w.batches b alive in let is = notified_died e w bid jid b in let no = notified_buries e w bid jid b in grind (arith, none.1, is, no);
      };
      calls = notified_calls e w bid jid;
      order = notified_order e w bid jid;
      covers = notify_covers e w jid (Some bid);
    };
    stays = notified_stays e w bid jid;
  }

  notify_of_told : (w : World) (found : Option Head) → Told w (notify_of e w found).changes
  notify_of_told w None = told_of w [] (good_nothing w)
  notify_of_told w (Some h) = notify_in_told w h.jid h.bid

  pub notify_told : (w : World) (text : Bytes) → Told w (notify e w text).changes
  notify_told w text = notify_of_told w (head text)

-- what is told of a burying
pub record TellsDeath (w : World) (changes : List Change) (dies : Bytes → Bool) : Type 0 where
  pub keeps : KeepsJobs w changes
  pub leads : Leads w.batches (perform w changes).batches (λ kind b. times kind b changes)
  pub stays : StaysWhole w.batches (perform w changes).batches
  pub buries_none : (b : Bytes) → buries b w changes ≡ false
  pub calls : Sane w.batches → CallsFollow w changes
  pub order : Sane w.batches → InOrder w changes
  pub covers : Covers w changes
  pub once : Sane w.batches → (b : Bytes) → times Death b changes ≡ one_if (dies b && not (has_died w.batches b))
  pub died : Sane w.batches → (b : Bytes) → has_died (perform w changes).batches b ≡ has_died w.batches b || dies b

nothing_dies : (w : World) → TellsDeath w [] (λ b. false)
nothing_dies w = record { keeps = keeps_nothing w; leads = (good_nothing w).lawful.leads; stays = λ b h. h; buries_none = λ b. refl; calls = λ s. tt; order = λ s. tt; covers = λ c. c; once = λ s b. refl; died = λ s b. grind arith }

in_dies : (w : World) (jid : Bytes) (o : Option Bytes) → TellsDeath w (notify_in event.Died w jid o).changes (λ b. names_batch b w.batches jid o)
in_dies w jid None = nothing_dies w
in_dies w jid (Some bid) = record {
  keeps = notified_keeps event.Died w bid jid;
  leads = notified_leads event.Died w bid jid;
  stays = notified_stays event.Died w bid jid;
  buries_none = notified_buries event.Died w bid jid;
  calls = notified_calls event.Died w bid jid;
  order = notified_order event.Died w bid jid;
  covers = notify_covers event.Died w jid (Some bid);
  once = λ s b. notified_times event.Died w bid jid Death b ∙ (member_dies bid jid w.batches b s).0;
  died = λ s b.
      let one = member_dies bid jid w.batches b s in
      let is = notified_died event.Died w bid jid b in
      let there = under_there bid jid w.batches b s in
      grind (arith, one.1, is, there);
}

pub tells_death : (w : World) (found : Option Head) → TellsDeath w (notify_of event.Died w found).changes (λ b. is_of_batch b w.batches found)
tells_death w None = nothing_dies w
tells_death w (Some h) = in_dies w h.jid h.bid
