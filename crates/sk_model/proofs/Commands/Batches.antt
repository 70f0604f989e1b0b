-- A batch is made, or gets jobs. The laws hold over it.
use Rattle.std.proofs.Common.{◌≡◌, ◌≤◌, ℕ, ◌+◌, List, [], ◌∷◌, ◌++◌, length, refl, sym, ap, subst, ◌∙◌, inl, arith, Bool, true, false, cond, not, ◌&&◌, ◌||◌}
use Rattle.std.specs.Prelude.{Option, Some, None}
use Rattle.std.specs.List.{list_any}
use Rattle.std.specs.Str.{bytes_eq}
use Rattle.sk_resp.specs.Spelling.{Bytes}
use Rattle.sk_payload.specs.Member.{is_name}
use Rattle.sk_batch.specs.Batched.{Batched, is_there}
use Rattle.sk_batch.specs.Events.{fired, joined, made, made_fires}
use Rattle.sk_batch.specs.Fires.{callback}
use Rattle.sk_batch.specs.Faults.{bid_fault, batch_fault, jids_fault, make_fault, breaks, is_full}
use Rattle.sk_batch.specs.Open.{is_settled, is_reported}
use Rattle.sk_batch.specs.declared.batch.Batch.{Batch}
use Rattle.sk_batch.specs.declared.batch_fault.BatchFault.{BatchFault}
use Rattle.sk_batch.specs.declared.batch_fault.BatchFault.TheVariants.{Full}
use Rattle.sk_batch.specs.declared.firing.Firing.{Firing}
use Rattle.sk_batch.specs.declared.firing.Kind.{Kind}
use Rattle.sk_batch.specs.declared.firing.Kind.TheVariants.{Complete, Success, Death}
use Rattle.sk_batch.specs.declared.member.Mark.TheVariants.{Reported, Returned}
use Rattle.sk_places.specs.declared.origin.Origin.TheVariants.{Outside}
use Rattle.sk_model.specs.World.{World}
use Rattle.sk_places.specs.LiveJobs.{one_if}
use Rattle.sk_model.specs.Covered.{IsCovered, fired_count}
use Rattle.sk_model.specs.Change.{Makes, Joins, Change, with_batch, changed, perform}
use Rattle.sk_model.specs.Outcome.{Outcome}
use Rattle.sk_model.specs.Room.{is_too_much, most_pushes}
use Rattle.sk_model.specs.Notify.{push_job, fire_all}
use Rattle.sk_model.specs.Batches.{jids_of, unless, all_may_join, are_callbacks, push_jobs, make, batch_push, join, batch_add}
use Rattle.sk_model.specs.Once.{CallsFollow, called, times, buries}
use Rattle.sk_model.proofs.Tools.Texts.{bytes_tell}
use Rattle.sk_model.proofs.Changes.Marked.{Alike, ParentTakes, Sane, Takes, marked_alike, marked_empty, marked_joined_back, marked_made_back, marked_nowhere, sane_joined, sane_made, settled_joined, settled_made, unmarked_full}
use Rattle.sk_model.proofs.Changes.Fired.{alike_fired, all_quiet, count_named, fire_all_batches, fire_all_times, fired_after, fired_there, job_quiet, named, perform-append, quiet-append, quiet_batches, quiet_times, sane_fired, times-append, was_fired}
use Rattle.sk_model.proofs.Changes.Batches.{Leads, was_completed, leads_same}
use Rattle.sk_model.proofs.Changes.Callbacks.{AllCalled, calls-append, calls_fired, calls_quiet}
use Rattle.sk_model.proofs.Changes.Covered.{count_all, covers_fired, few_append, fires_few, none_dies_once, quiet_calls}
use Rattle.sk_model.proofs.Changes.Jobs.{KeepsJobs, keeps_nothing, keeps_append, keeps_others, keeps_makes, keeps_joins}
use Rattle.sk_model.proofs.Changes.Order.{Ordered, fires_ordered, order_behind, order_none, quiet_none}
use Rattle.sk_model.proofs.Changes.Lawful.{Lawful, good_nothing, buries-append, has_died}
use Rattle.sk_model.proofs.Changes.Notify.{fires_bury, fires_keep, job_buries, job_keeps}

-- ## A batch is made

module _ (s : Batched) (batch : Batch) (jids : List Bytes) (new : is_there batch.bid s.batches ≡ false) (takes : ParentTakes s batch.parent) where
  abbrev x : Bytes
  x = batch.bid

  abbrev v : Batched
  v = joined batch.bid jids (with_batch batch s)

  abbrev fs : List Firing
  fs = made_fires batch jids

  abbrev end : Batched
  end = fired fs v

  alike : Alike end v
  alike = alike_fired fs v

  settled_is : (b : Bytes) → is_settled end b ≡ is_settled v b
  settled_is b = marked_alike Returned end v b alike

  reported_is : (b : Bytes) → is_reported end b ≡ is_reported v b
  reported_is b = marked_alike Reported end v b alike

  there_is : (b : Bytes) → is_there b end.batches ≡ bytes_eq x b || is_there b s.batches
  there_is b = alike.there b

  completed_is : (b : Bytes) → was_completed end b ≡ cond (bytes_eq x b) false (was_completed s b) || ((bytes_eq x b || is_there b s.batches) && list_any (named Complete b) fs)
  completed_is b = fired_after Complete b fs v.batches

  -- nothing was fired of what isn't there
  unfired_new : (kind : Kind) → was_fired kind x s.batches ≡ false
  unfired_new kind = let there = fired_there kind x s.batches in grind (arith, there, new)

  firings_are : Sane s → (b : Bytes) → (count_named Complete b fs ≡ one_if (bytes_eq x b && is_reported v x)) × (list_any (named Complete b) fs ≡ bytes_eq x b && is_reported v x) × (count_named Success b fs ≡ one_if (bytes_eq x b && is_settled v x))
  firings_are sane b = by_jids jids where
    by_jids : (js : List Bytes) → (count_named Complete b (made_fires batch js) ≡ one_if (bytes_eq x b && is_reported (joined batch.bid js (with_batch batch s)) x)) × (list_any (named Complete b) (made_fires batch js) ≡ bytes_eq x b && is_reported (joined batch.bid js (with_batch batch s)) x) × (count_named Success b (made_fires batch js) ≡ one_if (bytes_eq x b && is_settled (joined batch.bid js (with_batch batch s)) x))
    by_jids [] = let r = marked_empty s batch sane new takes Reported in let t = marked_empty s batch sane new takes Returned in (grind (arith, r), grind (arith, r), grind (arith, t))
    by_jids (j ∷ js) = let r = unmarked_full s batch sane new takes Reported j js in let t = unmarked_full s batch sane new takes Returned j js in (grind (arith, r), grind (arith, r), grind (arith, t))

  made_leads : Leads s end (λ kind b. count_named kind b fs)
  made_leads = record {
    sane = λ sane. sane_fired fs v (sane_made s batch sane new takes jids);
    there = λ b h. let is = there_is b in grind (arith, is, h);
    done = λ sane b d.
        let is = there_is b in
        let same = settled_is b in
        let older = settled_made s batch sane new takes jids b d.0 in
        (grind (arith, is, d.0), same ∙ older ∙ d.1);
    success = λ sane b.
        let count = (firings_are sane b).2 in
        let is = there_is b in
        let same = settled_is b in
        let older = settled_made s batch sane new takes jids b in
        let none = marked_nowhere Returned s b sane in
        grind (arith, bytes_tell, count, is, same, older, none, new);
    complete = λ sane b.
        let f = firings_are sane b in
        let is = completed_is b in
        let before = unfired_new Complete in
        grind (arith, bytes_tell, f.0, f.1, is, before);
    completed = λ b h.
        let is = completed_is b in
        let there = fired_there Complete b s.batches in
        grind (arith, bytes_tell, is, there, h, new);
    whole = λ sane w b h.
        let f = firings_are sane b in
        let is = completed_is b in
        let there = there_is b in
        let same = reported_is b in
        let back = marked_made_back s batch sane new takes Reported jids b in
        let before = w b in
        grind (arith, bytes_tell, f.1, is, there, same, back, before, h);
    only = λ sane b h.
        let f = firings_are sane b in
        let is = completed_is b in
        let there = there_is b in
        let same = reported_is b in
        grind (arith, bytes_tell, f.1, is, there, same, h);
  }

  no_deaths : (b : Bytes) → (count_named Death b fs ≡ 0) × (list_any (named Death b) fs ≡ false)
  no_deaths b = by_jids jids where
    by_jids : (js : List Bytes) → (count_named Death b (made_fires batch js) ≡ 0) × (list_any (named Death b) (made_fires batch js) ≡ false)
    by_jids [] = (grind arith, grind arith)
    by_jids (j ∷ js) = (refl, refl)

  died_is : (b : Bytes) → has_died end b ≡ has_died s b
  died_is b =
      let after = fired_after Death b fs v.batches in
      let none = (no_deaths b).1 in
      let before = unfired_new Death in
      grind (arith, bytes_tell, after, none, before)

  -- its firings have its callbacks
  pub made_called : AllCalled v fs
  made_called = by_jids jids where
    own : (kind : Kind) → called kind batch.bid v ≡ callback kind batch.callbacks
    own kind = grind (arith, bytes_tell)

    by_jids : (js : List Bytes) → AllCalled v (made_fires batch js)
    by_jids [] = (own Complete, (own Success, tt))
    by_jids (j ∷ js) = tt

  -- what it fires is covered
  pub made_count : (callbacks : ℕ) → IsCovered callbacks s → callbacks + length fs ≤ most_pushes + fired_count end.batches
  made_count callbacks c =
      let count = count_all s v fs made_leads (λ kind b h. grind (arith, h)) (λ b sane. none_dies_once s v fs b (no_deaths b).0) c.sane c.settled in
      omega (arith, count, c.fired)

-- complete comes before success
made_ordered : (s : Batched) (batch : Batch) (jids : List Bytes) → Ordered s (made_fires batch jids)
made_ordered s batch [] = (refl, (refl, tt))
made_ordered s batch (jid ∷ jids) = tt

-- ## A batch gets jobs

joined_leads : (s : Batched) (x : Bytes) (jids : List Bytes) → Takes s x → Leads s (joined x jids s) (λ kind b. 0)
joined_leads s x jids takes = record {
  sane = λ sane. sane_joined s x jids takes.0 sane;
  there = λ b h. h;
  done = λ sane b d. (d.0, settled_joined s x jids b sane takes ∙ d.1);
  success = λ sane b. let same = settled_joined s x jids b sane takes in grind (arith, same);
  complete = λ sane b. grind arith;
  completed = λ b h. h;
  whole = λ sane w b h. let back = marked_joined_back Reported s x jids b in let before = w b in grind (arith, back, before, h);
  only = λ sane b h. inl h;
}

-- ## The jobs are pushed

pub jobs_quiet : (texts : List Bytes) → all_quiet (push_jobs texts) ≡ true
jobs_quiet [] = refl
jobs_quiet (text ∷ texts) = quiet-append (push_job Outside text) (push_jobs texts) (job_quiet text) (jobs_quiet texts)

jobs_bury : (b : Bytes) (w : World) (texts : List Bytes) → buries b w (push_jobs texts) ≡ false
jobs_bury b w [] = refl
jobs_bury b w (text ∷ texts) =
    let both = buries-append b w (push_job Outside text) (push_jobs texts) in
    let one = job_buries b w Outside text in
    let more = jobs_bury b (perform w (push_job Outside text)) texts in
    grind (arith, both, one, more)

jobs_keep : (w : World) (texts : List Bytes) → KeepsJobs w (push_jobs texts)
jobs_keep w [] = keeps_nothing w
jobs_keep w (text ∷ texts) = keeps_append w (push_job Outside text) (push_jobs texts) (job_keeps w Outside text) (jobs_keep (perform w (push_job Outside text)) texts)

-- after the batches have changed once, the jobs are pushed and this is fired
module _ (w : World) (change : Change) (texts : List Bytes) (firings : List Firing) where
  abbrev u : World
  u = changed w change

  abbrev rest : List Change
  rest = push_jobs texts ++ fire_all firings

  rest_batches : (perform u rest).batches ≡ fired firings u.batches
  rest_batches =
      ap (λ (z : World). z.batches) (perform-append u (push_jobs texts) (fire_all firings))
      ∙ fire_all_batches (perform u (push_jobs texts)) firings
      ∙ ap (fired firings) (quiet_batches u (push_jobs texts) (jobs_quiet texts))

  rest_times : (kind : Kind) (b : Bytes) → times kind b rest ≡ count_named kind b firings
  rest_times kind b = omega (arith, times-append kind b (push_jobs texts) (fire_all firings), quiet_times kind b (push_jobs texts) (jobs_quiet texts), fire_all_times kind b firings)

  rest_keeps : KeepsJobs u rest
  rest_keeps = keeps_append u (push_jobs texts) (fire_all firings) (jobs_keep u texts) (fires_keep (perform u (push_jobs texts)) firings)

  rest_calls : AllCalled u.batches firings → CallsFollow u rest
  rest_calls a =
      let v : World = perform u (push_jobs texts) in
      calls-append u (push_jobs texts) (fire_all firings) (calls_quiet u (push_jobs texts) (jobs_quiet texts))
      (calls_fired v firings (subst (λ (s : Batched). AllCalled s firings) (sym (quiet_batches u (push_jobs texts) (jobs_quiet texts))) a))

  rest_buries : (b : Bytes) → buries b u rest ≡ false
  rest_buries b =
      let both = buries-append b u (push_jobs texts) (fire_all firings) in
      let one = jobs_bury b u texts in
      let more = fires_bury b (perform u (push_jobs texts)) firings in
      grind (arith, both, one, more)

-- the batches then
pub make_batches : (w : World) (batch : Batch) (texts : List Bytes) → (perform w (make batch texts).changes).batches ≡ made batch (jids_of texts) w.batches
make_batches w batch texts = rest_batches w (Makes batch (jids_of texts)) texts (made_fires batch (jids_of texts))

pub join_batches : (w : World) (bid : Bytes) (texts : List Bytes) → (perform w (join bid texts).changes).batches ≡ joined bid (jids_of texts) w.batches
join_batches w bid texts = quiet_batches (changed w (Joins bid (jids_of texts))) (push_jobs texts) (jobs_quiet texts)

make_lawful : (w : World) (batch : Batch) (texts : List Bytes) → is_there batch.bid w.batches.batches ≡ false → ParentTakes w.batches batch.parent → Lawful w (make batch texts).changes
make_lawful w batch texts new takes =
    let jids : List Bytes = jids_of texts in
    let firings : List Firing = made_fires batch jids in
    let c : Change = Makes batch jids in
    let end : (perform w (make batch texts).changes).batches ≡ fired firings (changed w c).batches = rest_batches w c texts firings in
    let count : (kind : Kind) (b : Bytes) → times kind b (make batch texts).changes ≡ count_named kind b firings = λ kind b. omega (arith, rest_times w c texts firings kind b) in
    record {
      keeps = keeps_others w c _ (keeps_makes w batch jids) (rest_keeps w c texts firings);
      leads = leads_same w.batches _ _ _ count (subst (λ (t : Batched). Leads w.batches t (λ kind b. count_named kind b firings)) (sym end) (made_leads w.batches batch jids new takes));
      deaths = record {
        once = λ s b. let none = (no_deaths w.batches batch jids new takes b).0 in let t = count Death b in let no = rest_buries w c texts firings b in grind (arith, none, t, no);
        died = λ s b. let is = ap (λ (t : Batched). has_died t b) end in let same = died_is w.batches batch jids new takes b in let no = rest_buries w c texts firings b in grind (arith, is, same, no);
      };
      calls = λ s. ((push_jobs texts ++ fire_all firings, refl), rest_calls w c texts firings (made_called w.batches batch jids new takes));
      order = λ s. (
        refl,
        order_behind (changed w c) (push_jobs texts) (fire_all firings) (quiet_none (push_jobs texts) (jobs_quiet texts))
            (fires_ordered (perform (changed w c) (push_jobs texts)) firings (made_ordered (perform (changed w c) (push_jobs texts)).batches batch jids)),
      );
      covers = covers_fired w (make batch texts).changes (changed w c).batches firings end (made_leads w.batches batch jids new takes) (omega arith) (λ kind b h. grind (arith, h))
          (λ b sane. none_dies_once w.batches (changed w c).batches firings b (no_deaths w.batches batch jids new takes b).0)
          (let few = few_append (push_jobs texts) (fire_all firings) (length firings) (quiet_calls (push_jobs texts) (jobs_quiet texts)) (fires_few firings) in omega (arith, few));
    }

join_lawful : (w : World) (bid : Bytes) (texts : List Bytes) → Takes w.batches bid → Lawful w (join bid texts).changes
join_lawful w bid texts takes =
    let c : Change = Joins bid (jids_of texts) in
    let end : (perform w (join bid texts).changes).batches ≡ (changed w c).batches = quiet_batches (changed w c) (push_jobs texts) (jobs_quiet texts) in
    let count : (kind : Kind) (b : Bytes) → times kind b (join bid texts).changes ≡ 0 = λ kind b. omega (arith, quiet_times kind b (push_jobs texts) (jobs_quiet texts)) in
    record {
      keeps = keeps_others w c _ (keeps_joins w bid (jids_of texts)) (jobs_keep (changed w c) texts);
      leads = leads_same w.batches _ _ _ count (subst (λ (t : Batched). Leads w.batches t (λ kind b. 0)) (sym end) (joined_leads w.batches bid (jids_of texts) takes));
      deaths = record {
        once = λ s b. let t = count Death b in let no = jobs_bury b (changed w c) texts in grind (arith, t, no);
        died = λ s b. let is = ap (λ (t : Batched). has_died t b) end in let no = jobs_bury b (changed w c) texts in grind (arith, is, no);
      };
      calls = λ s. ((push_jobs texts, refl), calls_quiet (changed w c) (push_jobs texts) (jobs_quiet texts));
      order = λ s. (refl, order_none (changed w c) (push_jobs texts) (quiet_none (push_jobs texts) (jobs_quiet texts)));
      covers = covers_fired w (join bid texts).changes (changed w c).batches [] end (joined_leads w.batches bid (jids_of texts) takes) refl (λ kind b h. h)
          (λ b sane. none_dies_once w.batches (changed w c).batches [] b refl) (omega (arith, quiet_calls (push_jobs texts) (jobs_quiet texts)));
    }

-- ## The commands

-- a refusal changes nothing
refusal_or : (w : World) (b : Bool) (one other : Outcome) → Lawful w one.changes → (b ≡ false → Lawful w other.changes) → Lawful w (cond b one other).changes
refusal_or w true one other f g = f
refusal_or w false one other f g = g refl

fault_or : (w : World) (fault : Option BatchFault) (o : Outcome) → (fault ≡ None → Lawful w o.changes) → Lawful w (unless fault o).changes
fault_or w None o f = f refl
fault_or w (Some fault) o f = (good_nothing w).lawful

first_clear : (bid : Bytes) (parent : Option Bytes) (s : Batched) (later : Option BatchFault) → bid_fault bid parent s later ≡ None → bid_fault bid parent s None ≡ None
first_clear bid None s later e = grind (arith, e)
first_clear bid (Some p) s later e = grind (arith, e)

pub bid_clear : (bid : Bytes) (parent : Option Bytes) (s : Batched) → bid_fault bid parent s None ≡ None → (is_there bid s.batches ≡ false) × ParentTakes s parent
bid_clear bid None s e = (grind (arith, e), tt)
bid_clear bid (Some p) s e = (grind (arith, e), (grind (arith, e), grind (arith, e)))

-- a batch that breaks no rule
pub clear_count : (batch : Batch) (jids : List Bytes) (s : Batched) (callbacks : ℕ) → make_fault batch.bid batch.parent jids s ≡ None → IsCovered callbacks s → callbacks + length (made_fires batch jids) ≤ most_pushes + fired_count (made batch jids s).batches
clear_count batch jids s callbacks none c =
    let k = bid_clear batch.bid batch.parent s (first_clear batch.bid batch.parent s _ none) in
    made_count s batch jids k.0 k.1 callbacks c

batch_clear : (bid : Bytes) (s : Batched) → batch_fault bid s None ≡ None → Takes s bid
batch_clear bid s e = (grind (arith, e), grind (arith, e))

pub batch_push_lawful : (w : World) (batch : Batch) (texts : List Bytes) → Lawful w (batch_push w batch texts).changes
batch_push_lawful w batch texts =
    let nothing : Lawful w [] = (good_nothing w).lawful in
    refusal_or w (not (is_name 64 batch.bid)) _ _ nothing (λ n.
    fault_or w (bid_fault batch.bid batch.parent w.batches None) _ (λ clear.
    refusal_or w (not (are_callbacks batch.callbacks && all_may_join batch.bid texts)) _ _ nothing (λ n.
    fault_or w (jids_fault batch.bid (jids_of texts) w.batches (breaks (is_full w.batches) Full None)) _ (λ e.
    refusal_or w (is_too_much w texts) _ _ nothing (λ n.
    let c = bid_clear batch.bid batch.parent w.batches clear in make_lawful w batch texts c.0 c.1)))))

pub batch_add_lawful : (w : World) (bid : Bytes) (texts : List Bytes) → Lawful w (batch_add w bid texts).changes
batch_add_lawful w bid texts =
    let nothing : Lawful w [] = (good_nothing w).lawful in
    fault_or w (batch_fault bid w.batches None) _ (λ clear.
    refusal_or w (not (all_may_join bid texts)) _ _ nothing (λ n.
    fault_or w (jids_fault bid (jids_of texts) w.batches None) _ (λ e.
    refusal_or w (is_too_much w texts) _ _ nothing (λ n.
    join_lawful w bid texts (batch_clear bid w.batches clear)))))
