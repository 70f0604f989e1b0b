-- What a batch is told of a job meets the laws.
use Rattle.std.proofs.Common.{◌≡◌, List, [], ◌∷◌, ◌++◌, refl, sym, ap, ◌∙◌, arith, Bool, true, false, cond, not, ◌&&◌, ◌||◌}
use Rattle.std.specs.Prelude.{filter}
use Rattle.std.specs.List.{list_any}
use Rattle.sk_resp.specs.Spelling.{Bytes}
use Rattle.sk_batch.specs.Batched.{Batched, BatchEntry, is_there, is_member}
use Rattle.sk_batch.specs.Events.{fired, marked}
use Rattle.sk_batch.specs.Fires.{complete_fires, completes, succeeds}
use Rattle.sk_batch.specs.Ancestors.{ancestors, is_under}
use Rattle.sk_batch.specs.Open.{is_settled, is_reported}
use Rattle.sk_batch.specs.Notify.{fires_of, later_fires, mark_of}
use Rattle.sk_batch.specs.declared.event.Event.{Event}
use Rattle.sk_batch.specs.declared.event.Event.TheVariants as event
use Rattle.sk_batch.specs.declared.firing.Firing.{Firing}
use Rattle.sk_batch.specs.declared.firing.Kind.TheVariants.{Complete, Success}
use Rattle.sk_batch.specs.declared.member.Mark.TheVariants.{Reported, Returned}
use Rattle.sk_places.specs.LiveJobs.{one_if}
use Rattle.sk_model.proofs.Changes.Ancestors.{in_list, line_once, line_there}
use Rattle.sk_model.proofs.Changes.Marked.{Alike, Sane, home_there, marked_alike, marked_elsewhere, marked_on, sane_marked, settled_reported}
use Rattle.sk_model.proofs.Changes.Fired.{Agrees, Known, alike_fired, sane_fired, any-append, any_fires, any_others, count-append, count_fires, count_named, count_others, fired_after, line_known, named, no_death}
use Rattle.sk_model.proofs.Changes.Batches.{Leads, StaysWhole, was_completed}

append_nothing : (fs : List Firing) → fs ++ [] ≡ fs
append_nothing [] = refl
append_nothing (f ∷ fs) = ap (λ gs. f ∷ gs) (append_nothing fs)

-- the completes come first
abbrev pub notified_fires : Event → Bytes → Bytes → Batched → List Firing
notified_fires e bid jid s = complete_fires (marked (mark_of e) bid jid s) bid ++ later_fires e bid jid s

pub fires_are : (e : Event) (bid jid : Bytes) (s : Batched) → is_member bid jid s.members ≡ true → fires_of e bid jid s ≡ notified_fires e bid jid s
fires_are event.Reported bid jid s m = ap (λ b. cond b (complete_fires (marked Reported bid jid s) bid) []) m ∙ sym (append_nothing (complete_fires (marked Reported bid jid s) bid))
fires_are event.Returned bid jid s m = ap (λ b. cond b (notified_fires event.Returned bid jid s) []) m
fires_are event.Died bid jid s m = ap (λ b. cond b (notified_fires event.Died bid jid s) []) m

-- a batch of the line is due, as what is kept of its id says
abbrev pub due : Batched → Bytes → Bool
due s b = not (was_completed s b) && is_reported s b

due_agrees : (s : Batched) (es : List BatchEntry) → Known Complete s.batches es → Agrees (completes s) (due s) es
due_agrees s [] k = tt
due_agrees s (e ∷ es) k = let own = k.0 in (ap (λ b. not b && is_reported s e.1.bid) (sym own.1), due_agrees s es k.1)

settles_agrees : (s t : Batched) (es : List BatchEntry) → Agrees (succeeds s t) (λ b. is_settled t b && not (is_settled s b)) es
settles_agrees s t [] = tt
settles_agrees s t (e ∷ es) = (refl, settles_agrees s t es)

module _ (e : Event) (bid jid : Bytes) (s : Batched) (member : is_member bid jid s.members ≡ true) where
  abbrev t : Batched
  t = marked (mark_of e) bid jid s

  abbrev fs : List Firing
  fs = notified_fires e bid jid s

  abbrev end : Batched
  end = fired fs t

  home : Sane s → is_there bid s.batches ≡ true
  home sane = home_there s.batches s.members bid jid sane.homes member

  alike : Alike end t
  alike = alike_fired fs t

  -- ## How often each kind is fired

  completes_count : Sane s → (b : Bytes) → count_named Complete b fs ≡ cond (due t b) (in_list b (ancestors s.batches bid)) 0
  completes_count sane b =
      let one = count_fires Complete (completes t) (due t) b (ancestors s.batches bid) (due_agrees t (ancestors s.batches bid) (line_known Complete s.batches bid sane.tree)) in
      omega (arith, count-append Complete b (complete_fires t bid) (later_fires e bid jid s), one, later_count e b) where
        later_count : (e : Event) (b : Bytes) → count_named Complete b (later_fires e bid jid s) ≡ 0
        later_count event.Reported b = refl
        later_count event.Returned b = count_others Complete Success b _ refl
        later_count event.Died b = (no_death Complete b s bid refl).0

  success_count : (e : Event) (b : Bytes) → is_under s.batches bid b ≡ true → in_list b (ancestors s.batches bid) ≡ 1 → count_named Success b (later_fires e bid jid s) ≡ one_if (is_settled (marked (mark_of e) bid jid s) b && not (is_settled s b))
  success_count event.Reported b u l = let same = settled_reported s bid jid b in grind (arith, same)
  success_count event.Returned b u l = let v = marked Returned bid jid s in let c = count_fires Success (succeeds s v) (λ b. is_settled v b && not (is_settled s b)) b (ancestors s.batches bid) (settles_agrees s v (ancestors s.batches bid)) in grind (arith, c, l)
  success_count event.Died b u l = let same = settled_reported s bid jid b in let none = (no_death Success b s bid refl).0 in grind (arith, same, none)

  success_none : (e : Event) (b : Bytes) → in_list b (ancestors s.batches bid) ≡ 0 → count_named Success b (later_fires e bid jid s) ≡ 0
  success_none event.Reported b l = refl
  success_none event.Returned b l = let v = marked Returned bid jid s in let c = count_fires Success (succeeds s v) (λ b. is_settled v b && not (is_settled s b)) b (ancestors s.batches bid) (settles_agrees s v (ancestors s.batches bid)) in grind (arith, c, l)
  success_none event.Died b l = (no_death Success b s bid refl).0

  successes_count : Sane s → (b : Bytes) → count_named Success b fs ≡ one_if (is_settled t b && not (is_settled s b))
  successes_count sane b =
      let none = count_others Success Complete b (filter (completes t) (ancestors s.batches bid)) refl in
      let sum = count-append Success b (complete_fires t bid) (later_fires e bid jid s) in
      let once = line_once s.batches bid b sane.tree (home sane) in
      let here = success_count e b in
      let nowhere = success_none e b in
      let elsewhere = marked_elsewhere Returned (mark_of e) s bid jid b in
      grind (arith, none, sum, once, here, nowhere, elsewhere)

  -- ## What is kept of it

  completed_is : Sane s → (b : Bytes) → was_completed end b ≡ was_completed s b || (is_there b s.batches && (due t b && is_under s.batches bid b))
  completed_is sane b =
      let one = any_fires Complete (completes t) (due t) b (ancestors s.batches bid) (due_agrees t (ancestors s.batches bid) (line_known Complete s.batches bid sane.tree)) in
      let sum = any-append Complete b (complete_fires t bid) (later_fires e bid jid s) in
      let none = later_none e b in
      let after = fired_after Complete b fs s.batches in
      grind (arith, one, sum, none, after) where
        later_none : (e : Event) (b : Bytes) → list_any (named Complete b) (later_fires e bid jid s) ≡ false
        later_none event.Reported b = refl
        later_none event.Returned b = any_others Complete Success b _ refl
        later_none event.Died b = (no_death Complete b s bid refl).1

  completed_on : (b : Bytes) → was_completed s b ≡ true → was_completed end b ≡ true
  completed_on b h = let after = fired_after Complete b fs s.batches in grind (arith, after, h)

  reported_is : (b : Bytes) → is_reported end b ≡ is_reported t b
  reported_is b = marked_alike Reported end t b alike

  settled_is : (b : Bytes) → is_settled end b ≡ is_settled t b
  settled_is b = marked_alike Returned end t b alike

  pub stays_whole : StaysWhole s end
  stays_whole b w =
      let same = reported_is b in
      let on = marked_on Reported (mark_of e) s bid jid b in
      let there = alike.there b in
      grind (arith, same, on, there, w)

  pub leads : Leads s end (λ kind b. count_named kind b fs)
  leads = record {
    sane = λ sane. sane_fired fs t (sane_marked (mark_of e) s bid jid sane);
    there = λ b h. alike.there b ∙ h;
    done = λ sane b d. (alike.there b ∙ d.0, settled_is b ∙ marked_on Returned (mark_of e) s bid jid b d.1);
    success = λ sane b.
        let count = successes_count sane b in
        let same = settled_is b in
        let there = alike.there b in
        grind (arith, count, same, there);
    complete = λ sane b.
        let count = completes_count sane b in
        let once = line_once s.batches bid b sane.tree (home sane) in
        let is = completed_is sane b in
        let above = line_there s.batches bid b sane.tree (home sane) in
        grind (arith, count, once, is, above);
    completed = completed_on;
    whole = λ sane w b h.
        let is = completed_is sane b in
        let same = reported_is b in
        let there = alike.there b in
        let elsewhere = marked_elsewhere Reported (mark_of e) s bid jid b in
        let before = w b in
        grind (arith, is, same, there, elsewhere, before, h);
    only = λ sane b h.
        let is = completed_is sane b in
        let same = reported_is b in
        let there = alike.there b in
        grind (arith, is, same, there, h);
  }
