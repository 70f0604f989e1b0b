-- What is fired when something comes of a member, as the numbers tell it.
use Rattle.std.proofs.Common.{◌≡◌, ℕ, ◌<◌, ◌++◌, Bool, true, cond, not, ◌&&◌, [], ◌∷◌, List, length, get_or, map, filter, nat_eq, refl, ap, ap₂, sym, ◌∙◌, arith}
use Rattle.std.specs.List.{list_any, position_or_len}
use Rattle.std.specs.Str.{bytes_eq}
use Rattle.std.proofs.lemmas.Slice.Eq.{bytes_eq-Decides}
use Rattle.sk_resp.specs.Spelling.{Bytes}
use Rattle.sk_batch.specs.Along.{along, retag}
use Rattle.sk_batch.specs.Batched.{Batched, BatchEntry, MemberEntry, has_bid, is_job, is_member}
use Rattle.sk_batch.specs.Due.{completes_by, dies_yet, due, fires_where, later_due, settles_by}
use Rattle.sk_batch.specs.Events.{marked}
use Rattle.sk_batch.specs.Fires.{after_fires, complete_fires, completes, death_fires, dies, firing, retagged, succeeds, success_fires}
use Rattle.sk_batch.specs.Ancestors.{ancestors, is_under}
use Rattle.sk_batch.specs.Numbers.{gained, left_after, left_of, numbers_in}
use Rattle.sk_batch.specs.Open.{is_reported, is_settled, lacks, with_mark}
use Rattle.sk_batch.specs.Places.{each_once}
use Rattle.sk_batch.specs.States.{BatchInvariant, StateEntry, all_fired, of_lists, seen_of, with_change}
use Rattle.sk_batch.specs.Notify.{fires_of, later_fires, mark_of}
use Rattle.sk_batch.proofs.Along.{ancestors_retag}
use Rattle.sk_batch.proofs.Counted.{Comes, count_none, got_comes}
use Rattle.sk_batch.proofs.Invariant.{kept_fired, kept_got, seen_changed, seen_fired}
use Rattle.sk_batch.proofs.Places.{any_position}
use Rattle.sk_batch.specs.declared.event.Event.{Event}
use Rattle.sk_batch.specs.declared.event.Event.TheVariants as event
use Rattle.sk_batch.specs.declared.firing.Firing.{Firing}
use Rattle.sk_batch.specs.declared.firing.Kind.{Kind}
use Rattle.sk_batch.specs.declared.firing.Kind.TheVariants.{Complete, Success, Death}
use Rattle.sk_batch.specs.declared.member.Mark.{Mark}
use Rattle.sk_batch.specs.declared.member.Mark.TheVariants.{Reported, Returned}
use Rattle.sk_batch.specs.declared.member.Progress.{Progress}
use Rattle.sk_batch.specs.declared.numbers.Change.TheVariants.{Got}
use Rattle.sk_batch.specs.declared.numbers.Left.{Left}
use Rattle.sk_batch.specs.declared.state.State.{State}

told : (bid jid : Bytes) (s : Batched) (firings : List Firing) → is_member bid jid s.members ≡ true → cond (is_member bid jid s.members) firings [] ≡ firings
told bid jid s firings member = ap (λ t. cond t firings []) member

append_nothing : (fs : List Firing) → fs ≡ fs ++ []
append_nothing [] = refl
append_nothing (f ∷ fs) = ap (λ l. f ∷ l) (append_nothing fs)

-- the completes, and what is fired behind them
fires_parts : (e : Event) (bid jid : Bytes) (s : Batched) → is_member bid jid s.members ≡ true → fires_of e bid jid s ≡ complete_fires (marked (mark_of e) bid jid s) bid ++ later_fires e bid jid s
fires_parts event.Reported bid jid s member = told bid jid s _ member ∙ append_nothing _
fires_parts event.Returned bid jid s member = told bid jid s _ member
fires_parts event.Died bid jid s member = told bid jid s _ member

-- ## Lists

-- two tests that agree on the batches of a list leave the same of it
filter_part : (p q : BatchEntry → Bool) (xs all : List BatchEntry) → ((b : Bytes) → list_any (has_bid b) xs ≡ true → list_any (has_bid b) all ≡ true) → ((b : BatchEntry) → list_any (has_bid b.1.bid) all ≡ true → p b ≡ q b) → filter p xs ≡ filter q xs
filter_part p q [] all sub f = refl
filter_part p q (x ∷ xs) all sub f =
    let s : bytes_eq x.1.bid x.1.bid ≡ true = (bytes_eq-Decides x.1.bid x.1.bid).1 refl in
    let here : p x ≡ q x = f x (sub x.1.bid (grind (arith, s))) in
    let rest = filter_part p q xs all (λ b h. sub b (grind (arith, h))) f in
    grind (arith, here, rest)

fires_retag : (kind : Kind) (p : StateEntry → Bool) (f : BatchEntry → State) (bs : List BatchEntry) → map (λ b. firing kind b.1) (filter p (retag f bs)) ≡ map (λ b. firing kind b.1) (filter (λ b. p (f b, b.1)) bs)
fires_retag kind p f [] = refl
fires_retag kind p f (b ∷ bs) = let ih = fires_retag kind p f bs in grind (arith, ih)

-- ## The numbers tell what is due

module _ (batches : List StateEntry) (ms : List MemberEntry) (kept : BatchInvariant batches ms) where
  abbrev seen : List BatchEntry
  seen = seen_of batches

  abbrev full : BatchEntry → State
  full b = record { fired = b.0; numbers = numbers_in seen ms b.1 }

  -- a test of the numbers, of the batches of a line
  fires_notified : (kind : Kind) (p : StateEntry → Bool) (q : BatchEntry → Bool) (bid : Bytes) → ((b : BatchEntry) → is_under seen bid b.1.bid ≡ true → p (full b, b.1) ≡ q b) → fires_where kind p (ancestors batches bid) ≡ map (λ b. firing kind b.1) (filter q (ancestors seen bid))
  fires_notified kind p q bid same =
      ap (λ (l : List StateEntry). map (λ b. firing kind b.1) (filter p (ancestors l bid))) kept.counted
      ∙ ap (λ (l : List StateEntry). map (λ b. firing kind b.1) (filter p l)) (ancestors_retag full seen bid)
      ∙ fires_retag kind p full (ancestors seen bid)
      ∙ ap (map (λ b. firing kind b.1)) (filter_part (λ b. p (full b, b.1)) q (ancestors seen bid) (ancestors seen bid) (λ b h. h) same)

  module _ (bid jid : Bytes) (mark : Mark) (gain : Progress) (comes : Comes (Got gain) bid ms (retagged (is_job bid jid) (with_mark mark) ms)) where
    abbrev before : Batched
    before = of_lists seen ms

    abbrev after : Batched
    after = marked mark bid jid before

    left_now : (b : Bytes) → is_under seen bid b ≡ true → left_of (λ x. is_under seen x b) after.members ≡ left_after (Got gain) (left_of (λ x. is_under seen x b) ms)
    left_now b under = comes.left (λ x. is_under seen x b) ∙ ap (λ t. cond t (left_after (Got gain) (left_of (λ x. is_under seen x b) ms)) (left_of (λ x. is_under seen x b) ms)) under

    reported_now : (b : BatchEntry) → is_under seen bid b.1.bid ≡ true → nat_eq (left_after (Got gain) (left_of (λ x. is_under seen x b.1.bid) ms)).unreported 0 ≡ is_reported after b.1.bid
    reported_now b under = ap (λ (l : Left). nat_eq l.unreported 0) (sym (left_now b.1.bid under)) ∙ count_none (lacks Reported seen b.1.bid) after.members

    settled_now : (b : BatchEntry) → is_under seen bid b.1.bid ≡ true → nat_eq (left_after (Got gain) (left_of (λ x. is_under seen x b.1.bid) ms)).unreturned 0 ≡ is_settled after b.1.bid
    settled_now b under = ap (λ (l : Left). nat_eq l.unreturned 0) (sym (left_now b.1.bid under)) ∙ count_none (lacks Returned seen b.1.bid) after.members

    settled_before : (b : BatchEntry) → nat_eq (left_of (λ x. is_under seen x b.1.bid) ms).unreturned 0 ≡ is_settled before b.1.bid
    settled_before b = count_none (lacks Returned seen b.1.bid) ms

    completes_notified : fires_where Complete (completes_by gain) (ancestors batches bid) ≡ complete_fires after bid
    completes_notified = fires_notified Complete (completes_by gain) (completes after) bid (λ b u. ap (λ t. not b.0.complete && t) (reported_now b u))

    success_notified : fires_where Success (settles_by gain) (ancestors batches bid) ≡ success_fires before after bid
    success_notified = fires_notified Success (settles_by gain) (succeeds before after) bid (λ b u. ap₂ (λ s t. s && not t) (settled_now b u) (settled_before b))

    deaths_notified : fires_where Death dies_yet (ancestors batches bid) ≡ death_fires before bid
    deaths_notified = fires_notified Death dies_yet dies bid (λ b u. refl)

-- ## All of it

module _ (e : Event) (batches : List StateEntry) (ms : List MemberEntry) (kept : BatchInvariant batches ms) (bid jid : Bytes) (at : ℕ) (d : MemberEntry) (place : at ≡ position_or_len (is_job bid jid) ms) (within : at < length ms) where
  abbrev gain : Progress
  gain = gained (mark_of e) (get_or ms at d).0

  comes : Comes (Got gain) bid ms (retagged (is_job bid jid) (with_mark (mark_of e)) ms)
  comes = got_comes bid jid ms at d place within (mark_of e)

  later_notified : (f : Event) → Comes (Got gain) bid ms (retagged (is_job bid jid) (with_mark (mark_of f)) ms) → later_due f gain (ancestors batches bid) ≡ later_fires f bid jid (of_lists (seen_of batches) ms)
  later_notified event.Reported c = refl
  later_notified event.Returned c = success_notified batches ms kept bid jid Returned gain c
  later_notified event.Died c = deaths_notified batches ms kept bid jid Reported gain c

  pub due_notified : due e gain (ancestors batches bid) ≡ fires_of e bid jid (of_lists (seen_of batches) ms)
  due_notified =
      let member = any_position (is_job bid jid) ms at place within in
      ap₂ (λ l k. l ++ k) (completes_notified batches ms kept bid jid (mark_of e) gain comes) (later_notified e comes) ∙ sym (fires_parts e bid jid (of_lists (seen_of batches) ms) member)

  abbrev end : List StateEntry
  end = along (with_change (Got gain) bid) (all_fired (due e gain (ancestors batches bid)) batches) bid

  pub kept_notified : each_once (all_fired (due e gain (ancestors batches bid)) batches) ≡ true → BatchInvariant end (retagged (is_job bid jid) (with_mark (mark_of e)) ms)
  kept_notified once = kept_got (all_fired (due e gain (ancestors batches bid)) batches) ms bid jid (mark_of e) at d (kept_fired batches ms kept (due e gain (ancestors batches bid))) once place within

  pub seen_notified : each_once (all_fired (due e gain (ancestors batches bid)) batches) ≡ true → seen_of end ≡ after_fires (fires_of e bid jid (of_lists (seen_of batches) ms)) (seen_of batches)
  seen_notified once =
      seen_changed (all_fired (due e gain (ancestors batches bid)) batches) (Got gain) bid once
      ∙ seen_fired batches ms kept (due e gain (ancestors batches bid))
      ∙ ap (λ fs. after_fires fs (seen_of batches)) due_notified
