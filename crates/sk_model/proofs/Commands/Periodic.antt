-- The changes of SK.LEAD and SK.CRON are good.
use Rattle.std.proofs.Common.{◌≡◌, ◌+◌, ◌≤◌, ℕ, List, [], ◌∷◌, ◌++◌, refl, sym, subst, arith, ap, false, not, ◌&&◌}
use Rattle.std.specs.Prelude.{Some}
use Rattle.sk_resp.specs.Spelling.{Bytes}
use Rattle.sk_payload.specs.Head.{head}
use Rattle.sk_payload.specs.Member.{is_name}
use Rattle.sk_batch.specs.Batched.{Batched}
use Rattle.sk_batch.specs.declared.firing.Kind.{Kind}
use Rattle.sk_batch.specs.declared.firing.Kind.TheVariants.{Death}
use Rattle.sk_leases.specs.Leased.{is_led_by_another, last, leads}
use Rattle.sk_places.specs.Totals.{pushes_in}
use Rattle.sk_places.specs.declared.origin.Origin.TheVariants.{Inner}
use Rattle.sk_model.specs.World.{World}
use Rattle.sk_model.specs.Batches.{may_call}
use Rattle.sk_model.specs.Change.{Change, TakesSlot, changed, perform}
use Rattle.sk_model.specs.Covered.{IsCovered}
use Rattle.sk_model.specs.Once.{buries, times}
use Rattle.sk_model.specs.Periodic.{cron, has_loop, is_above, is_in_time, is_process, lead}
use Rattle.sk_model.specs.Room.{is_full, most_pushes}
use Rattle.sk_model.specs.Notify.{push_job}
use Rattle.sk_model.proofs.Changes.Callbacks.{calls_call}
use Rattle.sk_model.proofs.Changes.Covered.{Covers, push_few, through_inner}
use Rattle.sk_model.proofs.Changes.Fired.{push_callback_batches, push_callback_times}
use Rattle.sk_model.proofs.Tools.Room.{room_left}
use Rattle.sk_model.proofs.Changes.Order.{callback_none, none_late, order_none}
use Rattle.sk_model.proofs.Changes.Lawful.{Good, good_leads, good_nothing, has_died}
use Rattle.sk_model.proofs.Changes.Jobs.{keeps_marks, keeps_others}
use Rattle.sk_model.proofs.Changes.Batches.{Leads, StaysWhole, leads_own}
use Rattle.sk_model.proofs.Commands.Sets.{choice}
use Rattle.sk_model.proofs.Changes.Notify.{job_buries, job_keeps}

append_nothing : (changes : List Change) → changes ≡ changes ++ []
append_nothing [] = refl
append_nothing (change ∷ changes) = ap (λ l. change ∷ l) (append_nothing changes)

-- ## SK.LEAD

pub lead_good : (w : World) (ident : Bytes) → Good w (lead w ident).changes
lead_good w ident = choice w (is_process w ident) _ _ (λ y. choice w (is_led_by_another ident w.moment w.leases) _ _ (λ y. good_nothing w) (λ n. good_leads w ident)) (λ n. good_nothing w)

-- ## SK.CRON

module _ (w : World) (loop : Bytes) (slot : ℕ) (text : Bytes) where
  abbrev slotted : List Change
  slotted = TakesSlot loop slot text ∷ push_job Inner text

  -- the batches are left alone
  same : (perform w slotted).batches ≡ w.batches
  same = push_callback_batches (changed w (TakesSlot loop slot text)) (Some text)

  none_fired : (kind : Kind) (b : Bytes) → times kind b slotted ≡ 0
  none_fired kind b = omega (arith, push_callback_times kind b (Some text))

  none_buried : (b : Bytes) → buries b w slotted ≡ false
  none_buried b = job_buries b (changed w (TakesSlot loop slot text)) Inner text

  slot_covers : pushes_in w.tally + 1 ≤ most_pushes → Covers w slotted
  slot_covers room c =
      let few : (perform w slotted).tally.inner ≤ w.tally.inner + 1 = omega (arith, through_inner w slotted, push_few text (head text)) in
      subst (IsCovered (perform w slotted).tally.inner) (sym same) (record { sane = c.sane; settled = c.settled; fired = omega (arith, few, room) })

  pub slot_good : pushes_in w.tally + 1 ≤ most_pushes → Good w slotted
  slot_good room = record {
    lawful = record {
      keeps = keeps_others w (TakesSlot loop slot text) (push_job Inner text) (keeps_marks w loop slot text) (job_keeps (changed w (TakesSlot loop slot text)) Inner text);
      leads = subst (λ (s : Batched). Leads w.batches s (λ kind b. times kind b slotted)) (sym same) (leads_own w.batches _ none_fired);
      deaths = record {
        once = λ s b. let zero' = none_fired Death b in let no = none_buried b in grind (arith, zero', no);
        died = λ s b. let end = ap (λ (t : Batched). has_died t b) same in let no = none_buried b in grind (arith, end, no);
      };
      calls = λ s. (([], append_nothing (push_job Inner text)), calls_call (changed w (TakesSlot loop slot text)) (Some text));
      order = λ s. order_none w slotted (callback_none (Some text));
      covers = slot_covers room;
    };
    stays = subst (StaysWhole w.batches) (sym same) (λ b h. h);
    late = none_late slotted (callback_none (Some text));
  }

pub cron_good : (w : World) (ident loop : Bytes) (slot : ℕ) (text : Bytes) → Good w (cron w ident loop slot text).changes
cron_good w ident loop slot text =
    choice w (not (is_process w ident)) _ _ (λ y. good_nothing w) (λ n.
    choice w (not (may_call (head text) && is_name 255 loop)) _ _ (λ y. good_nothing w) (λ n.
    choice w (not (leads ident w.moment w.leases)) _ _ (λ y. good_nothing w) (λ n.
    choice w (not (is_above slot (last loop w.leases))) _ _ (λ y. good_nothing w) (λ n.
    choice w (not (is_in_time w slot)) _ _ (λ y. good_nothing w) (λ n.
    choice w (not (has_loop w loop)) _ _ (λ y. good_nothing w) (λ n.
    choice w (is_full w (text ∷ [])) _ _ (λ y. good_nothing w) (λ few. slot_good w loop slot text (room_left w (text ∷ []) few (omega arith)))))))))
