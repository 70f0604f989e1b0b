-- How a hold goes on, slot by slot.
use Rattle.std.proofs.Common.{◌≡◌, ◌<◌, ◌≤◌, ◌+◌, ℕ, List, [], ◌∷◌, true, false, Ok, Err, sym, ap, subst, add-one, arith}
use Rattle.sk_resp.specs.declared.reply.Reply.TheVariants as reply
use Rattle.sk_link.specs.Call.{Call, answered}
use Rattle.sk_link.specs.declared.asking.Answer.TheVariants as answer
use Rattle.sk_limit.specs.Asking.{Stops}
use Rattle.sk_limit.specs.Hold.{Wish, Got, Takes, Tries, slot_words, taken_below, wish_of}
use Rattle.sk_limit.specs.declared.holds.HeldSlot.{HeldSlot}
use Rattle.sk_limit.specs.declared.limit_fault.LimitFault.{LimitFault}
use Rattle.sk_limit.proofs.Calls.{Joins, stops_behind}

-- Each slot below this one was asked for, and is taken.
pub record IsBehind (P : List Call → Type 0) (first slot : HeldSlot) (most millis : ℕ) : Type 0 where
  pub slot_is : slot ≡ record first { slot = slot.slot }
  pub within : slot.slot ≤ most
  pub carried : P (taken_below (wish_of first most millis) slot.slot)

same_wish : (first slot : HeldSlot) (most millis : ℕ) → slot ≡ record first { slot = slot.slot } → wish_of slot most millis ≡ wish_of first most millis
same_wish first slot most millis is = ap (λ (s : HeldSlot). wish_of s most millis) is

module _ (P P' P'' : List Call → Type 0) (first slot : HeldSlot) (most millis : ℕ) (more : Joins P P' P'') (below : slot.slot < most) (behind : IsBehind P first slot most millis) where
  pub next_behind : Takes P' (wish_of slot most millis) slot.slot (Ok false) → IsBehind P'' first (record slot { slot = slot.slot + 1 }) most millis
  next_behind taken =
      let wish : Wish = wish_of first most millis in
      let now : P' (answered (slot_words wish slot.slot) reply.Null ∷ []) = subst (λ (w : Wish). P' (answered (slot_words w slot.slot) reply.Null ∷ [])) (same_wish first slot most millis behind.slot_is) taken in
      record {
        slot_is = ap (λ (s : HeldSlot). record s { slot = slot.slot + 1 }) behind.slot_is;
        within = omega (arith, below);
        carried = subst (λ (n : ℕ). P'' (taken_below wish n)) (sym (add-one slot.slot)) (more (taken_below wish slot.slot) _ behind.carried now);
      }

  pub got_slot : Takes P' (wish_of slot most millis) slot.slot (Ok true) → Got P'' (wish_of first most millis) slot
  got_slot taken =
      let wish : Wish = wish_of first most millis in
      let now : P' (answered (slot_words wish slot.slot) taken.0 ∷ []) = subst (λ (w : Wish). P' (answered (slot_words w slot.slot) taken.0 ∷ [])) (same_wish first slot most millis behind.slot_is) taken.1 in
      record {
        below = below;
        held_is = behind.slot_is;
        reply = taken.0;
        okay = taken.2;
        carried = more (taken_below wish slot.slot) _ behind.carried now;
      }

  pub stopped : (f : LimitFault) → Takes P' (wish_of slot most millis) slot.slot (Err f) → Tries P'' (wish_of first most millis) (Err f)
  stopped f stops =
      let wish : Wish = wish_of first most millis in
      let now : Stops P' [] (slot_words wish slot.slot) answer.OkayOrNull f = subst (λ (w : Wish). Stops P' [] (slot_words w slot.slot) answer.OkayOrNull f) (same_wish first slot most millis behind.slot_is) stops in
      (slot.slot, below, stops_behind P P' P'' (taken_below wish slot.slot) (slot_words wish slot.slot) answer.OkayOrNull f more behind.carried now)
