-- What is read of a batch and its numbers.
use Rattle.std.proofs.Common.{◌≡◌, ℕ, zero, suc, ◌<◌, ◌≤◌, Bool, true, false, not, ◌&&◌, List, [], ◌∷◌, Option, Some, None, length, get_or, drop, drop-cons, nat_eq, refl, sym, ap, ap₂, ◌∙◌, arith}
use Rattle.std.specs.List.{count_by, list_any, position_or_len}
use Rattle.std.proofs.lemmas.List.Sums.{count_by-le-length}
use Rattle.std.proofs.lemmas.Slice.Eq.{bytes_eq-Decides}
use Rattle.sk_resp.specs.Spelling.{Bytes}
use Rattle.sk_undo.specs.Balance.{most}
use Rattle.sk_batch.specs.Along.{retag}
use Rattle.sk_batch.specs.Batched.{BatchEntry, MemberEntry, has_bid, is_in, is_there}
use Rattle.sk_batch.specs.Ancestors.{ancestors, ancestors_above, first_ancestors}
use Rattle.sk_batch.specs.Numbers.{numbers_in, one_if}
use Rattle.sk_batch.specs.Open.{is_settled, lacks}
use Rattle.sk_batch.specs.Stat.{IsSmall, numbers_of, stat, stat_of}
use Rattle.sk_batch.specs.States.{BatchInvariant, StateEntry, of_lists, seen_of, with_numbers}
use Rattle.sk_batch.proofs.Along.{any_retag, ancestors_retag}
use Rattle.sk_batch.proofs.Counted.{count_cons, count_none}
use Rattle.sk_batch.proofs.Places.{any_position, no_position, passes_there}
use Rattle.sk_batch.proofs.Walks.{ancestors_begins}
use Rattle.sk_batch.specs.declared.batch.Batch.{Batch}
use Rattle.sk_batch.specs.declared.batch_stat.BatchStat.{BatchStat}
use Rattle.sk_batch.specs.declared.member.Mark.TheVariants.{Returned}
use Rattle.sk_batch.specs.declared.numbers.Numbers.{Numbers}
use Rattle.sk_batch.specs.declared.state.State.{State}

get_retag : {K L : Type 0} (f : K × Batch → L) (xs : List (K × Batch)) (at : ℕ) (d : K × Batch) (e : L × Batch) → at < length xs → get_or (retag f xs) at e ≡ (f (get_or xs at d), (get_or xs at d).1)
get_retag f [] at d e h = absurd (omega (arith, h))
get_retag f (x ∷ xs) zero d e h = refl
get_retag f (x ∷ xs) (suc n) d e h = get_retag f xs n d e (omega (arith, h))

retag_seen : (numbers : Batch → Numbers) (bs : List StateEntry) → with_numbers numbers (seen_of bs) ≡ retag (λ (b : StateEntry). record { fired = b.0.fired; numbers = numbers b.1 }) bs
retag_seen numbers [] = refl
retag_seen numbers (b ∷ bs) = ap (λ l. (record { fired = b.0.fired; numbers = numbers b.1 }, b.1) ∷ l) (retag_seen numbers bs)

no_ancestors : (bs : List StateEntry) (bid : Bytes) → list_any (has_bid bid) bs ≡ false → ancestors bs bid ≡ []
no_ancestors [] bid h = refl
no_ancestors (b ∷ bs) bid h = let ih = no_ancestors bs bid in grind (arith, h, ih)

and_swap : (a b : Bool) → a && b ≡ b && a
and_swap true true = refl
and_swap true false = refl
and_swap false true = refl
and_swap false false = refl

swapped : (p q : MemberEntry → Bool) (xs : List MemberEntry) → count_by (λ m. p m && q m) xs ≡ count_by (λ m. q m && p m) xs
swapped p q [] = refl
swapped p q (x ∷ xs) = let ih = swapped p q xs in let a = count_cons (λ m. p m && q m) x xs in let b = count_cons (λ m. q m && p m) x xs in let e = ap one_if (and_swap (p x) (q x)) in omega (arith, ih, a, b, e)

few : (p : MemberEntry → Bool) (n : ℕ) (ms : List MemberEntry) → length ms ≤ most → n ≡ count_by p ms → n ≤ most
few p n ms h e = let c = count_by-le-length p ms in omega (arith, c, h, e)

module _ (batches : List StateEntry) (ms : List MemberEntry) (kept : BatchInvariant batches ms) (at : ℕ) (d : StateEntry) (within : at < length batches) where
  abbrev seen : List BatchEntry
  seen = seen_of batches

  abbrev here : StateEntry
  here = get_or batches at d

  -- the numbers at a place are those of the batch there
  pub numbers_at : here.0.numbers ≡ numbers_in seen ms here.1
  numbers_at =
      let entry : StateEntry → State = λ b. record { fired = b.0.fired; numbers = numbers_in seen ms b.1 } in
      ap (λ (l : List StateEntry). (get_or l at d).0.numbers) (kept.counted ∙ retag_seen (numbers_in seen ms) batches)
      ∙ ap (λ (e : StateEntry). e.0.numbers) (get_retag entry batches at d d within)

  module _ (bid : Bytes) (place : at ≡ position_or_len (has_bid bid) batches) where
    own : here.1.bid ≡ bid
    own = (bytes_eq-Decides here.1.bid bid).0 (passes_there (has_bid bid) batches at d place within)

    pub settled_at : nat_eq here.0.numbers.under.unreturned 0 ≡ is_settled (of_lists seen ms) bid
    settled_at =
        ap (λ (n : Numbers). nat_eq n.under.unreturned 0) numbers_at ∙ count_none (lacks Returned seen here.1.bid) ms
        ∙ ap (λ (x : Bytes). is_settled (of_lists seen ms) x) own

    abbrev entry : BatchEntry
    entry = (here.0.fired, here.1)

    -- the line of the bid begins with the batch
    ancestors_here : ancestors seen bid ≡ entry ∷ ancestors_above here.1.parent (ancestors (seen_of (drop (suc at) batches)))
    ancestors_here = ancestors_retag (λ (b : StateEntry). b.0.fired) batches bid ∙ ap seen_of (sym (ancestors_begins batches bid at place) ∙ ap first_ancestors (drop-cons batches at d within)) ∙ ap (λ l. entry ∷ l) (above here.1.parent) where
      above : (parent : Option Bytes) → seen_of (ancestors_above parent (ancestors (drop (suc at) batches))) ≡ ancestors_above parent (ancestors (seen_of (drop (suc at) batches)))
      above None = refl
      above (Some p) = sym (ancestors_retag (λ (b : StateEntry). b.0.fired) (drop (suc at) batches) p)

    abbrev stat_here : BatchStat
    stat_here = record { members = here.0.numbers.members; pending = here.0.numbers.own.unreturned; unreported = here.0.numbers.own.unreported; died = here.0.fired.death; pending_under = here.0.numbers.under.unreturned }

    abbrev stat_by : Numbers → BatchStat
    stat_by n = record { members = n.members; pending = n.own.unreturned; unreported = n.own.unreported; died = here.0.fired.death; pending_under = n.under.unreturned }

    pub stat_at : Some stat_here ≡ stat bid (of_lists seen ms)
    stat_at = ap (λ (n : Numbers). Some (stat_by n)) numbers_at ∙ ap Some pairs ∙ ap (stat_of (of_lists seen ms)) (sym ancestors_here) where
      pairs : stat_by (numbers_in seen ms here.1) ≡ numbers_of (of_lists seen ms) entry
      pairs = ap₂ (λ p u. record { members = count_by (is_in here.1.bid) ms; pending = p; unreported = u; died = here.0.fired.death; pending_under = count_by (lacks Returned seen here.1.bid) ms })
          (swapped (λ m. not m.0.returned) (is_in here.1.bid) ms) (swapped (λ m. not m.0.reported) (is_in here.1.bid) ms)

  pub stat_small : length ms ≤ most → IsSmall (record { members = here.0.numbers.members; pending = here.0.numbers.own.unreturned; unreported = here.0.numbers.own.unreported; died = here.0.fired.death; pending_under = here.0.numbers.under.unreturned })
  stat_small h = record {
    members = few _ _ ms h (ap (λ (n : Numbers). n.members) numbers_at);
    pending = few _ _ ms h (ap (λ (n : Numbers). n.own.unreturned) numbers_at);
    unreported = few _ _ ms h (ap (λ (n : Numbers). n.own.unreported) numbers_at);
    pending_under = few _ _ ms h (ap (λ (n : Numbers). n.under.unreturned) numbers_at);
  }

-- a bid that isn't there has no line
pub no_stat : (batches : List StateEntry) (ms : List MemberEntry) (bid : Bytes) → length batches ≡ position_or_len (has_bid bid) batches → None ≡ stat bid (of_lists (seen_of batches) ms)
no_stat batches ms bid place = ap (stat_of (of_lists (seen_of batches) ms)) (sym (ancestors_retag (λ (b : StateEntry). b.0.fired) batches bid ∙ ap seen_of (no_ancestors batches bid (no_position (has_bid bid) batches (length batches) place (omega arith)))))

-- ## Whether a batch was made

pub found_there : (batches : List StateEntry) (bid : Bytes) (at : ℕ) → at ≡ position_or_len (has_bid bid) batches → at < length batches → is_there bid (seen_of batches) ≡ true
found_there batches bid at place within = any_retag (λ (b : StateEntry). b.0.fired) batches bid ∙ any_position (has_bid bid) batches at place within

pub found_nowhere : (batches : List StateEntry) (bid : Bytes) (at : ℕ) → at ≡ position_or_len (has_bid bid) batches → length batches ≤ at → is_there bid (seen_of batches) ≡ false
found_nowhere batches bid at place past = any_retag (λ (b : StateEntry). b.0.fired) batches bid ∙ no_position (has_bid bid) batches at place past
