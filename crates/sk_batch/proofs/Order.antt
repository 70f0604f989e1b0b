-- Members stay in order, and are found by it.
use Rattle.std.proofs.Common.{◌≡◌, ℕ, zero, suc, ◌<◌, ◌≤◌, Bool, true, false, not, ◌&&◌, ◌||◌, List, [], ◌∷◌, length, get_or, refl, sym, arith, ap, ap₂, ◌∙◌}
use Rattle.std.specs.List.{insert, list_any, position_or_len}
use Rattle.std.specs.declared.cmp.Ordering.{Ordering}
use Rattle.std.specs.declared.cmp.Ordering.TheVariants.{Less, Equal, Greater}
use Rattle.std.specs.Ordering.{is_eq, is_lt, nat_cmp, ordering_reverse, ordering_then}
use Rattle.std.specs.Cmp.{IsTotalOrder}
use Rattle.std.specs.Cmp.Lexicographic.{slice_cmp}
use Rattle.std.proofs.lemmas.Cmp.{then_total, on_total, nat_list_cmp_total}
use Rattle.std.proofs.lemmas.Map.Text.{is_eq-slice_cmp}
use Rattle.sk_resp.specs.Spelling.{Bytes}
use Rattle.sk_undo.specs.Partitioned.{all_pass, is_partitioned}
use Rattle.sk_batch.specs.Batched.{MemberEntry, is_job}
use Rattle.sk_batch.specs.Fires.{retagged}
use Rattle.sk_batch.specs.Order.{member_cmp, precedes, put, put_all, is_first, is_ordered}
use Rattle.sk_batch.proofs.Places.{first_passes, first_fails}
use Rattle.sk_batch.specs.declared.member.Progress.{Progress}
use Rattle.sk_batch.specs.declared.member.Member.{Member}

-- ## Any total order

module _ {A : Type 0} (R : A → A → Ordering) (total : IsTotalOrder R) where
  -- what isn't before q isn't before p, where q isn't
  trans_behind : (p q r : A) → is_lt (R q p) ≡ false → is_lt (R r q) ≡ false → is_lt (R r p) ≡ false
  trans_behind p q r h k =
      let t = total.trans r p q in let c = total.congr p q r in
      let a = total.antisymm p q in let b = total.antisymm r p in let d = total.antisymm r q in
      grind (arith, h, k, t, c, a, b, d)

  trans_before : (p q r : A) → is_lt (R p q) ≡ true → is_lt (R r q) ≡ false → is_lt (R p r) ≡ true
  trans_before p q r h k =
      let t = total.trans p q r in let c = total.congr q r p in
      let a = total.antisymm p q in let b = total.antisymm r q in let d = total.antisymm p r in
      grind (arith, h, k, t, c, a, b, d)

  one_way : (p q : A) → is_lt (R p q) ≡ true → is_lt (R q p) ≡ false
  one_way p q h = let a = total.antisymm p q in grind (arith, h, a)

-- ## The order of members

total : IsTotalOrder member_cmp
total = then_total (on_total (λ m. m.bid) nat_list_cmp_total) (on_total (λ m. m.jid) nat_list_cmp_total)

pub behind_behind : (p q r : Member) → precedes q p ≡ false → precedes r q ≡ false → precedes r p ≡ false
behind_behind p q r h k = trans_behind member_cmp total p q r h k

pub before_behind : (p q r : Member) → precedes p q ≡ true → precedes r q ≡ false → precedes p r ≡ true
before_behind p q r h k = trans_before member_cmp total p q r h k

pub not_both : (p q : Member) → precedes p q ≡ true → precedes q p ≡ false
not_both p q h = one_way member_cmp total p q h

-- ## Edits keep the order

-- a member before one is before all behind that one
first_before : (p q : Member) (ms : List MemberEntry) → precedes p q ≡ true → is_first q ms ≡ true → is_first p ms ≡ true
first_before p q [] h f = refl
first_before p q (m ∷ ms) h f = let b = before_behind p q m.1 h in let n = not_both p m.1 in grind (arith, f, b, n, first_before p q ms h)

first_put : (q : Member) (new : MemberEntry) (ms : List MemberEntry) → precedes new.1 q ≡ false → is_first q ms ≡ true → is_first q (put new ms) ≡ true
first_put q new [] h f = grind (arith, h)
first_put q new (m ∷ ms) h f = grind (arith, h, f, first_put q new ms h)

pub ordered_put : (new : MemberEntry) (ms : List MemberEntry) → is_ordered ms ≡ true → is_ordered (put new ms) ≡ true
ordered_put new [] h = refl
ordered_put new (m ∷ ms) h = let n = not_both new.1 m.1 in let b = first_before new.1 m.1 ms in let f = first_put m.1 new ms in grind (arith, h, n, b, f, ordered_put new ms)

pub ordered_put_all : (news ms : List MemberEntry) → is_ordered ms ≡ true → is_ordered (put_all news ms) ≡ true
ordered_put_all [] ms h = h
ordered_put_all (new ∷ news) ms h = ordered_put_all news (put new ms) (ordered_put new ms h)

-- whatever the order, a test finds in the list what it finds in the new member and in the others
pub any_put : (p : MemberEntry → Bool) (new : MemberEntry) (ms : List MemberEntry) → list_any p (put new ms) ≡ p new || list_any p ms
any_put p new [] = refl
any_put p new (m ∷ ms) = grind (arith, any_put p new ms)

module _ (test : MemberEntry → Bool) (f : Progress → Progress) where
  first_retagged : (q : Member) (ms : List MemberEntry) → is_first q (retagged test f ms) ≡ is_first q ms
  first_retagged q [] = refl
  first_retagged q (m ∷ ms) = grind (arith, first_retagged q ms)

  pub ordered_retagged : (ms : List MemberEntry) → is_ordered ms ≡ true → is_ordered (retagged test f ms) ≡ true
  ordered_retagged [] h = refl
  ordered_retagged (m ∷ ms) h = let r = first_retagged m.1 ms in grind (arith, h, r, ordered_retagged ms)

-- ## Where a member stands, and where one is to stand

-- a test that passes what is behind what it passes
module _ (t : MemberEntry → Bool) (up : (m n : MemberEntry) → precedes n.1 m.1 ≡ false → t m ≡ true → t n ≡ true) where
  all_behind : (m : MemberEntry) (ms : List MemberEntry) → is_first m.1 ms ≡ true → t m ≡ true → all_pass t ms ≡ true
  all_behind m [] f h = refl
  all_behind m (n ∷ ms) f h = grind (arith, f, h, up m n, all_behind m ms)

  rising : (ms : List MemberEntry) → is_ordered ms ≡ true → is_partitioned t ms ≡ true
  rising [] h = refl
  rising (m ∷ ms) h = grind (arith, h, all_behind m ms, rising ms)

pub partitioned_behind : (new : MemberEntry) (ms : List MemberEntry) → is_ordered ms ≡ true → is_partitioned (λ m. precedes new.1 m.1) ms ≡ true
partitioned_behind new ms h = rising (λ m. precedes new.1 m.1) (λ m n a b. before_behind new.1 m.1 n.1 b a) ms h

pub partitioned_from : (key : Member) (ms : List MemberEntry) → is_ordered ms ≡ true → is_partitioned (λ m. not (precedes m.1 key)) ms ≡ true
partitioned_from key ms h = rising (λ m. not (precedes m.1 key)) (λ m n a b. let t = behind_behind key m.1 n.1 in grind (arith, a, b, t)) ms h

pub insert_put : (new : MemberEntry) (ms : List MemberEntry) (at : ℕ) → at ≡ position_or_len (λ m. precedes new.1 m.1) ms → insert ms at new ≡ put new ms
insert_put new [] zero e = refl
insert_put new [] (suc n) e = absurd (omega (arith, e))
insert_put new (m ∷ ms) zero e = let y = first_passes (λ m. precedes new.1 m.1) m ms e in grind (arith, y)
insert_put new (m ∷ ms) (suc n) e = let y = first_fails (λ m. precedes new.1 m.1) m ms n e in let no = y.0 in ap (λ l. m ∷ l) (insert_put new ms n y.1) ∙ grind (arith, no)

then_eq : (a b : Ordering) → is_eq (ordering_then a b) ≡ is_eq a && is_eq b
then_eq Less b = refl
then_eq Equal b = refl
then_eq Greater b = refl

is_key : (bid jid : Bytes) (m : MemberEntry) → is_eq (member_cmp m.1 (record { bid = bid; jid = jid })) ≡ is_job bid jid m
is_key bid jid m = then_eq (slice_cmp nat_cmp m.1.bid bid) (slice_cmp nat_cmp m.1.jid jid) ∙ ap₂ ◌&&◌ (is_eq-slice_cmp m.1.bid bid) (is_eq-slice_cmp m.1.jid jid)

below_no : (o : Ordering) → is_lt o ≡ true → is_eq o ≡ false
below_no Less h = refl
below_no Equal h = absurd (cc h)
below_no Greater h = refl

above : (o : Ordering) → is_lt o ≡ false → is_eq o ≡ false → is_lt (ordering_reverse o) ≡ true
above Less h k = absurd (cc h)
above Equal h k = absurd (cc k)
above Greater h k = refl

left_true : (a b : Bool) → a && b ≡ true → a ≡ true
left_true a b h = grind arith

right_true : (a b : Bool) → a && b ≡ true → b ≡ true
right_true a b h = grind arith

not_true : (a : Bool) → not a ≡ true → a ≡ false
not_true a h = grind arith

not_false : (a : Bool) → not a ≡ false → a ≡ true
not_false a h = grind arith

module _ (bid jid : Bytes) where
  abbrev key : Member
  key = record { bid = bid; jid = jid }

  below_is_none : (m : MemberEntry) → precedes m.1 key ≡ true → is_job bid jid m ≡ false
  below_is_none m h = sym (is_key bid jid m) ∙ below_no (member_cmp m.1 key) h

  key_before : (m : MemberEntry) → precedes m.1 key ≡ false → is_job bid jid m ≡ false → precedes key m.1 ≡ true
  key_before m h n = ap is_lt (total.antisymm key m.1) ∙ above (member_cmp m.1 key) h (is_key bid jid m ∙ n)

  above_is_none : (m : MemberEntry) → precedes key m.1 ≡ true → is_job bid jid m ≡ false
  above_is_none m h = grind (arith, h, is_key bid jid m, not_both key m.1, total.antisymm key m.1)

  none_after : (m : Member) (ms : List MemberEntry) → precedes key m ≡ true → is_first m ms ≡ true → position_or_len (is_job bid jid) ms ≡ length ms
  none_after m [] h f = refl
  none_after m (n ∷ ms) h f = let b = before_behind key m n.1 h in let no = above_is_none n in grind (arith, f, b, no, none_after m ms h)

  pub found_here : (ms : List MemberEntry) (at : ℕ) (d : MemberEntry) → at ≡ position_or_len (λ m. not (precedes m.1 key)) ms → at < length ms → is_job bid jid (get_or ms at d) ≡ true → at ≡ position_or_len (is_job bid jid) ms
  found_here [] at d e h j = absurd (omega (arith, h))
  found_here (m ∷ ms) zero d e h j = grind (arith, j)
  found_here (m ∷ ms) (suc n) d e h j =
      let y = first_fails (λ m. not (precedes m.1 key)) m ms n e in
      let no = below_is_none m (not_false _ y.0) in
      let ih = found_here ms n d y.1 (omega (arith, h)) j in
      grind (arith, no, ih)

  pub found_nowhere : (ms : List MemberEntry) (at : ℕ) (d : MemberEntry) → is_ordered ms ≡ true → at ≡ position_or_len (λ m. not (precedes m.1 key)) ms → (at < length ms → is_job bid jid (get_or ms at d) ≡ false) → length ms ≡ position_or_len (is_job bid jid) ms
  found_nowhere [] at d o e h = refl
  found_nowhere (m ∷ ms) zero d o e h =
      let y = first_passes (λ m. not (precedes m.1 key)) m ms e in
      let no = h (omega arith) in
      let k = key_before m (not_true _ y) no in
      let rest = none_after m.1 ms k (left_true _ _ o) in
      grind (arith, no, rest)
  found_nowhere (m ∷ ms) (suc n) d o e h =
      let y = first_fails (λ m. not (precedes m.1 key)) m ms n e in
      let no = below_is_none m (not_false _ y.0) in
      let ih : length ms ≡ position_or_len (is_job bid jid) ms = found_nowhere ms n d (right_true _ _ o) y.1 (λ l. h (omega (arith, l))) in
      grind (arith, no, ih)

  pub found_past : (ms : List MemberEntry) (at : ℕ) → is_ordered ms ≡ true → at ≡ position_or_len (λ m. not (precedes m.1 key)) ms → length ms ≤ at → length ms ≡ position_or_len (is_job bid jid) ms
  found_past ms at o e h = found_nowhere ms at (record { reported = false; returned = false }, key) o e (λ l. absurd (omega (arith, l, h)))
