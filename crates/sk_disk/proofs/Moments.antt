-- How a run of a disk's calls goes on.
use Rattle.std.proofs.Common.{inl, inr, ⊎_elim, ℕ, arith}
use Rattle.sk_disk.specs.Images.{Images, Narrows, Elapses, LeavesOnly}

module _ {D : Type 0} (moment : D → ℕ) (left_since : D → ℕ → Images) where
  -- before the first call
  pub started : (old : D) (P : Images) → Narrows P (left_since old (moment old)) → LeavesOnly moment left_since old old P
  started old P here = record { later = omega arith; each = here; before = λ t c le left. inl left }

  -- one call more, after which a crash leaves what meets P
  pub goes_on : (old mid new : D) (P may_leave : Images) → LeavesOnly moment left_since old mid P → Elapses (moment mid) (moment new) (left_since mid) (left_since new) may_leave → Narrows P may_leave → LeavesOnly moment left_since old new P
  goes_on old mid new P may_leave so_far time here = record {
    later = omega (arith, so_far.later, time.later);
    each = λ c left. ⊎_elim (so_far.each c) (here c) (time.nothing_else (moment old) c so_far.later left);
    before = λ t c le left. ⊎_elim (so_far.before t c le) (λ now. inr (here c now)) (time.nothing_else t c (omega (arith, le, so_far.later)) left);
  }

  -- a call and then another
  pub joins : (old mid new : D) (P : Images) → LeavesOnly moment left_since old mid P → LeavesOnly moment left_since mid new P → LeavesOnly moment left_since old new P
  joins old mid new P first second = record {
    later = omega (arith, first.later, second.later);
    each = λ c left. ⊎_elim (first.each c) (λ p. p) (second.before (moment old) c first.later left);
    before = λ t c le left. ⊎_elim (first.before t c le) (λ p. inr p) (second.before t c (omega (arith, le, first.later)) left);
  }

  -- what meets P meets Q as well
  pub weakens : (old new : D) (P Q : Images) → LeavesOnly moment left_since old new P → Narrows Q P → LeavesOnly moment left_since old new Q
  weakens old new P Q only less = record {
    later = only.later;
    each = λ c left. less c (only.each c left);
    before = λ t c le left. ⊎_elim (λ was. inl was) (λ p. inr (less c p)) (only.before t c le left);
  }
