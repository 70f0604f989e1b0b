-- The pairs within a range of scores stand together.
use Rattle.std.proofs.Common.{◌≡◌, ℕ, ◌-◌, true, not, List, max, arith, sym, ap₂, ◌∙◌}
use Rattle.std.specs.List.{count_by, filter, position_or_len}
use Rattle.sk_base.specs.declared.bound.Bound.{Bound}
use Rattle.sk_zset.specs.Bounds.{is_above, is_below, is_between}
use Rattle.sk_zset.specs.Order.{is_ordered}
use Rattle.sk_zset.specs.Pair.{Pair}
use Rattle.sk_zset.specs.Pairs.{part, without_ranks}
use Rattle.sk_zset.proofs.Rising.{partitioned_above, partitioned_below}
use Rattle.sk_zset.proofs.Splits.{Split, count_before, split}

range_split : (low high : Bound) (ps : List Pair) → is_ordered ps ≡ true → Split (λ p. not (is_below low p.0)) (λ p. is_above high p.0) ps
range_split low high ps h = split (λ p. not (is_below low p.0)) (λ p. is_above high p.0) ps (partitioned_below low ps h) (partitioned_above high ps h)

-- the pairs of a range, by the ranks at which it begins and has ended
pub record HasRange (low high : Bound) (first end : ℕ) (ps : List Pair) : Type 0 where
  pub inside : filter (is_between low high) ps ≡ part first (end - first) ps
  pub others : filter (λ p. not (is_between low high p)) ps ≡ without_ranks first (end - first) ps
  pub count : count_by (is_between low high) ps ≡ end - first

pub has_range : (low high : Bound) (ps : List Pair) (first left end : ℕ) → is_ordered ps ≡ true → first ≡ position_or_len (λ p. not (is_below low p.0)) ps → left ≡ position_or_len (λ p. is_above high p.0) ps → end ≡ max left first → HasRange low high first end ps
has_range low high ps first left end h begins leaves ends =
    let s = range_split low high ps h in
    let size : position_or_len (λ p. is_above high p.0) ps - position_or_len (λ p. not (is_below low p.0)) ps ≡ end - first = omega (arith, begins, leaves, ends) in
    record {
      inside = s.inside ∙ ap₂ (λ a n. part a n ps) (sym begins) size;
      others = s.around ∙ ap₂ (λ a n. without_ranks a n ps) (sym begins) size;
      count = s.count ∙ size;
    }

pub count_below : (low : Bound) (ps : List Pair) → is_ordered ps ≡ true → count_by (λ p. is_below low p.0) ps ≡ position_or_len (λ p. not (is_below low p.0)) ps
count_below low ps h = count_before (λ p. is_below low p.0) ps (partitioned_below low ps h)
