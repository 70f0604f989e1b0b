-- What takes all pairs of a sorted set out.
use Rattle.std.proofs.Common.{◌≡◌, ◌+◌, ◌-◌, ℕ, ℤ, Bool, cond, not, min, List, [], ◌∷◌, length, filter, refl, ap, arith, ◌∙◌}
use Rattle.std.specs.List.{count_by}
use Rattle.std.proofs.lemmas.List.{drop_all}
use Rattle.std.proofs.lemmas.List.Sums.{count_by-le-length, sum_by-cons}
use Rattle.sk_base.specs.declared.bound.Bound.{Bound}
use Rattle.sk_zset.specs.Bounds.{is_between}
use Rattle.sk_zset.specs.Pair.{Pair}
use Rattle.sk_zset.specs.Pairs.{without_ranks}
use Rattle.sk_value.specs.Lists.{end_index, first_index}
use Rattle.sk_value.specs.Sorted.{without_between, without_range}

pub all_ranks : (first last : ℤ) (pairs : List Pair) → first_index first (length pairs) ≡ 0 → min (length pairs) (end_index last (length pairs)) ≡ length pairs → without_range first last pairs ≡ []
all_ranks first last pairs begins ends =
    let end : ℕ = end_index last (length pairs) in
    ap (λ i. without_ranks i (end - i) pairs) begins ∙ drop_all (0 + (end - 0)) pairs (omega (arith, ends))

none_left : {A : Type 0} (test : A → Bool) (xs : List A) → count_by test xs ≡ length xs → filter (λ x. not (test x)) xs ≡ []
none_left test [] all = refl
none_left test (x ∷ xs) all = let e = sum_by-cons (λ y. cond (test y) 1 0) x xs in let most = count_by-le-length test xs in grind (arith, e, most, all, none_left test xs)

pub all_scores : (least greatest : Bound) (pairs : List Pair) → count_by (is_between least greatest) pairs ≡ length pairs → without_between least greatest pairs ≡ []
all_scores least greatest pairs all = none_left (is_between least greatest) pairs all
