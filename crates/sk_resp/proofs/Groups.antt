-- Groups of bytes compare as numbers as the bytes do.
use Rattle.std.proofs.Common.{◌≡◌, ◌+◌, ◌*◌, ◌^◌, ◌<◌, ◌≤◌, ℕ, zero, suc, List, length, drop, get_or, refl, ap, ◌∙◌, arith}
use Rattle.std.proofs.Math.Nat.{mul-le-mul_right}
use Rattle.std.proofs.Math.Seq.{drop-cons}
use Rattle.std.proofs.lemmas.Cmp.{ranked}
use Rattle.std.specs.Cmp.Lexicographic.{slice_cmp}
use Rattle.std.specs.Ordering.{MatchOrdering, nat_cmp, ordering_then}
use Rattle.std.specs.declared.cmp.Ordering.{Ordering}
use Rattle.std.specs.declared.cmp.Ordering.TheVariants.{Less, Equal, Greater}
use Rattle.sk_resp.specs.Groups.{group_at}

abbrev pub AreBytes : List ℕ → Type 0
AreBytes xs = (k : ℕ) → get_or xs k 0 < 256

-- the highest byte decides
above : (x y w g h : ℕ) → x < y → g < w → x * w + g < y * w + h
above x y w g h l small =
    let more : suc x * w ≤ y * w = mul-le-mul_right w (omega (arith, l)) in
    let next : suc x * w ≡ x * w + w = grind arith in
    omega (arith, more, next, small)

module _ (xs : List ℕ) (bytes : AreBytes xs) where
  below : (k at : ℕ) → group_at k at xs < 256 ^ k
  below zero at = omega arith
  below (suc k) at =
      let w : ℕ = 256 ^ k in
      let rest = below k (suc at) in
      let most : suc (get_or xs at 0) * w ≤ 256 * w = mul-le-mul_right w (omega (arith, bytes at)) in
      let next : suc (get_or xs at 0) * w ≡ get_or xs at 0 * w + w = grind arith in
      let power : 256 ^ suc k ≡ 256 * w = grind arith in
      omega (arith, rest, most, next, power)

module _ (xs ys : List ℕ) (bytes : AreBytes xs) (others : AreBytes ys) where
  abbrev order_from : ℕ → Ordering
  order_from at = slice_cmp nat_cmp (drop at xs) (drop at ys)

  step : (at : ℕ) → at < length xs → at < length ys → order_from at ≡ ordering_then (nat_cmp (get_or xs at 0) (get_or ys at 0)) (order_from (suc at))
  step at p q = rw (drop-cons xs at 0 p, drop-cons ys at 0 q) refl

  pub order_same : (k at : ℕ) → at + k ≤ length xs → at + k ≤ length ys → group_at k at xs ≡ group_at k at ys → order_from at ≡ order_from (at + k)
  order_same zero at p q e = ap order_from (omega arith)
  order_same (suc k) at p q e = step at (omega (arith, p)) (omega (arith, q)) ∙ by (nat_cmp x y) (ranked x y (nat_cmp x y) refl) (order_same k (suc at) (omega (arith, p)) (omega (arith, q)))
    where
      x : ℕ
      x = get_or xs at 0

      y : ℕ
      y = get_or ys at 0

      by : (r : Ordering) → MatchOrdering r (x < y) (x ≡ y) (y < x) → (group_at k (suc at) xs ≡ group_at k (suc at) ys → order_from (suc at) ≡ order_from (suc at + k)) → ordering_then r (order_from (suc at)) ≡ order_from (at + suc k)
      by Less h more = absurd (omega (arith, e, above x y (256 ^ k) (group_at k (suc at) xs) (group_at k (suc at) ys) h (below xs bytes k (suc at))))
      by Equal h more =
          let first : x * 256 ^ k ≡ y * 256 ^ k = ap (λ z. z * 256 ^ k) h in
          let rest : group_at k (suc at) xs ≡ group_at k (suc at) ys = omega (arith, e, first) in
          more rest ∙ ap order_from (omega arith)
      by Greater h more = absurd (omega (arith, e, above y x (256 ^ k) (group_at k (suc at) ys) (group_at k (suc at) xs) h (below ys others k (suc at))))

  pub order_less : (k at : ℕ) → at + k ≤ length xs → at + k ≤ length ys → group_at k at xs < group_at k at ys → order_from at ≡ Less
  order_less zero at p q e = absurd (omega (arith, e))
  order_less (suc k) at p q e = step at (omega (arith, p)) (omega (arith, q)) ∙ by (nat_cmp x y) (ranked x y (nat_cmp x y) refl) (order_less k (suc at) (omega (arith, p)) (omega (arith, q)))
    where
      x : ℕ
      x = get_or xs at 0

      y : ℕ
      y = get_or ys at 0

      by : (r : Ordering) → MatchOrdering r (x < y) (x ≡ y) (y < x) → (group_at k (suc at) xs < group_at k (suc at) ys → order_from (suc at) ≡ Less) → ordering_then r (order_from (suc at)) ≡ Less
      by Less h more = refl
      by Equal h more =
          let first : x * 256 ^ k ≡ y * 256 ^ k = ap (λ z. z * 256 ^ k) h in
          more (omega (arith, e, first))
      by Greater h more = absurd (omega (arith, e, above y x (256 ^ k) (group_at k (suc at) ys) (group_at k (suc at) xs) h (below ys others k (suc at))))

  pub order_greater : (k at : ℕ) → at + k ≤ length xs → at + k ≤ length ys → group_at k at ys < group_at k at xs → order_from at ≡ Greater
  order_greater zero at p q e = absurd (omega (arith, e))
  order_greater (suc k) at p q e = step at (omega (arith, p)) (omega (arith, q)) ∙ by (nat_cmp x y) (ranked x y (nat_cmp x y) refl) (order_greater k (suc at) (omega (arith, p)) (omega (arith, q)))
    where
      x : ℕ
      x = get_or xs at 0

      y : ℕ
      y = get_or ys at 0

      by : (r : Ordering) → MatchOrdering r (x < y) (x ≡ y) (y < x) → (group_at k (suc at) ys < group_at k (suc at) xs → order_from (suc at) ≡ Greater) → ordering_then r (order_from (suc at)) ≡ Greater
      by Less h more = absurd (omega (arith, e, above x y (256 ^ k) (group_at k (suc at) xs) (group_at k (suc at) ys) h (below xs bytes k (suc at))))
      by Equal h more =
          let first : x * 256 ^ k ≡ y * 256 ^ k = ap (λ z. z * 256 ^ k) h in
          more (omega (arith, e, first))
      by Greater h more = refl
