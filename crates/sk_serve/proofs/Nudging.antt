-- An ear that is nudged several times.
use Rattle.std.proofs.Common.{◌≡◌, ℕ, ◌+◌, ◌^◌, ◌≤◌, ◌⊎◌, Option, Some, None, arith, inl, inr, ap, ◌∙◌, refl, subst}
use Rattle.sk_edge.specs.Doors.{IsNudged}

pub nudged_none : (a : Option ℕ) → IsNudged a 0 a
nudged_none None = refl
nudged_none (Some n) = inl (ap Some (omega arith))

-- so many times, and then more
pub nudged_more : (a b c : Option ℕ) (k j n : ℕ) → IsNudged a k b → IsNudged b j c → n ≡ k + j → IsNudged a n c
nudged_more None b c k j n first then_ is = subst (λ z. IsNudged z j c) first then_
nudged_more (Some a) b c k j n (inl told) then_ is = by_told (subst (λ z. IsNudged z j c) told then_) where
  by_told : (c ≡ Some (a + k + j)) ⊎ ((c ≡ None) × (2 ^ 64 ≤ a + k + j)) → IsNudged (Some a) n c
  by_told (inl is_told) = inl (is_told ∙ ap Some (omega (arith, is)))
  by_told (inr (lost, most)) = inr (lost, omega (arith, is, most))
nudged_more (Some a) b c k j n (inr (lost, most)) then_ is = inr (subst (λ z. IsNudged z j c) lost then_, omega (arith, is, most))
