-- A number of words fits, or doesn't.
use Rattle.std.proofs.Common.{◌≡◌, ◌⊎◌, inl, inr, refl, sym, ap, ◌∙◌, Bool, true, false, Ok, Err, length, arith}
use Rattle.sk_resp.specs.Request.{Command as Words}
use Rattle.sk_resp.specs.declared.name.Name.{Name}
use Rattle.sk_cmd.specs.Counts.{IsZero, IsOne, IsTwo, IsThree, IsFour, IsSome, IsOneAnd, IsTwoAnd, IsThreeAnd, IsFiveAnd}
use Rattle.sk_cmd.proofs.Agree.{Agree}

pub zero_agrees : (name : Name) (words : Words) → Agree (IsZero name words)
zero_agrees name words (Ok x) (Ok y) p q na nb = refl
zero_agrees name words (Ok x) (Err e) p q na nb = absurd (q.1 (ap length p))
zero_agrees name words (Err e) (Ok y) p q na nb = absurd (p.1 (ap length q))
zero_agrees name words (Err e) (Err e') p q na nb = ap Err (p.0 ∙ sym q.0)

pub one_agrees : (name : Name) (words : Words) → Agree (IsOne name words)
one_agrees name words (Ok x) (Ok y) p q na nb = cc (p, q)
one_agrees name words (Ok x) (Err e) p q na nb = absurd (q.1 (ap length p))
one_agrees name words (Err e) (Ok y) p q na nb = absurd (p.1 (ap length q))
one_agrees name words (Err e) (Err e') p q na nb = ap Err (p.0 ∙ sym q.0)

pub two_agrees : (name : Name) (words : Words) → Agree (IsTwo name words)
two_agrees name words (Ok (a, b)) (Ok (c, d)) p q na nb = cc (p, q)
two_agrees name words (Ok x) (Err e) p q na nb = absurd (q.1 (ap length p))
two_agrees name words (Err e) (Ok y) p q na nb = absurd (p.1 (ap length q))
two_agrees name words (Err e) (Err e') p q na nb = ap Err (p.0 ∙ sym q.0)

pub three_agrees : (name : Name) (words : Words) → Agree (IsThree name words)
three_agrees name words (Ok (a, b, c)) (Ok (d, e, f)) p q na nb = cc (p, q)
three_agrees name words (Ok x) (Err e) p q na nb = absurd (q.1 (ap length p))
three_agrees name words (Err e) (Ok y) p q na nb = absurd (p.1 (ap length q))
three_agrees name words (Err e) (Err e') p q na nb = ap Err (p.0 ∙ sym q.0)

pub four_agrees : (name : Name) (words : Words) → Agree (IsFour name words)
four_agrees name words (Ok (a, b, c, d)) (Ok (e, f, g, h)) p q na nb = cc (p, q)
four_agrees name words (Ok x) (Err e) p q na nb = absurd (q.1 (ap length p))
four_agrees name words (Err e) (Ok y) p q na nb = absurd (p.1 (ap length q))
four_agrees name words (Err e) (Err e') p q na nb = ap Err (p.0 ∙ sym q.0)

pub some_agrees : (name : Name) (words : Words) → Agree (IsSome name words)
some_agrees name words (Ok x) (Ok y) p q na nb = ap Ok (p.0 ∙ sym q.0)
some_agrees name words (Ok x) (Err e) p q na nb = absurd (omega (arith, p.1, q.1))
some_agrees name words (Err e) (Ok y) p q na nb = absurd (omega (arith, p.1, q.1))
some_agrees name words (Err e) (Err e') p q na nb = ap Err (p.0 ∙ sym q.0)

-- words that fit aren't too few, and the test doesn't fail
fitting : {few : Type 0} (fits : Bool) → fits ≡ true → (few → ⊥) → few ⊎ (fits ≡ false) → ⊥
fitting fits e n (inl h) = n h
fitting fits e n (inr f) = cc (e, f)

pub one_and_agrees : (name : Name) (fits : Bool) (words : Words) → Agree (IsOneAnd name fits words)
one_and_agrees name fits words (Ok (a, more)) (Ok (b, more')) p q na nb = cc (p.1, q.1)
one_and_agrees name fits words (Ok x) (Err e) p q na nb = absurd (fitting fits p.0 (λ h. omega (arith, h, ap length p.1)) q.1)
one_and_agrees name fits words (Err e) (Ok y) p q na nb = absurd (fitting fits q.0 (λ h. omega (arith, h, ap length q.1)) p.1)
one_and_agrees name fits words (Err e) (Err e') p q na nb = ap Err (p.0 ∙ sym q.0)

pub two_and_agrees : (name : Name) (fits : Bool) (words : Words) → Agree (IsTwoAnd name fits words)
two_and_agrees name fits words (Ok (a, b, more)) (Ok (c, d, more')) p q na nb = cc (p.1, q.1)
two_and_agrees name fits words (Ok x) (Err e) p q na nb = absurd (fitting fits p.0 (λ h. omega (arith, h, ap length p.1)) q.1)
two_and_agrees name fits words (Err e) (Ok y) p q na nb = absurd (fitting fits q.0 (λ h. omega (arith, h, ap length q.1)) p.1)
two_and_agrees name fits words (Err e) (Err e') p q na nb = ap Err (p.0 ∙ sym q.0)

pub three_and_agrees : (name : Name) (fits : Bool) (words : Words) → Agree (IsThreeAnd name fits words)
three_and_agrees name fits words (Ok (a, b, c, more)) (Ok (d, e, f, more')) p q na nb = cc (p.1, q.1)
three_and_agrees name fits words (Ok x) (Err e) p q na nb = absurd (fitting fits p.0 (λ h. omega (arith, h, ap length p.1)) q.1)
three_and_agrees name fits words (Err e) (Ok y) p q na nb = absurd (fitting fits q.0 (λ h. omega (arith, h, ap length q.1)) p.1)
three_and_agrees name fits words (Err e) (Err e') p q na nb = ap Err (p.0 ∙ sym q.0)

pub five_and_agrees : (name : Name) (words : Words) → Agree (IsFiveAnd name words)
five_and_agrees name words (Ok (a, b, c, d, e, more)) (Ok (f, g, h, i, j, more')) p q na nb = cc (p, q)
five_and_agrees name words (Ok x) (Err e) p q na nb = absurd (omega (arith, q.1, ap length p))
five_and_agrees name words (Err e) (Ok y) p q na nb = absurd (omega (arith, p.1, ap length q))
five_and_agrees name words (Err e) (Err e') p q na nb = ap Err (p.0 ∙ sym q.0)
