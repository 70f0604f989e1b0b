-- A text is one score, or none for one reason.
use Rattle.std.proofs.Common.{◌≡◌, ℕ, ℤ, List, [], ◌∷◌, Bool, true, false, refl, sym, ap, subst, ◌∙◌, arith, Result, Ok, Err}
use Rattle.std.specs.Prelude.{MatchResult, ◌==◌}
use Rattle.sk_base.specs.Score.{IsDecimal, IsMagnitude, IsSigned, IsScore, fraction, millionths, signed}
use Rattle.sk_base.specs.declared.score.ScoreFault.{ScoreFault}
use Rattle.sk_base.specs.declared.score.ScoreFault.TheVariants.{NotDecimal, Range}
use Rattle.sk_base.proofs.Digits.{same_front, fraction_ends}

fraction_same : (a b : List ℕ) → fraction a ≡ fraction b → a ≡ b
fraction_same [] [] e = refl
fraction_same [] (d ∷ b) e = cc e
fraction_same (c ∷ a) [] e = cc e
fraction_same (c ∷ a) (d ∷ b) e = cc e

-- a text has one whole part and one list of decimals
same_millionths : (text w d w' d' : List ℕ) → IsDecimal text w d → IsDecimal text w' d' → millionths w d ≡ millionths w' d'
same_millionths text w d w' d' p q =
    let same = same_front w (fraction d) w' (fraction d') p.whole_digits q.whole_digits (fraction_ends d) (fraction_ends d') (sym p.is ∙ q.is) in
    ap (λ x. millionths x d) same.0 ∙ ap (millionths w') (fraction_same d d' same.1)

magnitude_same : (text : List ℕ) (a b : Result ℕ ScoreFault) → IsMagnitude text a → IsMagnitude text b → a ≡ b
magnitude_same text (Ok m) (Ok n) (w, d, p, e, le) (w', d', q, e', le') = ap Ok (e ∙ same_millionths text w d w' d' p q ∙ sym e')
magnitude_same text (Ok m) (Err Range) (w, d, p, e, le) (w', d', q, lt) = absurd (omega (arith, e, le, lt, same_millionths text w d w' d' p q))
magnitude_same text (Ok m) (Err NotDecimal) (w, d, p, e, le) none = absurd (none w d p)
magnitude_same text (Err Range) (Ok n) (w, d, p, lt) (w', d', q, e, le) = absurd (omega (arith, e, le, lt, same_millionths text w d w' d' p q))
magnitude_same text (Err Range) (Err Range) p q = refl
magnitude_same text (Err Range) (Err NotDecimal) (w, d, p, lt) none = absurd (none w d p)
magnitude_same text (Err NotDecimal) (Ok n) none (w, d, p, e, le) = absurd (none w d p)
magnitude_same text (Err NotDecimal) (Err Range) none (w, d, p, lt) = absurd (none w d p)
magnitude_same text (Err NotDecimal) (Err NotDecimal) p q = refl

signed_one : (below : Bool) (m : Result ℕ ScoreFault) (a b : Result ℤ ScoreFault) → MatchResult m (λ n. a ≡ Ok (signed below n)) (λ fault. a ≡ Err fault) → MatchResult m (λ n. b ≡ Ok (signed below n)) (λ fault. b ≡ Err fault) → a ≡ b
signed_one below (Ok n) a b p q = p ∙ sym q
signed_one below (Err e) a b p q = p ∙ sym q

signed_same : (below : Bool) (text : List ℕ) (a b : Result ℤ ScoreFault) → IsSigned below text a → IsSigned below text b → a ≡ b
signed_same below text a b (m, is, p) (n, is', q) =
    signed_one below m a b p (subst (λ r. MatchResult r (λ x. b ≡ Ok (signed below x)) (λ fault. b ≡ Err fault)) (sym (magnitude_same text m n is is')) q)

pub score_same : (text : List ℕ) (a b : Result ℤ ScoreFault) → IsScore text a → IsScore text b → a ≡ b
score_same [] a b p q = p ∙ sym q
score_same (c ∷ text) a b p q = by_sign (c == 45) p q where
  by_sign : (minus : Bool) → Rattle.std.specs.Bool.MatchBool minus (IsSigned true text a) (IsSigned false (c ∷ text) a) → Rattle.std.specs.Bool.MatchBool minus (IsSigned true text b) (IsSigned false (c ∷ text) b) → a ≡ b
  by_sign true p q = signed_same true text a b p q
  by_sign false p q = signed_same false (c ∷ text) a b p q
