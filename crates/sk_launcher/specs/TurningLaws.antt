-- What goes on with its turns, and then goes on again, went on: a turn begins in no state that has ended, and one with a fault leads to such a state.
use Rattle.std.specs.Prelude.{◌≡◌, ◌++◌, Bool, true, false, List, [], ◌∷◌, Result, Ok, Err, refl}
use Rattle.std.proofs.Common.{◌∙◌, sym, ap, subst}
use Rattle.std.proofs.lemmas.Bool.{true≢false}
use Rattle.sk_launcher.specs.Turning.{Turns, none, one_more, WentOn, whole, broken}

module _ {S Answer Fault : Type 0} (Turn : S → Result Answer Fault → S → Type 0) where
  pub went_on_none : (a : S) → WentOn Turn a a
  went_on_none a = whole [] none

  pub went_on_one : (a b : S) (result : Result Answer Fault) → Turn a result b → WentOn Turn a b
  went_on_one a b (Ok answer) turn = whole (answer ∷ []) (one_more [] a b answer none turn)
  went_on_one a b (Err fault) turn = broken [] a fault none turn

  pub further : (first then_ : List Answer) (a b c : S) → Turns Turn a first b → Turns Turn b then_ c → Turns Turn a (then_ ++ first) c
  further first [] a b c p none = p
  further first (t ∷ turns) a b c p (one_more turns' mid to t' q last) = one_more (turns ++ first) mid c t (further first turns a b mid p q) last

  module _ (ended : S → Bool) (begins : (a b : S) (result : Result Answer Fault) → Turn a result b → ended a ≡ false)
      (ends : (a b : S) (fault : Fault) → Turn a (Err fault) b → ended b ≡ true) where
    stuck : (turns : List Answer) (a b : S) → ended a ≡ true → Turns Turn a turns b → b ≡ a
    stuck [] a b is none = refl
    stuck (t ∷ turns) a b is (one_more turns' mid to t' q last) =
        absurd (true≢false (sym (ap ended (stuck turns a mid is q) ∙ is) ∙ begins mid b (Ok t) last))

    pub went_on_more : (a b c : S) → WentOn Turn a b → WentOn Turn b c → WentOn Turn a c
    went_on_more a b c (whole first p) (whole turns q) = whole (turns ++ first) (further first turns a b c p q)
    went_on_more a b c (whole first p) (broken turns last fault q broke) = broken (turns ++ first) last fault (further first turns a b last p q) broke
    went_on_more a b c (broken first last fault p broke) (whole turns q) =
        subst (λ s. WentOn Turn a s) (sym (stuck turns b c (ends last b fault broke) q)) (broken first last fault p broke)
    went_on_more a b c (broken first last fault p broke) (broken turns mid other q broke') =
        absurd (true≢false (sym (ap ended (stuck turns b mid (ends last b fault broke) q) ∙ ends last b fault broke) ∙ begins mid c (Err other) broke'))
