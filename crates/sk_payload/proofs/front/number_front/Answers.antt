use Rattle.std.proofs.Common.{◌≡◌, ◌<◌, ℤ, length, take, ap, ◌∙◌, of_z, pos, rules, sym, subst, to_z, w64, arith, length-take}
use Rattle.std.specs.Prelude.{nat_abs}
use lib.Signed.{lt_z}
use Rattle.sk_payload.specs.Usual.{Shows}
use Rattle.sk_payload.specs.declared.front.Found.TheVariants as found
use Rattle.sk_payload.proofs.Usual.{negative_shows, number_in, number_some, number_text_is, unsigned_front, usual_number, whole_shows}
use Rattle.sk_payload.proofs.front.number_front.Goals.{then-n-lt0, else-n-lt0}
use Rattle.sk_payload.proofs.front.number_front.Goals as goal

pub returns-in-Some : goal.returns-in-Some
returns-in-Some c = λ most. let e = c.in-Some.ensures in unsigned_front most c.in-Some.field-0 c.args.input.now e.0 e.1 e.2

pub returns : goal.returns
returns c = λ most.
    let xs = c.args.input.now in
    let len = c.digits_end-len.result in
    let z = c.in_ok-n.n in
    let is = c.in_ok-n.ensures in
    let same : to_z w64 (of_z w64 z) ≡ z = search rules in
    let shows : Shows c.if-n-lt0.found (number_in z) = elim c.if-n-lt0.branch [
      | then-n-lt0 w ↦ subst (λ f. Shows f (number_in z)) (sym w.found-is) (negative_shows z (ap (λ (y : ℤ). lt_z y (pos 0)) (sym same) ∙ w.if-n-lt0.true))
      | else-n-lt0 w ↦ subst (λ f. Shows f (number_in z)) (sym w.found-is) (subst (λ (y : ℤ). Shows (found.Whole (nat_abs y)) (number_in z)) (sym same) (whole_shows z (ap (λ (y : ℤ). lt_z y (pos 0)) (sym same) ∙ w.if-n-lt0.false)))
    ] in
    let some : 0 < length (take len xs) = subst (λ t. 0 < length t) (sym is.1) (number_some z is.0) in
    ((omega (arith, some, length-take len xs), c.digits_end-len.ensures), (number_in z, usual_number most z is.0, shows, is.1 ∙ sym (number_text_is z)))
