use Rattle.std.proofs.Common.{◌≡◌, ◌-◌, take, drop, refl, ap, ◌∙◌, sym, subst, arith}
use Rattle.serde_json.specs.Data.{string}
use Rattle.sk_payload.specs.Usual.{Shows}
use Rattle.sk_payload.proofs.Usual.{usual_string}
use Rattle.sk_payload.proofs.front.text_front.Goals.{then-plain, else-plain}
use Rattle.sk_payload.proofs.front.text_front.Goals as goal

pub returns : goal.returns
returns c = λ most.
    let xs = c.args.input.now in
    let q = c.in_ok-len.ensures in
    let s = q.2.0 in
    let len = c.in_ok-len.field-0.len in
    let size : len - 2 ≡ len - 1 - 1 = omega arith in
    let shows : Shows c.if-plain.found (string s) = elim c.if-plain.branch [
      | then-plain w ↦ subst (λ f. Shows f (string s)) (sym w.found-is) (ap string (q.2.2 w.if-plain.true ∙ ap (λ n. take n (drop 1 xs)) size))
      | else-plain w ↦ subst (λ f. Shows f (string s)) (sym w.found-is) (s, refl)
    ] in
    ((omega (arith, q.0), q.1), (string s, usual_string most s, shows, q.2.1))
