use Rattle.std.proofs.Common.{◌≡◌, ◌<◌, ◌+◌, ◌-◌, ◌∷◌, [], length, take, drop, get_or, refl, ap, subst, ◌∙◌, arith}
use Rattle.json.specs.Print.{quoted}
use Rattle.sk_payload.specs.Usual.{IsPlainAscii}
use Rattle.sk_payload.proofs.Usual.{run_read, string_read, take_one, plain_of_ascii, ascii_inside}
use Rattle.sk_payload.proofs.front.ascii_front.Goals as goal

pub returns : goal.returns
returns c =
    let xs = c.args.input.now in
    let end = c.ascii_end-end.result in
    let e = c.ascii_end-end.ensures in
    let below : end < length xs = omega (arith, e.within.1) in
    let size : end - 1 ≡ end + 1 - 2 = omega arith in
    let first : take 1 xs ≡ 34 ∷ [] = take_one xs (omega arith) ∙ ap (λ b. b ∷ []) c.if-input-ne34.false in
    let front = run_read xs 1 end [] e.within.0 e.within.1 first (λ k le lt. plain_of_ascii (get_or xs k 0) (e.ascii k le lt)) in (
      (omega (arith, e.within.0), omega (arith, below), string_read xs end (take (end - 1) (drop 1 xs)) below front c.if-input-end-ne34.false ∙ ap (λ n. quoted (take n (drop 1 xs))) size),
      subst (λ n. IsPlainAscii (take n (drop 1 xs))) size (ascii_inside xs end e.within.1 e.ascii),
    )
