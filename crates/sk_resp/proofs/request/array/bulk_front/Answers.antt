use Rattle.std.proofs.Common.{◌≡◌, ◌-◌, length, take, drop, ap, ◌∙◌, arith, length-drop}
use Rattle.std.proofs.lemmas.List.{take_all}
use Rattle.sk_resp.proofs.Fronts.{bulk_at}
use Rattle.sk_resp.proofs.request.array.bulk_front.Goals as goal

pub returns : goal.returns
returns c =
    let input = c.args.input.now in
    let at = c.in-Some.at in
    let n = c.in-Some.n in
    let rest = take (length input - at) (drop at input) in
    let behind : rest ≡ drop at input = take_all (length input - at) (drop at input) (omega (arith, length-drop at input)) in
    let size : length rest ≡ length input - at = ap length behind ∙ length-drop at input in
    let items : c.new.result ≡ take n rest = c.new.ensures ∙ c.in_ok-bytes.ensures.items in
    let whole = bulk_at input rest c.new.result at n c.in-Some.ensures.2 behind (omega arith) c.if-rest-n-ne13.false c.if-rest-n-ne10.false items in (
      (omega arith, omega (arith, c.in-Some.ensures.0, size)),
      (omega (arith, whole.0), omega (arith, whole.0)),
      whole.1,
    )
