use Rattle.std.proofs.Common.{◌<◌, ◌-◌, length, take, drop, arith}
use Rattle.sk_resp.proofs.Integers.{int_negative, first_and_rest}
use Rattle.sk_resp.proofs.number.read_int.Goals as goal

pub returns : goal.returns
returns c =
    let text = c.args.text.now in
    let some : 0 < length text = grind arith in
    int_negative text (take (length text - 1) (drop 1 text)) c.negative.result (first_and_rest text 45 some c.if-text-ne45.false) c.negative.ensures
