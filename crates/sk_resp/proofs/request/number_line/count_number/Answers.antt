use Rattle.std.proofs.Common.{arith}
use Rattle.sk_resp.proofs.Integers.{not_count, over_count, skipped_zero, skipped_negative}
use Rattle.sk_resp.proofs.request.number_line.count_number.Goals as goal

pub returns-then-n-gt-MOST_WORDS : goal.returns-then-n-gt-MOST_WORDS
returns-then-n-gt-MOST_WORDS c = over_count c.args.line.now c.in-Some.n c.in-Some.ensures.0 (omega arith) c.in-Some.ensures.1

pub returns-else-n-gt-MOST_WORDS : goal.returns-else-n-gt-MOST_WORDS
returns-else-n-gt-MOST_WORDS c = (omega arith, λ some. c.in-Some.ensures.1, λ zero_n. skipped_zero c.args.line.now c.in-Some.n zero_n c.in-Some.ensures.1)

pub returns-in-Some-negative_line : goal.returns-in-Some-negative_line
returns-in-Some-negative_line c =
    let n = c.in-Some-negative_line.ensures in
    (omega arith, λ some. absurd (omega arith), λ zero_n. skipped_negative c.args.line.now n.0 n.1 n.2)

pub returns-in-None-negative_line : goal.returns-in-None-negative_line
returns-in-None-negative_line c = not_count c.args.line.now c.in-None.ensures c.in-None-negative_line.ensures
