use Rattle.std.proofs.Common.{◌≡◌, length, take, drop, arith, rules, sym, ap, ◌∙◌, subst, ℕ}
use Rattle.std.proofs.lemmas.Nat.{be_bytes_4}
use Rattle.sk_log.specs.Reading.{Fills}
use Rattle.sk_log.proofs.reading.body_len.Goals as goal

pub returns-clause-is : goal.returns-clause-is
returns-clause-is g c = λ image reads.
    let buf = c.read_full.new.buf in
    let filled = subst (λ b. Fills (drop c.args.at image) buf b) c.if-not-branch.false (c.in_ok-read_full.ensures.full image reads) in
    let four : length buf ≡ 4 = search rules in
    (omega (arith, four, filled.0), sym (be_bytes_4 buf c.from_be_bytes-len.result four c.read_full.ensures.bytes c.from_be_bytes-len.ensures ∙ filled.1 ∙ ap (λ (n : ℕ). take n (drop c.args.at image)) four))
