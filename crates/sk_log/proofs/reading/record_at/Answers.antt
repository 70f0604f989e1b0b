use Rattle.std.proofs.Common.{◌≡◌, ◌+◌, length, take, drop, arith, rules, sym, ap, ◌∙◌, subst, List, ℕ}
use Rattle.std.proofs.lemmas.List.{drop-drop, places}
use Rattle.std.proofs.lemmas.Grind.{common_steps}
use Rattle.sk_log.specs.Reading.{Fills, IsFramed}
use Rattle.sk_log.proofs.Finding.{whole_body}
use Rattle.sk_log.proofs.reading.record_at.Goals as goal

pub returns-in_default-clause-is : goal.returns-in_default-clause-is
returns-in_default-clause-is g c = λ image reads. rw c.in_default.is at (c.in_ok-len.ensures.is image reads)

pub returns-clause-is : goal.returns-clause-is
returns-clause-is g c = λ image reads.
    let bytes : List ℕ = drop c.args.at image in
    let n = c.in-Some.len in
    let len_is = rw c.in-Some.is at (c.in_ok-len.ensures.is image reads) in
    let small = rw c.in-Some.is at c.in_ok-len.ensures.fits in
    let buf = c.read_full.new.buf in
    let long : length buf ≡ n + 1 = search rules in
    let filled = subst (λ b. Fills (drop (c.args.at + 4) image) buf b) c.if-not-branch.false (c.in_ok-read_full.ensures.full image (c.in_ok-len.ensures.only_read.same.forth image reads)) in
    let behind : drop (c.args.at + 4) image ≡ drop 4 bytes = sym (drop-drop 4 c.args.at image) in
    let items : c.truncate.new.self.items ≡ take n buf = c.truncate.ensures.items ∙ first_of (search (rules, places), grind (arith, common_steps, long)) in
    subst (λ (l : List ℕ). IsFramed l bytes) (sym items)
    (whole_body bytes buf n small len_is.1 (omega (arith, long, filled.0, ap length behind)) (filled.1 ∙ ap (λ (k : ℕ). take k (drop (c.args.at + 4) image)) long ∙ ap (λ (l : List ℕ). take (n + 1) l) behind))
