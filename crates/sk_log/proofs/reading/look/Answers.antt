use Rattle.std.proofs.Common.{◌≡◌, ◌+◌, length, drop, get_or, rules, sym, subst, List, ℕ}
use Rattle.std.proofs.lemmas.List.{drop-drop}
use Rattle.sk_log.specs.Reading.{Fills, FindsBehind}
use Rattle.sk_log.proofs.Finding.{finds_from, gate_at}
use Rattle.sk_log.proofs.reading.look.Goals as goal

pub returns-clause-is : goal.returns-clause-is
returns-clause-is g c = λ image reads.
    let bytes : List ℕ = drop c.args.at image in
    let buf = c.read_full.new.buf in
    let one : length buf ≡ 1 = search rules in
    let filled = subst (λ b. Fills bytes buf b) c.if-not-branch.false (c.in_ok-read_full.ensures.full image reads) in
    let first : get_or buf 0 0 ≡ 1 = search rules in
    let behind : drop (c.args.at + 1) image ≡ drop 1 bytes = sym (drop-drop 1 c.args.at image) in
    finds_from c.in_ok-found.found bytes (gate_at bytes buf 1 one filled.0 filled.1 first)
    (subst (λ (l : List ℕ). FindsBehind c.in_ok-found.found l) behind (c.in_ok-found.ensures.is image (c.in_ok-read_full.ensures.only_read.same.forth image reads)))
