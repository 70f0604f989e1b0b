use Rattle.std.proofs.Common.{rules, ◌≡◌, ◌-◌, true, subst, sym, drop, take, arith, length-append}
use Rattle.sk_undo.specs.Partitioned.{is_partitioned}
use Rattle.sk_undo.proofs.Searches.{partitioned_past, partitioned_second}
use Rattle.sk_undo.proofs.sequence.Sequence.+first_in.Goals as goal

pub first_in-requires-then-here-first : goal.first_in-requires-then-here-first
first_in-requires-then-here-first g t c κs within =
    let test = g.F.Predicate.passes c.args.test.now in
    let whole = subst (λ xs. is_partitioned test (drop c.args.first (take c.args.end xs)) ≡ true) c.in-Some.ensures.is c.requires.is_partitioned in
    let past = partitioned_past test c.in-Some.l.now c.in-Some.x.now c.in-Some.r.now c.args.first c.args.end (omega (arith, c.if-here-first.true, c.len-here.ensures.is)) (omega (arith, c.if-end-here.false, c.len-here.ensures.is)) whole in
    let there = subst (λ n. is_partitioned test (drop (c.args.first - n - 1) (take (c.args.end - n - 1) c.in-Some.r.now)) ≡ true) (sym c.len-here.ensures.is) past in
    (grind (arith, length-append, c.in-Some.ensures.is), (search rules, (search rules, (omega arith, (grind (arith, length-append, c.in-Some.ensures.is, c.requires.within, c.len-here.ensures.is), there)))))

pub first_in-requires-else-test : goal.first_in-requires-else-test
first_in-requires-else-test g t c κs within =
    let test = g.F.Predicate.passes c.args.test.now in
    let whole = subst (λ xs. is_partitioned test (drop c.args.first (take c.args.end xs)) ≡ true) c.in-Some.ensures.is c.requires.is_partitioned in
    let second = partitioned_second test c.in-Some.l.now c.in-Some.x.now c.in-Some.r.now c.args.first c.args.end (omega (arith, c.if-here-first.false, c.len-here.ensures.is)) (omega (arith, c.if-end-here.false, c.len-here.ensures.is)) whole in
    let there = subst (λ n. is_partitioned test (drop 0 (take (c.args.end - n - 1) c.in-Some.r.now)) ≡ true) (sym c.len-here.ensures.is) second in
    (grind (arith, length-append, c.in-Some.ensures.is), (search rules, (search rules, (omega arith, (grind (arith, length-append, c.in-Some.ensures.is, c.requires.within, c.len-here.ensures.is), there)))))
