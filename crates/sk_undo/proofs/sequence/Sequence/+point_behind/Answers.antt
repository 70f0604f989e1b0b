use Rattle.std.proofs.Common.{rules, ◌≡◌, true, subst, arith, length-append}
use Rattle.sk_undo.specs.Partitioned.{is_partitioned}
use Rattle.sk_undo.proofs.Descents.{partitioned_left, partitioned_right}
use Rattle.sk_undo.proofs.sequence.Sequence.+point_behind.Goals as goal

pub point_behind-requires : goal.point_behind-requires
point_behind-requires g t c κs within =
    let whole = subst (λ xs. is_partitioned (g.F.Predicate.passes c.args.test.now) xs ≡ true) c.in-Some.ensures.is c.requires.is_partitioned in
    (grind (arith, length-append, c.in-Some.ensures.is), (search rules, (search rules, (partitioned_left (g.F.Predicate.passes c.args.test.now) c.in-Some.l.now c.in-Some.x.now c.in-Some.r.now whole, grind (arith, length-append, c.in-Some.ensures.is, c.requires.small)))))

pub point_behind-requires-else-test : goal.point_behind-requires-else-test
point_behind-requires-else-test g t c κs within =
    let whole = subst (λ xs. is_partitioned (g.F.Predicate.passes c.args.test.now) xs ≡ true) c.in-Some.ensures.is c.requires.is_partitioned in
    (grind (arith, length-append, c.in-Some.ensures.is), (search rules, (search rules, (partitioned_right (g.F.Predicate.passes c.args.test.now) c.in-Some.l.now c.in-Some.x.now c.in-Some.r.now whole, grind (arith, length-append, c.in-Some.ensures.is, c.requires.small, c.len.ensures.is)))))
