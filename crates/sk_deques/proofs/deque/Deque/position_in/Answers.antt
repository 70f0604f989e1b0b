use Rattle.std.proofs.Common.{arith, ap, refl, sym, ◌+◌, ◌∙◌}
use Rattle.sk_deques.proofs.DequeScans.{back_at, front_at, scan_here, scan_next}
use Rattle.sk_deques.proofs.deque.Deque.position_in.Goals as goal

pub returns-then-test-clause-is : goal.returns-then-test-clause-is
returns-then-test-clause-is g c =
    let there = front_at c.as_slices.result.0.now c.as_slices.result.1.now c.args.self.now.items c.loop-at.at c.index-front-at.result (c.as_slices.ensures.items ∙ ap (λ l. l.items) c.self.view_is) (omega (arith, c.loop-at-test.true, c.min-stop.ensures)) c.index-front-at.is in
    scan_here (g.F.Predicate.passes c.args.test.now) c.args.self.now.items c.loop-at.at c.args.end c.index-front-at.result (omega (arith, c.loop-at-test.true, c.min-stop.ensures)) (omega (arith, c.loop-at-test.true, c.min-stop.ensures, c.requires.within)) there (sym c.test.ensures ∙ c.if-test.true) ∙ c.loop-at.invariant.same

pub loop-at-preserved : goal.loop-at-preserved
loop-at-preserved g c =
    let there = front_at c.as_slices.result.0.now c.as_slices.result.1.now c.args.self.now.items c.loop-at.at c.index-front-at.result (c.as_slices.ensures.items ∙ ap (λ l. l.items) c.self.view_is) (omega (arith, c.loop-at-test.true, c.min-stop.ensures)) c.index-front-at.is in
    record {
      order = omega (arith, c.loop-at-test.true, c.min-stop.ensures);
      same = scan_next (g.F.Predicate.passes c.args.test.now) c.args.self.now.items c.loop-at.at (c.loop-at.at + 1) c.args.end c.index-front-at.result refl (omega (arith, c.loop-at-test.true, c.min-stop.ensures)) (omega (arith, c.loop-at-test.true, c.min-stop.ensures, c.requires.within)) there (sym c.test.ensures ∙ c.if-test.false) ∙ c.loop-at.invariant.same;
    }

pub returns-then-test-2-clause-is : goal.returns-then-test-2-clause-is
returns-then-test-2-clause-is g c =
    let there = back_at c.as_slices.result.0.now c.as_slices.result.1.now c.args.self.now.items c.loop-at-2.at c.index-back-at.result (c.as_slices.ensures.items ∙ ap (λ l. l.items) c.self.view_is) (c.loop-at-2.invariant.turned c.loop-at-2-test.true) c.index-back-at.is in
    scan_here (g.F.Predicate.passes c.args.test.now) c.args.self.now.items c.loop-at-2.at c.args.end c.index-back-at.result c.loop-at-2-test.true (omega (arith, c.loop-at-2-test.true, c.requires.within)) there (sym c.test-in-loop-at-2.ensures ∙ c.if-test-2.true) ∙ c.loop-at-2.invariant.same

pub loop-at-2-preserved : goal.loop-at-2-preserved
loop-at-2-preserved g c =
    let turned = c.loop-at-2.invariant.turned c.loop-at-2-test.true in
    let there = back_at c.as_slices.result.0.now c.as_slices.result.1.now c.args.self.now.items c.loop-at-2.at c.index-back-at.result (c.as_slices.ensures.items ∙ ap (λ l. l.items) c.self.view_is) (c.loop-at-2.invariant.turned c.loop-at-2-test.true) c.index-back-at.is in
    record {
      order = omega (arith, c.loop-at-2-test.true);
      turned = λ h. omega (arith, turned);
      same = scan_next (g.F.Predicate.passes c.args.test.now) c.args.self.now.items c.loop-at-2.at (c.loop-at-2.at + 1) c.args.end c.index-back-at.result refl c.loop-at-2-test.true (omega (arith, c.loop-at-2-test.true, c.requires.within)) there (sym c.test-in-loop-at-2.ensures ∙ c.if-test-2.false) ∙ c.loop-at-2.invariant.same;
    }
