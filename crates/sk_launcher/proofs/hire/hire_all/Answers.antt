use Rattle.std.proofs.Common.{◌∙◌, [], sym, arith, refl, rules}
use Rattle.sk_launcher.specs.Connections.{none}
use Rattle.sk_launcher.specs.Working.{hired_worker}
use Rattle.sk_launcher.proofs.Hiring.{empty_staff, hired_more, last_broken, mapped_end}
use Rattle.sk_launcher.proofs.hire.hire_all.Goals as goal

pub loop-alloc-init : goal.loop-alloc-init
loop-alloc-init g c = record {
  hired = ([], none, empty_staff (hired_worker g.C.Clock.moments (λ v. (goal.Job-dyn g v).runs v.1)) c.args.staff.now.items (omega (arith, c.requires.room)));
  few = search rules;
  teams = search rules;
  rules = search rules;
  dice = search rules;
  room = refl;
  later = omega arith;
}

pub returns-then-is_broken-clause-hired : goal.returns-then-is_broken-clause-hired
returns-then-is_broken-clause-hired g c =
    hired_more _ _ _ _ _ _ _ _ c.loop-alloc.invariant.hired c.in_ok-worker.ensures.hired
    (mapped_end (hired_worker g.C.Clock.moments (λ v. (goal.Job-dyn g v).runs v.1)) _ _ _ c.push_reserved.ensures.items)

pub returns-then-is_broken-clause-enough : goal.returns-then-is_broken-clause-enough
returns-then-is_broken-clause-enough g c = λ whole. absurd (last_broken (λ w. w.processor.worker.ended) _ _ _ c.push_reserved.ensures.items (sym c.is_broken-is_broken.ensures ∙ c.if-is_broken.true) whole)

pub loop-alloc-preserved : goal.loop-alloc-preserved
loop-alloc-preserved g c =
    let i = c.loop-alloc.invariant in
    record {
      hired = hired_more _ _ _ _ _ _ _ _ i.hired c.in_ok-worker.ensures.hired (mapped_end (hired_worker g.C.Clock.moments (λ v. (goal.Job-dyn g v).runs v.1)) _ _ _ c.push_reserved.ensures.items);
      few = search rules;
      teams = search rules;
      rules = search rules;
      dice = search rules;
      room = c.push_reserved.ensures.capacity ∙ i.room;
      later = search rules;
    }
