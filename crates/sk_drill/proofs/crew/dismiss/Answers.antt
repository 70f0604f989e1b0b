use Rattle.std.proofs.Common.{◌∙◌, rules}
use Rattle.sk_drill.proofs.Assigning.{back_more, lanes_more}
use Rattle.sk_drill.proofs.crew.dismiss.Goals as goal

pub loop-worker-preserved : goal.loop-worker-preserved
loop-worker-preserved g c =
    let i = c.loop-worker.invariant in
    let is = c.in-Some.ensures.steps.0 in
    record {
      back = back_more (λ w. w.registry) _ _ _ c.in-Some.worker _ _ i.back is c.push_reserved.ensures.items;
      lanes = λ whole.
          let kept = c.keep-whole.ensures.kept whole in
          lanes_more (λ w. w.stories) _ _ _ c.in-Some.worker kept.1.0 _ _ (i.lanes kept.0) is kept.1.1 kept.1.2;
      room = search rules;
      lanes_room = search rules;
      capacity = c.push_reserved.ensures.capacity ∙ i.capacity;
    }
