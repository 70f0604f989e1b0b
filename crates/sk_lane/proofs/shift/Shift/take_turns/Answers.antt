use Rattle.std.proofs.Common.{◌-◌, ◌∙◌, refl, arith}
use Rattle.sk_lane.proofs.Carried.{not_starved}
use Rattle.sk_lane.proofs.StoryOn.{ran_later, ran_none}
use Rattle.sk_lane.proofs.TurnsOn.{keeps_rules, keeps_worker, same_rules, same_settings, stays_on, turn_broken, turn_calls, turn_on, turn_stands, turns_end, turns_none}
use Rattle.sk_lane.proofs.shift.Shift.take_turns.Goals as goal

pub loop-left-init : goal.loop-left-init
loop-left-init g c = record {
  most = omega arith;
  stands = c.requires.stands;
  on = c.requires.on;
  whole = c.requires.whole;
  worker = record { ident = refl; order = refl; plain = refl; prefetch = refl };
  registry = record { classes = refl; rules = refl };
  calls = λ are. are;
  told = turns_none _ _ _ _ _ _ _ _ (ran_none _ _);
}

pub loop-left-preserved : goal.loop-left-preserved
loop-left-preserved g c =
    let far = c.loop-left.invariant in
    let turn = c.in-Ok.ensures in
    record {
      most = grind (arith, far.most);
      stands = turn_stands _ _ _ _ _ _ _ _ turn.told far.stands;
      on = stays_on c.loop-left.self.link.drawing c.turn.new.self.link.drawing far.on turn.link;
      whole = turn.ended;
      worker = keeps_worker _ _ _ far.worker turn.worker;
      registry = keeps_rules _ _ _ far.registry turn.registry;
      calls = λ are. turn_calls _ _ _ _ _ _ _ _ turn.told
          (not_starved c.turn.new.self.link.drawing (stays_on c.loop-left.self.link.drawing c.turn.new.self.link.drawing far.on turn.link)) (far.calls are);
      told = turn_on _ _ _ _ _ _ _ _ _ _ _ c.loop-left.left (c.loop-left.left - 1) _ _ _ _ _ _ _ c.in-Ok.field-0 far.told
          (grind (arith, c.loop-left-test.true)) (turn.marks ∙ grind (arith, c.in_ok-push.ensures.items)) far.stands turn.told
          (same_settings _ _ _ _ far.worker far.registry) (same_rules _ _ _ _ far.worker far.registry)
          (λ xs ys p q. ran_later _ _ _ _ _ xs ys far.registry.classes p q);
    }

pub returns-clause-told : goal.returns-clause-told
returns-clause-told g c = turns_end _ _ _ _ _ _ c.loop-left.left _ _ _ _ _ _ (grind (arith, c.loop-left-test.false)) c.loop-left.invariant.told

pub returns-in-Err-clause-told : goal.returns-in-Err-clause-told
returns-in-Err-clause-told g c =
    let far = c.loop-left.invariant in
    let turn = c.in-Err.ensures in
    let ended = c.in_ok-broken_off-in-Err.ensures in
    turn_broken _ _ _ _ _ _ _ _ _ _ _ c.loop-left.left (c.loop-left.left - 1) _ _ _ _ _ _ _ c.in-Err.fault far.told
    (grind (arith, c.loop-left-test.true)) (turn.marks ∙ grind (arith, c.in_ok-push.ensures.items)) far.stands turn.told ended.fault far.on turn.link ended.fed
    (same_settings _ _ _ _ far.worker far.registry) (same_rules _ _ _ _ far.worker far.registry)
    (λ xs ys p q. ran_later _ _ _ _ _ xs ys far.registry.classes p q)

pub returns-in-Err-clause-calls : goal.returns-in-Err-clause-calls
returns-in-Err-clause-calls g c = λ are. turn_calls _ _ _ _ _ _ _ _ c.in-Err.ensures.told c.in_ok-broken_off-in-Err.ensures.fed (c.loop-left.invariant.calls are)
