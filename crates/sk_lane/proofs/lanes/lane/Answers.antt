use Rattle.std.proofs.Common.{◌≡◌, ◌+◌, ◌∙◌, ap, refl, arith}
use Rattle.sk_lane.proofs.Starts.{lane_starts}
use Rattle.sk_lane.proofs.StoryOn.{lane_all, lane_begins, lane_on, ran_later, ran_none}
use Rattle.sk_lane.proofs.TurnsOn.{keeps_rules, story_moved}
use Rattle.sk_lane.proofs.lanes.lane.Goals as goal

pub loop-left-init : goal.loop-left-init
loop-left-init g c =
    let thread = c.in_ok-thread.ensures in
    record {
      enough = c.requires.seats;
      free = c.requires.free;
      registry = record { classes = refl; rules = refl };
      thread = record { number_is = thread.number_is; rule_is = thread.rule_is; order_is = thread.order_is; crashes_are = refl };
      told = lane_begins _ _ _ _ _ _ _ _ _ thread.crashes_are c.new-stories.ensures.items (ran_none _ _);
    }

pub loop-left-preserved : goal.loop-left-preserved
loop-left-preserved g c =
    let far = c.loop-left.invariant in
    let one = c.in_ok-story.ensures in
    record {
      enough = grind (arith, far.enough, one.less, one.seated.left_is);
      free = c.sit.ensures.free;
      registry = keeps_rules _ _ _ far.registry c.sit.ensures.registry;
      thread = record {
        number_is = one.thread.number_is ∙ far.thread.number_is;
        rule_is = one.thread.rule_is ∙ far.thread.rule_is;
        order_is = one.thread.order_is;
        crashes_are = refl;
      };
      told = lane_on _ _ _ _ _ _ _ _ _ _ c.loop-left.left c.in_ok-story.rest _ _ _ _ _ c.in_ok-story.story far.told
          (one.number ∙ ap (λ n. n + 1) far.thread.number_is)
          (story_moved _ _ _ _ _ _ _ _ _ _ _ _ _ _ _ _ far.registry.classes (ap (λ v. v.items) far.registry.rules) far.thread.rule_is far.thread.number_is one.story)
          one.seated (grind (arith, c.in_ok-push.ensures.items)) (λ xs ys p q. ran_later _ _ _ _ _ xs ys far.registry.classes p q);
    }

pub returns-clause-told : goal.returns-clause-told
returns-clause-told g c =
    let far = c.loop-left.invariant in
    let all = lane_all _ _ _ _ _ _ _ c.loop-left.left _ _ _ (let none : c.loop-left.left ≡ 0 = grind (arith, c.loop-left-test.false) in none) far.told in
    record {
      runs = far.told.runs;
      seats_ended = far.told.seats_ended;
      told = all;
      past_is = far.told.past_is;
      left_is = far.told.left_is;
      ran = far.told.ran;
      started = lane_starts _ _ _ _ _ _ _ _ _ all;
    }
