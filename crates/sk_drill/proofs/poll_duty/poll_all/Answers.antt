use Rattle.std.proofs.Common.{◌∷◌, ◌∙◌, [], ap, arith, refl}
use Rattle.sk_drill.specs.Telling.{poll_moment}
use Rattle.sk_drill.proofs.Answered.{clock_first, clock_next, polled_more, polled_none}
use Rattle.sk_drill.proofs.OnTime.{on_time}
use Rattle.sk_drill.proofs.poll_duty.poll_all.Goals as goal

pub loop-turn-init : goal.loop-turn-init
loop-turn-init g c = record {
  polled = polled_none _ _ c.requires.empty.0 c.requires.empty.1;
  clock = clock_first _ c.clock-clock.ensures;
  time = on_time 1700000000000 1000 poll_moment _ c.requires.empty.0 c.requires.clock (λ n. refl);
}

pub loop-turn-preserved : goal.loop-turn-preserved
loop-turn-preserved g c =
    let turn = c.in_ok-take_turn.ensures.polled in
    let was = c.loop-turn.invariant in
    record {
      polled = polled_more _ _ _ _ _ c.loop-turn.link.asks.items _ turn.events was.polled refl (omega (arith, c.len.ensures, c.loop-turn.link.asks.ok)) c.in_ok-push.ensures.items turn.polls
          (turn.clock_read ∙ ap (λ k. k ∷ []) (was.clock 0) ∙ ap (λ i. poll_moment i ∷ []) (omega arith)) turn.are;
      clock = clock_next _ _ _ _ was.clock turn.clock_later refl;
      time = c.in_ok-take_turn.ensures.time poll_moment was.time;
    }
