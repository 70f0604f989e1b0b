use Rattle.std.proofs.Common.{refl}
use Rattle.sk_drill.specs.Telling.{push_moment}
use Rattle.sk_drill.proofs.Answered.{pushed_more, pushed_none}
use Rattle.sk_drill.proofs.OnTime.{on_time, push_ticks}
use Rattle.sk_drill.proofs.push_duty.push_all.Goals as goal

pub loop-k-init : goal.loop-k-init
loop-k-init g c = record {
  pushed = pushed_none _ c.requires.empty;
  time = on_time 1700000000000 0 push_moment _ c.requires.empty c.requires.clock push_ticks;
}

pub loop-k-preserved : goal.loop-k-preserved
loop-k-preserved g c = record {
  pushed = pushed_more _ _ _ _ c.loop-k.invariant.pushed refl c.in_ok-push_one.ensures.pushed;
  time = c.in_ok-push_one.ensures.time push_moment c.loop-k.invariant.time;
}
