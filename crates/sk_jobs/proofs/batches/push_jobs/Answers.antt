use Rattle.std.proofs.Common.{ap, arith, length}
use Rattle.sk_store.proofs.Steps.{joined}
use Rattle.sk_store.specs.Stored.{world}
use Rattle.sk_jobs.proofs.Batching.{one_pushed}
use Rattle.sk_jobs.proofs.batches.push_jobs.Goals as goal

pub push_job-requires : goal.push_job-requires
push_job-requires c = let l = ap length c.in-Some.ensures.steps.0 in let room = c.loop-payload.invariant.room (omega (arith, l)) in omega (arith, room, l)

pub loop-payload-preserved : goal.loop-payload-preserved
loop-payload-preserved c = record {
  pushed = one_pushed (world c.loop-payload.store) _ _ c.in-Some.payload _ _ c.in-Some.ensures.steps.0 c.in_ok-push_job.ensures.ok c.loop-payload.invariant.pushed;
  room = λ some. let room = c.loop-payload.invariant.room (let l = ap length c.in-Some.ensures.steps.0 in omega (arith, l)) in omega (arith, room, some, c.in_ok-push_job.ensures.few, ap length c.in-Some.ensures.steps.0);
  step = joined c.args.store.now c.loop-payload.store c.push_job.new.store c.loop-payload.invariant.step c.in_ok-push_job.ensures.step;
}
