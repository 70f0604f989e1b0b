use Rattle.std.proofs.Common.{◌∙◌, arith}
use Rattle.sk_drill.proofs.FirstJobs.{no_job, one_more_job}
use Rattle.sk_drill.proofs.requests.add_first.Goals as goal

pub loop-k-init : goal.loop-k-init
loop-k-init c = (no_job c.args.words.now.items, omega arith)

pub loop-k-preserved : goal.loop-k-preserved
loop-k-preserved c = (c.in_ok-push.ensures.items ∙ one_more_job c.loop-k.words.items c.args.words.now.items c.loop-k.k _ c.loop-k.invariant.0 c.in_ok-job_text.ensures, omega arith)
