use Rattle.sk_line.proofs.Reading.{passed}
use Rattle.sk_line.proofs.drill_line.line_of.Goals as goal

pub returns-in_err-seed : goal.returns-in_err-seed
returns-in_err-seed c = passed _ _ c.from_residual.ensures.1 c.in_err-seed.ensures (λ line p. (line.seed, p.seed))

pub returns-in_err-jobs : goal.returns-in_err-jobs
returns-in_err-jobs c = passed _ _ c.from_residual-in_err-jobs.ensures.1 c.in_err-jobs.ensures (λ line p. (line.jobs, p.jobs))

pub returns-in_err-workers : goal.returns-in_err-workers
returns-in_err-workers c = passed _ _ c.from_residual-in_err-workers.ensures.1 c.in_err-workers.ensures (λ line p. (line.workers, p.workers))

pub returns-in_err-crashes : goal.returns-in_err-crashes
returns-in_err-crashes c = passed _ _ c.from_residual-in_err-crashes.ensures.1 c.in_err-crashes.ensures (λ line p. (line.crashes, p.crashes))
