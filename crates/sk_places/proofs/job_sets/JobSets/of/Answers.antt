use Rattle.sk_cmd.specs.declared.argument.Scored.TheVariants.{Schedule, Retry, Dead}
use Rattle.sk_places.proofs.JobSets.{own_items}
use Rattle.sk_places.proofs.job_sets.JobSets.of.Goals as goal

pub returns-in-Schedule : goal.returns-in-Schedule
returns-in-Schedule c = own_items c.self.inside.schedule c.self.inside.retry c.self.inside.dead c.args.self.now c.self.view_is c.args.set Schedule c.in-Schedule.is

pub returns-in-Retry : goal.returns-in-Retry
returns-in-Retry c = own_items c.self.inside.schedule c.self.inside.retry c.self.inside.dead c.args.self.now c.self.view_is c.args.set Retry c.in-Retry.is

pub returns-in-Dead : goal.returns-in-Dead
returns-in-Dead c = own_items c.self.inside.schedule c.self.inside.retry c.self.inside.dead c.args.self.now c.self.view_is c.args.set Dead c.in-Dead.is
