use Rattle.sk_cmd.specs.declared.argument.Scored.TheVariants.{Schedule, Retry, Dead}
use Rattle.sk_places.proofs.JobSets.{own_removed, own_within}
use Rattle.sk_places.proofs.job_sets.JobSets.drop_out.Goals as goal

pub drop_out-requires-clause-within : goal.drop_out-requires-clause-within
drop_out-requires-clause-within c = own_within c.self.inside.schedule c.self.inside.retry c.self.inside.dead c.args.self.now c.self.view_is c.args.set Schedule c.in-Schedule.is c.args.at c.requires.within

pub drop_out-requires-in-Retry-clause-within : goal.drop_out-requires-in-Retry-clause-within
drop_out-requires-in-Retry-clause-within c = own_within c.self.inside.schedule c.self.inside.retry c.self.inside.dead c.args.self.now c.self.view_is c.args.set Retry c.in-Retry.is c.args.at c.requires.within

pub drop_out-requires-in-Dead-clause-within : goal.drop_out-requires-in-Dead-clause-within
drop_out-requires-in-Dead-clause-within c = own_within c.self.inside.schedule c.self.inside.retry c.self.inside.dead c.args.self.now c.self.view_is c.args.set Dead c.in-Dead.is c.args.at c.requires.within

pub returns-in-Schedule-clause-list : goal.returns-in-Schedule-clause-list
returns-in-Schedule-clause-list c = own_removed c.self.inside.schedule c.self.inside.retry c.self.inside.dead c.args.self.now c.self.view_is c.args.set Schedule c.in-Schedule.is c.drop_out.new.self.list c.args.at c.requires.within c.drop_out.ensures.list

pub returns-in-Retry-clause-list : goal.returns-in-Retry-clause-list
returns-in-Retry-clause-list c = own_removed c.self.inside.schedule c.self.inside.retry c.self.inside.dead c.args.self.now c.self.view_is c.args.set Retry c.in-Retry.is c.drop_out-in-Retry.new.self.list c.args.at c.requires.within c.drop_out-in-Retry.ensures.list

pub returns-in-Dead-clause-list : goal.returns-in-Dead-clause-list
returns-in-Dead-clause-list c = own_removed c.self.inside.schedule c.self.inside.retry c.self.inside.dead c.args.self.now c.self.view_is c.args.set Dead c.in-Dead.is c.drop_out-in-Dead.new.self.list c.args.at c.requires.within c.drop_out-in-Dead.ensures.list
