use Rattle.sk_cmd.specs.declared.argument.Scored.TheVariants.{Schedule, Retry, Dead}
use Rattle.sk_places.proofs.JobSets.{own_item, own_removed, own_within}
use Rattle.sk_places.proofs.job_sets.JobSets.take.Goals as goal

pub take-requires-clause-within : goal.take-requires-clause-within
take-requires-clause-within c = own_within c.self.inside.schedule c.self.inside.retry c.self.inside.dead c.args.self.now c.self.view_is c.args.set Schedule c.in-Schedule.is c.args.at c.requires.within

pub take-requires-in-Retry-clause-within : goal.take-requires-in-Retry-clause-within
take-requires-in-Retry-clause-within c = own_within c.self.inside.schedule c.self.inside.retry c.self.inside.dead c.args.self.now c.self.view_is c.args.set Retry c.in-Retry.is c.args.at c.requires.within

pub take-requires-in-Dead-clause-within : goal.take-requires-in-Dead-clause-within
take-requires-in-Dead-clause-within c = own_within c.self.inside.schedule c.self.inside.retry c.self.inside.dead c.args.self.now c.self.view_is c.args.set Dead c.in-Dead.is c.args.at c.requires.within

pub returns-in-Schedule-clause-item : goal.returns-in-Schedule-clause-item
returns-in-Schedule-clause-item c = own_item c.self.inside.schedule c.self.inside.retry c.self.inside.dead c.args.self.now c.self.view_is c.args.set Schedule c.in-Schedule.is c.args.at c.take.result c.take.ensures.entry

pub returns-in-Schedule-clause-list : goal.returns-in-Schedule-clause-list
returns-in-Schedule-clause-list c = own_removed c.self.inside.schedule c.self.inside.retry c.self.inside.dead c.args.self.now c.self.view_is c.args.set Schedule c.in-Schedule.is c.take.new.self.list c.args.at c.requires.within c.take.ensures.list

pub returns-in-Retry-clause-item : goal.returns-in-Retry-clause-item
returns-in-Retry-clause-item c = own_item c.self.inside.schedule c.self.inside.retry c.self.inside.dead c.args.self.now c.self.view_is c.args.set Retry c.in-Retry.is c.args.at c.take-in-Retry.result c.take-in-Retry.ensures.entry

pub returns-in-Retry-clause-list : goal.returns-in-Retry-clause-list
returns-in-Retry-clause-list c = own_removed c.self.inside.schedule c.self.inside.retry c.self.inside.dead c.args.self.now c.self.view_is c.args.set Retry c.in-Retry.is c.take-in-Retry.new.self.list c.args.at c.requires.within c.take-in-Retry.ensures.list

pub returns-in-Dead-clause-item : goal.returns-in-Dead-clause-item
returns-in-Dead-clause-item c = own_item c.self.inside.schedule c.self.inside.retry c.self.inside.dead c.args.self.now c.self.view_is c.args.set Dead c.in-Dead.is c.args.at c.take-in-Dead.result c.take-in-Dead.ensures.entry

pub returns-in-Dead-clause-list : goal.returns-in-Dead-clause-list
returns-in-Dead-clause-list c = own_removed c.self.inside.schedule c.self.inside.retry c.self.inside.dead c.args.self.now c.self.view_is c.args.set Dead c.in-Dead.is c.take-in-Dead.new.self.list c.args.at c.requires.within c.take-in-Dead.ensures.list
