use Rattle.sk_cmd.specs.declared.argument.Scored.TheVariants.{Schedule, Retry, Dead}
use Rattle.sk_places.proofs.JobSets.{own_at, own_inserted}
use Rattle.sk_places.proofs.job_sets.JobSets.insert.Goals as goal

pub insert-requires-clause-within : goal.insert-requires-clause-within
insert-requires-clause-within c = own_at c.self.inside.schedule c.self.inside.retry c.self.inside.dead c.args.self.now c.self.view_is c.args.set Schedule c.in-Schedule.is c.args.at c.requires.within

pub insert-requires-in-Retry-clause-within : goal.insert-requires-in-Retry-clause-within
insert-requires-in-Retry-clause-within c = own_at c.self.inside.schedule c.self.inside.retry c.self.inside.dead c.args.self.now c.self.view_is c.args.set Retry c.in-Retry.is c.args.at c.requires.within

pub insert-requires-in-Dead-clause-within : goal.insert-requires-in-Dead-clause-within
insert-requires-in-Dead-clause-within c = own_at c.self.inside.schedule c.self.inside.retry c.self.inside.dead c.args.self.now c.self.view_is c.args.set Dead c.in-Dead.is c.args.at c.requires.within

pub returns-in-Schedule-clause-list : goal.returns-in-Schedule-clause-list
returns-in-Schedule-clause-list c = own_inserted c.self.inside.schedule c.self.inside.retry c.self.inside.dead c.args.self.now c.self.view_is c.args.set Schedule c.in-Schedule.is c.insert.new.self.list c.args.at c.args.item c.requires.within c.insert.ensures.list

pub returns-in-Retry-clause-list : goal.returns-in-Retry-clause-list
returns-in-Retry-clause-list c = own_inserted c.self.inside.schedule c.self.inside.retry c.self.inside.dead c.args.self.now c.self.view_is c.args.set Retry c.in-Retry.is c.insert-in-Retry.new.self.list c.args.at c.args.item c.requires.within c.insert-in-Retry.ensures.list

pub returns-in-Dead-clause-list : goal.returns-in-Dead-clause-list
returns-in-Dead-clause-list c = own_inserted c.self.inside.schedule c.self.inside.retry c.self.inside.dead c.args.self.now c.self.view_is c.args.set Dead c.in-Dead.is c.insert-in-Dead.new.self.list c.args.at c.args.item c.requires.within c.insert-in-Dead.ensures.list
