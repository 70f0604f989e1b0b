use Rattle.std.proofs.Common.{ap, ◌∙◌}
use Rattle.sk_cmd.specs.declared.argument.Scored.TheVariants.{Schedule, Retry, Dead}
use Rattle.sk_undo.specs.Versions.{closed}
use Rattle.sk_places.proofs.JobSets.{own_emptied, own_items}
use Rattle.sk_places.proofs.job_sets.JobSets.take_all.Goals as goal

pub returns-in-Schedule-clause-own : goal.returns-in-Schedule-clause-own
returns-in-Schedule-clause-own c = c.all_of.ensures.own ∙ ap closed (own_items c.self.inside.schedule c.self.inside.retry c.self.inside.dead c.args.self.now c.self.view_is c.args.set Schedule c.in-Schedule.is)

pub returns-in-Schedule-clause-rest : goal.returns-in-Schedule-clause-rest
returns-in-Schedule-clause-rest c = own_emptied c.self.inside.schedule c.self.inside.retry c.self.inside.dead c.args.self.now c.self.view_is c.args.set Schedule c.in-Schedule.is c.all_of.new.items.list c.all_of.ensures.rest

pub returns-in-Retry-clause-own : goal.returns-in-Retry-clause-own
returns-in-Retry-clause-own c = c.all_of-in-Retry.ensures.own ∙ ap closed (own_items c.self.inside.schedule c.self.inside.retry c.self.inside.dead c.args.self.now c.self.view_is c.args.set Retry c.in-Retry.is)

pub returns-in-Retry-clause-rest : goal.returns-in-Retry-clause-rest
returns-in-Retry-clause-rest c = own_emptied c.self.inside.schedule c.self.inside.retry c.self.inside.dead c.args.self.now c.self.view_is c.args.set Retry c.in-Retry.is c.all_of-in-Retry.new.items.list c.all_of-in-Retry.ensures.rest

pub returns-in-Dead-clause-own : goal.returns-in-Dead-clause-own
returns-in-Dead-clause-own c = c.all_of-in-Dead.ensures.own ∙ ap closed (own_items c.self.inside.schedule c.self.inside.retry c.self.inside.dead c.args.self.now c.self.view_is c.args.set Dead c.in-Dead.is)

pub returns-in-Dead-clause-rest : goal.returns-in-Dead-clause-rest
returns-in-Dead-clause-rest c = own_emptied c.self.inside.schedule c.self.inside.retry c.self.inside.dead c.args.self.now c.self.view_is c.args.set Dead c.in-Dead.is c.all_of-in-Dead.new.items.list c.all_of-in-Dead.ensures.rest
