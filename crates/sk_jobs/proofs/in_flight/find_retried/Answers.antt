use Rattle.sk_seats.specs.Works.{is_retried_as}
use Rattle.sk_jobs.proofs.Working.{none_is}
use Rattle.sk_jobs.proofs.in_flight.find_retried.Goals as goal

pub returns-in-Joined-clause-refused : goal.returns-in-Joined-clause-refused
returns-in-Joined-clause-refused c = none_is c.args.phase.now c.in-Joined.field-0 c.in-Joined.works (is_retried_as c.args.next.now) c.find_retried.result c.ok_or.result c.in-Joined.is c.find_retried.ensures.is c.ok_or.ensures.value
