use Rattle.sk_seats.specs.Works.{is_buried_as}
use Rattle.sk_jobs.proofs.Working.{none_is}
use Rattle.sk_jobs.proofs.in_flight.find_buried.Goals as goal

pub returns-in-Joined-clause-refused : goal.returns-in-Joined-clause-refused
returns-in-Joined-clause-refused c = none_is c.args.phase.now c.in-Joined.field-0 c.in-Joined.works (is_buried_as c.args.next.now) c.find_buried.result c.ok_or.result c.in-Joined.is c.find_buried.ensures.is c.ok_or.ensures.value
