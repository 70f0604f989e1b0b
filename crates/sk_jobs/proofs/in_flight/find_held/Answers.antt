use Rattle.std.proofs.Common.{◌∙◌, ap, position}
use Rattle.sk_seats.specs.Works.{is_held_as}
use Rattle.sk_jobs.proofs.Working.{none_is}
use Rattle.sk_jobs.proofs.in_flight.find_held.Goals as goal

pub returns-in-Joined-clause-refused : goal.returns-in-Joined-clause-refused
returns-in-Joined-clause-refused c = none_is c.args.phase.now c.in-Joined.field-0 c.in-Joined.works (is_held_as c.args.text.now) c.find_held.result c.ok_or.result c.in-Joined.is (c.find_held.ensures.is ∙ ap (λ text. position (is_held_as text) c.in-Joined.works) c.bytes.ensures) c.ok_or.ensures.value
