use Rattle.sk_seats.specs.Works.{is_held_as}
use Rattle.sk_seats.proofs.Working.{first_is}
use Rattle.sk_jobs.proofs.Working.{found_in, held_text}
use Rattle.sk_jobs.proofs.releases.held_payload.Goals as goal

pub returns : goal.returns
returns c =
    let found = found_in c.args.phase.now c.in-Joined.field-0 c.in-Joined.works (is_held_as c.args.text.now) c.args.at c.in-Joined.is c.requires in
    held_text c.args.text.now c.in-Joined.works c.get.result.now (first_is (is_held_as c.args.text.now) c.in-Joined.works c.get.result.now c.args.at found c.get.ensures)
