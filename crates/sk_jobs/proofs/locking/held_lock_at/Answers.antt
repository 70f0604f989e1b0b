use Rattle.std.proofs.Common.{◌∙◌, ap, sym}
use Rattle.sk_seats.specs.Works.{is_held_as}
use Rattle.sk_seats.proofs.Working.{first_is}
use Rattle.sk_model.proofs.Tools.Outcomes.{if_ok}
use Rattle.sk_model.specs.Unique.{unlocks}
use Rattle.sk_model.specs.World.{phase_of}
use Rattle.sk_store.specs.Stored.{world}
use Rattle.sk_jobs.proofs.Working.{found_in, held_text}
use Rattle.sk_jobs.proofs.locking.held_lock_at.Goals as goal

pub returns : goal.returns
returns c =
    let text = c.args.text.now in
    let phase = phase_of (world c.args.store.now) c.args.seat in
    let found = found_in phase c.in-Joined.field-0 c.in-Joined.works (is_held_as text) c.args.at (sym c.get.ensures.is ∙ c.in-Joined.is) c.requires in
    let same = held_text text c.in-Joined.works c.get-in-Joined.result.now (first_is (is_held_as text) c.in-Joined.works c.get-in-Joined.result.now c.args.at found c.get-in-Joined.ensures) in
    if_ok _ _ c.held_lock.result (λ lock is. is ∙ ap (unlocks c.args.until) same) c.held_lock.ensures
