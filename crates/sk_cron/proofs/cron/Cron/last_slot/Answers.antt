use Rattle.std.proofs.Common.{◌≡◌, min, subst, to_z, of_z, w32}
use Rattle.std.proofs.lemmas.Int.{to_z-of_z}
use Rattle.sk_base.specs.Score.{last_moment}
use Rattle.sk_cron.specs.Slot.{IsLastSlot}
use Rattle.sk_cron.proofs.cron.Cron.last_slot.Goals as goal

-- src/slot.rt:39:5
pub returns : goal.returns
returns c =
    let z : to_z w32 (of_z w32 c.args.offset) ≡ c.args.offset = to_z-of_z w32 c.args.offset c.ranges.offset in
    subst (λ o. IsLastSlot c.args.self.now o (min c.args.now last_moment) c.slot_before.result) z (subst (λ n. IsLastSlot c.args.self.now (to_z w32 (of_z w32 c.args.offset)) n c.slot_before.result) c.min.ensures c.slot_before.ensures)
