use Rattle.std.proofs.Common.{w32, to_z, of_z, ℤ, min, sym, subst, rules}
use Rattle.std.proofs.lemmas.Int.{to_z-of_z}
use mir.Val.{SFits}
use Rattle.sk_base.specs.Score.{last_moment}
use Rattle.sk_cron.specs.Slot.{IsLastSlot}
use Rattle.sk_poller.specs.Event.{slot}
use Rattle.sk_poller.specs.Stage.{Step, looks, watch_of}
use Rattle.sk_poller.specs.declared.poller.Loop.{Loop}
use Rattle.sk_poller.specs.declared.stage.Stage.TheVariants.{Looking}
use Rattle.sk_poller.proofs.poller.Poller.look.Goals as goal

pub returns : goal.returns
returns c =
    let fits : SFits w32 c.args.self.now.offset = search rules in
    let loops = c.args.loops in
    let moment = min c.args.now last_moment in
    let last = c.last_slot-last.result in
    let at_hand = subst (λ (l : Loop). IsLastSlot l.cron (to_z w32 (of_z w32 c.args.self.now.offset)) moment last) c.first.ensures.first c.last_slot-last.ensures in
    let is = subst (λ (o : ℤ). IsLastSlot loops.first.cron o moment last) (to_z-of_z w32 c.args.self.now.offset fits) at_hand in
    (last, subst (λ s. Step (watch_of c.args.self.now) (Looking c.args.now loops c.args.n) (slot last) s) (sym c.looked.ensures) (looks c.args.now loops c.args.n last is))
