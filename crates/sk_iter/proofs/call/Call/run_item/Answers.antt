use Rattle.std.proofs.Common.{◌+◌, ◌∷◌, [], subst}
use Rattle.sk_base.specs.Outside.{Takes}
use Rattle.sk_worker.specs.declared.job.Outcome.{Outcome}
use Rattle.sk_worker.specs.declared.job.Outcome.TheVariants.{Raised, Returned}
use Rattle.sk_iter.specs.Event.{ItemRun}
use Rattle.sk_iter.specs.Stages.{pace_of}
use Rattle.sk_iter.proofs.Stages.{item_ran, performs_item}
use Rattle.sk_iter.proofs.call.Call.run_item.Goals as goal

pub returns-in-Ok-Returned-clause-ran : goal.returns-in-Ok-Returned-clause-ran
returns-in-Ok-Returned-clause-ran g c =
    let before = g.I.Items.told c.args.items.now in
    let after = g.I.Items.told c.item.new.self in
    let index = c.args.self.now.cursor + c.args.n in
    let takes : Takes {T = ItemRun} before (record { index = index; outcome = Returned } ∷ []) after =
    subst (λ (o : Outcome). Takes {T = ItemRun} before (record { index = index; outcome = o } ∷ []) after) c.in-Ok-Returned.field-0-is c.in-Ok-Returned.ensures.ran in
    item_ran (g.L.Link.carried c.args.link.now c.args.link.now) (g.L.Link.carried c.args.link.now c.item_returned.new.link) (g.L.Link.carried c.args.link.now c.item_returned.new.link)
    before after after (λ cs ds p q. g.met.L.Link.carried_more c.args.link.now c.args.link.now c.item_returned.new.link cs ds p q)
    (pace_of c.args.self.now) c.args.n c.item_returned.result (g.met.L.Link.carried_none c.args.link.now) takes
    c.item_returned.ensures.returned (c.item_returned.ensures.saved after)

pub returns-in-Ok-Raised-clause-ran : goal.returns-in-Ok-Raised-clause-ran
returns-in-Ok-Raised-clause-ran g c =
    let before = g.I.Items.told c.args.items.now in
    let after = g.I.Items.told c.item.new.self in
    let index = c.args.self.now.cursor + c.args.n in
    let takes : Takes {T = ItemRun} before (record { index = index; outcome = Raised c.in-Ok-Raised.it } ∷ []) after =
    subst (λ (o : Outcome). Takes {T = ItemRun} before (record { index = index; outcome = o } ∷ []) after) c.in-Ok-Raised.field-0-is c.in-Ok-Raised.ensures.ran in
    performs_item (g.L.Link.carried c.args.link.now c.args.link.now) before after c.args.self.now.jid.now
    (record { index = index; outcome = Raised c.in-Ok-Raised.it }) (g.met.L.Link.carried_none c.args.link.now) takes
