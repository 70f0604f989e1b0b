use Rattle.sk_iter.proofs.Stages.{went}
use Rattle.sk_iter.proofs.call.Call.go.Goals as goal

pub returns-in-Ok-clause-went : goal.returns-in-Ok-clause-went
returns-in-Ok-clause-went g c =
    let told = g.I.Items.told c.run_items.new.items in
    went (g.L.Link.carried c.args.link.now c.run_items.new.link) (g.L.Link.carried c.run_items.new.link c.stop.new.link) (g.L.Link.carried c.args.link.now c.stop.new.link)
    (g.I.Items.told c.args.items.now) told told (λ cs ds p q. g.met.L.Link.carried_more c.args.link.now c.run_items.new.link c.stop.new.link cs ds p q)
    c.args.self.now c.in-Ok.stop c.stop.result c.in-Ok.ensures.ran c.stop.ensures.end (c.stop.ensures.saved told)
