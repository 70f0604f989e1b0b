use Rattle.std.proofs.Common.{subst, sym, Err, ◌∷◌, []}
use Rattle.sk_iter.specs.Deeds.{saves}
use Rattle.sk_iter.specs.Performs.{Performs}
use Rattle.sk_iter.proofs.Saving.{not_saved, saved}
use Rattle.sk_iter.proofs.save.send.Goals as goal

pub returns-in-Ok : goal.returns-in-Ok
returns-in-Ok g c = λ jid next e told. saved jid next c.args.words.now e (g.L.Link.carried c.args.link.now c.ask.new.link) told _ c.in-Ok.ensures.asked

pub returns : goal.returns
returns g c = λ jid next e told.
    subst (λ f. Performs {T = Unit {0}} (g.L.Link.carried c.args.link.now c.ask.new.link) told told jid (saves jid next ∷ []) (Err f)) (sym c.fault_of.ensures)
    (not_saved jid next c.args.words.now e (g.L.Link.carried c.args.link.now c.ask.new.link) told c.in-Err.fault c.in-Err.ensures.asked)
