use Rattle.std.proofs.Common.{subst, sym, Ok}
use Rattle.sk_iter.specs.Deeds.{save_if}
use Rattle.sk_iter.specs.Performs.{Performs}
use Rattle.sk_iter.proofs.Performing.{performs_nothing}
use Rattle.sk_iter.proofs.save.save_if.Goals as goal

pub returns-then-due : goal.returns-then-due
returns-then-due g c = λ told.
    subst (λ b. Performs {T = Unit {0}} (g.L.Link.carried c.args.link.now c.save.new.link) told told c.args.jid.now (save_if b c.args.jid.now c.args.next) c.save.result)
    (sym c.if-due.true) (c.save.ensures told)

pub returns : goal.returns
returns g c = λ told.
    let done : Unit {0} = tt in
    subst (λ b. Performs {T = Unit {0}} (g.L.Link.carried c.args.link.now c.args.link.now) told told c.args.jid.now (save_if b c.args.jid.now c.args.next) (Ok done))
    (sym c.if-due.false) (performs_nothing {T = Unit {0}} (g.L.Link.carried c.args.link.now c.args.link.now) told c.args.jid.now done (g.met.L.Link.carried_none c.args.link.now))
