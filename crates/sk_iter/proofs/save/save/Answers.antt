use Rattle.sk_iter.proofs.save.save.Goals as goal

pub returns-in-Ok : goal.returns-in-Ok
returns-in-Ok g c = λ told. c.send.ensures c.args.jid.now c.args.next c.in-Ok.ensures told
