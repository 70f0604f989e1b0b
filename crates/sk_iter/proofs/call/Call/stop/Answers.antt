use Rattle.std.proofs.Common.{◌+◌, not, ap, subst, Ok, Err}
use Rattle.sk_iter.specs.Deeds.{save_if}
use Rattle.sk_iter.specs.Performs.{Performs}
use Rattle.sk_iter.specs.declared.iter_end.IterEnd.{IterEnd}
use Rattle.sk_iter.proofs.Performing.{performs_as, performs_err}
use Rattle.sk_iter.proofs.call.Call.stop.Goals as goal

pub returns-in-Ok-clause-saved : goal.returns-in-Ok-clause-saved
returns-in-Ok-clause-saved g c = λ told.
    subst (λ b. Performs {T = IterEnd} (g.L.Link.carried c.args.link.now c.save_behind.new.link) told told c.args.self.now.jid.now
    (save_if b c.args.self.now.jid.now (c.args.self.now.cursor + c.args.stop.returned)) (Ok c.args.stop.end)) (ap not c.is_saved-due.ensures)
    (performs_as {T = Unit {0}} {U = IterEnd} (g.L.Link.carried c.args.link.now c.save_behind.new.link) told told c.args.self.now.jid.now
    (save_if (not c.is_saved-due.result) c.args.self.now.jid.now (c.args.self.now.cursor + c.args.stop.returned)) tt c.args.stop.end (c.in-Ok.ensures told))

pub returns-in-Err-clause-saved : goal.returns-in-Err-clause-saved
returns-in-Err-clause-saved g c = λ told.
    subst (λ b. Performs {T = IterEnd} (g.L.Link.carried c.args.link.now c.save_behind.new.link) told told c.args.self.now.jid.now
    (save_if b c.args.self.now.jid.now (c.args.self.now.cursor + c.args.stop.returned)) (Err c.in-Err.fault)) (ap not c.is_saved-due.ensures)
    (performs_err (Unit {0}) IterEnd (g.L.Link.carried c.args.link.now c.save_behind.new.link) told told c.args.self.now.jid.now
    (save_if (not c.is_saved-due.result) c.args.self.now.jid.now (c.args.self.now.cursor + c.args.stop.returned)) c.in-Err.fault (c.in-Err.ensures told))
