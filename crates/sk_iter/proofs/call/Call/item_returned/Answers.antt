use Rattle.std.proofs.Common.{◌+◌, subst, Ok, Err}
use Rattle.sk_iter.specs.Deeds.{save_if}
use Rattle.sk_iter.specs.Performs.{Performs}
use Rattle.sk_worker.specs.declared.job.Outcome.{Outcome}
use Rattle.sk_worker.specs.declared.job.Outcome.TheVariants.{Returned}
use Rattle.sk_iter.proofs.Performing.{performs_as, performs_err}
use Rattle.sk_iter.proofs.call.Call.item_returned.Goals as goal

pub returns-in-Ok-clause-saved : goal.returns-in-Ok-clause-saved
returns-in-Ok-clause-saved g c = λ told.
    subst (λ b. Performs {T = Outcome} (g.L.Link.carried c.args.link.now c.save_behind.new.link) told told c.args.self.now.jid.now
    (save_if b c.args.self.now.jid.now (c.args.self.now.cursor + (c.args.n + 1))) (Ok Returned)) (c.is_saved-due.ensures)
    (performs_as {T = Unit {0}} {U = Outcome} (g.L.Link.carried c.args.link.now c.save_behind.new.link) told told c.args.self.now.jid.now
    (save_if (c.is_saved-due.result) c.args.self.now.jid.now (c.args.self.now.cursor + (c.args.n + 1))) tt Returned (c.in-Ok.ensures told))

pub returns-in-Err-clause-saved : goal.returns-in-Err-clause-saved
returns-in-Err-clause-saved g c = λ told.
    subst (λ b. Performs {T = Outcome} (g.L.Link.carried c.args.link.now c.save_behind.new.link) told told c.args.self.now.jid.now
    (save_if b c.args.self.now.jid.now (c.args.self.now.cursor + (c.args.n + 1))) (Err c.in-Err.fault)) (c.is_saved-due.ensures)
    (performs_err (Unit {0}) Outcome (g.L.Link.carried c.args.link.now c.save_behind.new.link) told told c.args.self.now.jid.now
    (save_if (c.is_saved-due.result) c.args.self.now.jid.now (c.args.self.now.cursor + (c.args.n + 1))) c.in-Err.fault (c.in-Err.ensures told))
