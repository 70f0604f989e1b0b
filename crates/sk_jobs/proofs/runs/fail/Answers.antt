use Rattle.std.proofs.Common.{subst, sym}
use Rattle.sk_batch.specs.declared.event.Event.TheVariants.{Reported}
use Rattle.sk_seats.specs.Works.{is_held_as}
use Rattle.sk_model.specs.Notify.{and_notify}
use Rattle.sk_model.specs.World.{phase_of}
use Rattle.sk_store.proofs.Steps.{whole}
use Rattle.sk_store.specs.Stored.{Executes, world}
use Rattle.sk_jobs.specs.Callbacks.{counts_failed}
use Rattle.sk_jobs.proofs.Working.{found_at, found_is}
use Rattle.sk_jobs.proofs.runs.fail.Goals as goal

pub returns : goal.returns
returns c =
    let old = c.args.store.now in
    let text = c.args.text.now in
    let phase = phase_of (world old) c.args.seat in
    let found = found_at c.get.result.now phase (is_held_as text) c.in-Ok.at c.get.ensures.is c.in-Ok.ensures.found in
    let ran = whole old c.begin.new.self c.fail_open-done.new.store c.close.new.self (λ v. and_notify Reported v text counts_failed) c.fail_open-done.result c.close.result
    c.requires.ready c.begin.ensures c.fail_open-done.ensures.step c.fail_open-done.ensures.ok c.close.ensures.same c.close.ensures.ok c.close.ensures.err in
    subst (λ o. Executes old o c.close.result c.close.new.self) (sym (found_is phase (is_held_as text) c.in-Ok.at (λ ident. and_notify Reported (world old) text counts_failed) found)) ran
