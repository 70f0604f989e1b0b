use Rattle.std.proofs.Common.{◌≡◌, ◌≤◌, ◌^◌, ℕ, List, length, sym, subst, ap}
use Rattle.std.specs.Prelude.{Err}
use Rattle.sk_log.specs.Reading.{Blames, IsDamaged, IsOpened}
use Rattle.sk_log.specs.declared.fault.LogFault.TheVariants.{Damaged}
use Rattle.sk_model.specs.Event.{world_after}
use Rattle.sk_model.specs.World.{World, first}
use Rattle.sk_aof.specs.Accepted.{Refuses, Runs}
use Rattle.sk_aof.specs.Stored.{IsSameInTime, IsStored}
use Rattle.sk_aof.proofs.Reopening.{always_a_log, holds_store, never_damaged, outside, stored_of}
use Rattle.sk_aof.proofs.opening.open.Goals as goal

pub returns-in-Ok-clause-stored : goal.returns-in-Ok-clause-stored
returns-in-Ok-clause-stored g c =
    let D = g.D.Disk in
    let reads = D.reads c.args.disk.now in
    let left = D.may_leave c.open.new.disk in
    let opened = subst (λ (w : World). IsOpened Runs reads left c.in-Ok.log w c.open.new.replayer) c.new-replay.ensures c.in-Ok.ensures.opened in
    subst (λ (w : World). IsStored c.args.limits reads left c.in-Ok.log w) (sym c.into_core.ensures) (stored_of c.args.limits reads left c.in-Ok.log c.open.new.replayer opened)

pub returns-in-Ok-clause-holds : goal.returns-in-Ok-clause-holds
returns-in-Ok-clause-holds g c = λ steps h.
    let D = g.D.Disk in
    let reads = D.reads c.args.disk.now in
    let left = D.may_leave c.open.new.disk in
    let opened = subst (λ (w : World). IsOpened Runs reads left c.in-Ok.log w c.open.new.replayer) c.new-replay.ensures c.in-Ok.ensures.opened in
    subst (λ (w : World). IsSameInTime (world_after (first c.args.limits) steps) w) (sym c.into_core.ensures) (holds_store c.args.limits steps reads h left c.in-Ok.log c.open.new.replayer opened)

pub returns-in-Err-clause-holds : goal.returns-in-Err-clause-holds
returns-in-Err-clause-holds g c = λ steps h.
    let reads = g.D.Disk.reads c.args.disk.now in
    outside c.in-Err.fault
    (λ e. always_a_log c.args.limits steps reads h (c.in-Err.ensures.not_a_log (ap Err e)))
    (λ at e. never_damaged c.args.limits steps reads h
    (subst (λ (w : World). (file : List ℕ) → reads file → length file ≤ 2 ^ 60 → Blames Runs Refuses w file) c.new-replay.ensures (c.in-Err.ensures.blamed at (ap Err e))))
    (λ e. c.in-Err.ensures.room (ap Err e))

pub returns-in-Err-clause-damaged : goal.returns-in-Err-clause-damaged
returns-in-Err-clause-damaged g c = λ at e.
    let same : c.in-Err.fault ≡ Damaged at = cc e in
    subst (λ (w : World). IsDamaged Runs Refuses (g.D.Disk.reads c.args.disk.now) at w) c.new-replay.ensures (c.in-Err.ensures.damaged at (ap Err same))
