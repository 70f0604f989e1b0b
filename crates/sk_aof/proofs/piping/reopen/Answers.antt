use Rattle.std.proofs.Common.{◌≡◌, [], ◌∷◌, inr, ap}
use Rattle.std.specs.Prelude.{Err}
use Rattle.sk_log.specs.declared.fault.LogFault.TheVariants.{Damaged, Disk, NotALog}
use Rattle.sk_aof.specs.Cuts.{cut_bodies}
use Rattle.sk_aof.specs.Causes.{IsHindrance}
use Rattle.sk_aof.proofs.Hindering.{is_hindrance, not_shut, rose_on}
use Rattle.sk_aof.proofs.piping.reopen.Goals as goal

pub returns-in-Ok-clause-ready : goal.returns-in-Ok-clause-ready
returns-in-Ok-clause-ready g c = record {
  gate = c.in_ok-log.log;
  world = c.in_ok-log.core;
  disk = c.open.new.disk;
  opened = record { only_read = c.in_ok-log.ensures.only_read; stored = c.in_ok-log.ensures.stored; holds = c.in_ok-log.ensures.holds };
  cuts = c.in-Ok.ensures.ok;
  plain = c.in-Ok.ensures.plain;
}

pub returns-in-Err-clause-stops : goal.returns-in-Err-clause-stops
returns-in-Err-clause-stops g c = inr (record {
  gate = c.in_ok-log.log;
  world = c.in_ok-log.core;
  disk = c.open.new.disk;
  opened = record { only_read = c.in_ok-log.ensures.only_read; stored = c.in_ok-log.ensures.stored; holds = c.in_ok-log.ensures.holds };
  left = c.in-Err.ensures.any_moment;
  last = c.cut_all.new.core;
  stop = c.in-Err.ensures.err;
})

pub returns-in-Err-clause-not_a_log : goal.returns-in-Err-clause-not_a_log
returns-in-Err-clause-not_a_log g c = λ is image reads begins.
    let stop = c.in-Err.ensures.err in
    let why : IsHindrance c.in-Err.fault = is_hindrance stop.gate (cut_bodies (stop.seat ∷ [])) c.in-Err.fault stop.cause in
    let same : c.in-Err.fault ≡ NotALog = cc is in
    absurd ((not_shut c.in-Err.fault why).0 same)

pub returns-in-Err-clause-damaged : goal.returns-in-Err-clause-damaged
returns-in-Err-clause-damaged g c = λ at is.
    let stop = c.in-Err.ensures.err in
    let why : IsHindrance c.in-Err.fault = is_hindrance stop.gate (cut_bodies (stop.seat ∷ [])) c.in-Err.fault stop.cause in
    let same : c.in-Err.fault ≡ Damaged at = cc is in
    absurd ((not_shut c.in-Err.fault why).1 at same)

pub returns-in-Err-clause-disk : goal.returns-in-Err-clause-disk
returns-in-Err-clause-disk g c = λ is.
    let faults = g.D.Disk.disk_faults in
    let same : c.in-Err.fault ≡ Disk = cc is in
    rose_on (faults c.args.disk.now) (faults c.open.new.disk) (faults c.cut_all.new.disk) c.open.ensures.later (c.in-Err.ensures.disk (ap Err same))
