use Rattle.std.proofs.Common.{inl}
use Rattle.sk_log.specs.File.{IsStaged, StoodOrMore, staged}
use Rattle.sk_disk.proofs.Moments.{started, goes_on}
use Rattle.sk_log.proofs.Writing.{all_torn_gate, all_written_gate, staged_stood}
use Rattle.sk_log.proofs.log.open_gate.Goals as goal

pub returns-in_err-write_at-clause-any_moment : goal.returns-in_err-write_at-clause-any_moment
returns-in_err-write_at-clause-any_moment g c = λ events group stages all.
    let D = g.D.Disk in
    let P = StoodOrMore events group in
    let at_start = started D.moment D.left_since c.args.disk.now P (λ image left. inl (staged_stood events (staged group) image (all.staged image (g.met.D.Disk.only_now c.args.disk.now image left)))) in
    let torn = all_torn_gate events group c.args.gate (D.may_leave c.args.disk.now) (D.may_leave c.write_at.new.self) stages all c.write_at.ensures.crash in
    goes_on D.moment D.left_since c.args.disk.now c.args.disk.now c.write_at.new.self P (D.may_leave c.write_at.new.self) at_start c.write_at.ensures.time torn

pub returns-in_err-sync-clause-any_moment : goal.returns-in_err-sync-clause-any_moment
returns-in_err-sync-clause-any_moment g c = λ events group stages all.
    let D = g.D.Disk in
    let P = StoodOrMore events group in
    let at_start = started D.moment D.left_since c.args.disk.now P (λ image left. inl (staged_stood events (staged group) image (all.staged image (g.met.D.Disk.only_now c.args.disk.now image left)))) in
    let torn = all_torn_gate events group c.args.gate (D.may_leave c.args.disk.now) (D.may_leave c.write_at.new.self) stages all c.write_at.ensures.crash in
    let wrote = goes_on D.moment D.left_since c.args.disk.now c.args.disk.now c.write_at.new.self P (D.may_leave c.write_at.new.self) at_start c.write_at.ensures.time torn in
    goes_on D.moment D.left_since c.args.disk.now c.write_at.new.self c.sync.new.self P (D.may_leave c.sync.new.self) wrote c.sync.ensures.time (λ image left. torn image (c.sync.ensures.crash image left))

pub returns-clause-any_moment : goal.returns-clause-any_moment
returns-clause-any_moment g c = λ events group stages all.
    let D = g.D.Disk in
    let P = StoodOrMore events group in
    let at_start = started D.moment D.left_since c.args.disk.now P (λ image left. inl (staged_stood events (staged group) image (all.staged image (g.met.D.Disk.only_now c.args.disk.now image left)))) in
    let torn = all_torn_gate events group c.args.gate (D.may_leave c.args.disk.now) (D.may_leave c.write_at.new.self) stages all c.write_at.ensures.crash in
    let wrote = goes_on D.moment D.left_since c.args.disk.now c.args.disk.now c.write_at.new.self P (D.may_leave c.write_at.new.self) at_start c.write_at.ensures.time torn in
    goes_on D.moment D.left_since c.args.disk.now c.write_at.new.self c.sync.new.self P (D.may_leave c.sync.new.self) wrote c.sync.ensures.time (λ image left. torn image (c.sync.ensures.crash image left))

pub returns-clause-opened : goal.returns-clause-opened
returns-clause-opened g c = λ events group stages all image left.
    let D = g.D.Disk in
    let reads : IsStaged events c.args.gate (staged group) (D.reads c.args.disk.now) =
    record { gate_is = all.gate_is; staged = λ old there. all.staged old (g.met.D.Disk.reads_left c.args.disk.now old there) } in
    all_written_gate events group c.args.gate (D.reads c.args.disk.now) (D.reads c.write_at.new.self) stages reads c.in_ok-write_at.ensures.written image (c.in_ok-sync.ensures.durable image left)
