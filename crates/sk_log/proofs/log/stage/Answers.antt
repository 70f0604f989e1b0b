use Rattle.std.proofs.Common.{length}
use Rattle.sk_log.specs.File.{Stood}
use Rattle.sk_disk.proofs.Moments.{started, goes_on}
use Rattle.sk_log.proofs.Writing.{all_torn_behind, all_written_behind, narrows_at}
use Rattle.sk_log.proofs.log.stage.Goals as goal

pub returns-in_err-write_at-clause-any_moment : goal.returns-in_err-write_at-clause-any_moment
returns-in_err-write_at-clause-any_moment g c = λ events is_at.
    let D = g.D.Disk in
    let at_start = started D.moment D.left_since c.args.disk.now (Stood events) (λ image left. is_at.stood image (g.met.D.Disk.only_now c.args.disk.now image left)) in
    let torn = all_torn_behind events c.args.gate (length c.args.bytes.now) (D.may_leave c.args.disk.now) (D.may_leave c.write_at.new.self) is_at c.write_at.ensures.crash in
    goes_on D.moment D.left_since c.args.disk.now c.args.disk.now c.write_at.new.self (Stood events) (D.may_leave c.write_at.new.self) at_start c.write_at.ensures.time torn

-- a sync takes nothing away but images
pub returns-in_err-sync-clause-any_moment : goal.returns-in_err-sync-clause-any_moment
returns-in_err-sync-clause-any_moment g c = λ events is_at.
    let D = g.D.Disk in
    let at_start = started D.moment D.left_since c.args.disk.now (Stood events) (λ image left. is_at.stood image (g.met.D.Disk.only_now c.args.disk.now image left)) in
    let torn = all_torn_behind events c.args.gate (length c.args.bytes.now) (D.may_leave c.args.disk.now) (D.may_leave c.write_at.new.self) is_at c.write_at.ensures.crash in
    let wrote = goes_on D.moment D.left_since c.args.disk.now c.args.disk.now c.write_at.new.self (Stood events) (D.may_leave c.write_at.new.self) at_start c.write_at.ensures.time torn in
    goes_on D.moment D.left_since c.args.disk.now c.write_at.new.self c.sync.new.self (Stood events) (D.may_leave c.sync.new.self) wrote c.sync.ensures.time (λ image left. torn image (c.sync.ensures.crash image left))

pub returns-clause-any_moment : goal.returns-clause-any_moment
returns-clause-any_moment g c = λ events is_at.
    let D = g.D.Disk in
    let at_start = started D.moment D.left_since c.args.disk.now (Stood events) (λ image left. is_at.stood image (g.met.D.Disk.only_now c.args.disk.now image left)) in
    let torn = all_torn_behind events c.args.gate (length c.args.bytes.now) (D.may_leave c.args.disk.now) (D.may_leave c.write_at.new.self) is_at c.write_at.ensures.crash in
    let wrote = goes_on D.moment D.left_since c.args.disk.now c.args.disk.now c.write_at.new.self (Stood events) (D.may_leave c.write_at.new.self) at_start c.write_at.ensures.time torn in
    goes_on D.moment D.left_since c.args.disk.now c.write_at.new.self c.sync.new.self (Stood events) (D.may_leave c.sync.new.self) wrote c.sync.ensures.time (λ image left. torn image (c.sync.ensures.crash image left))

-- what a read gives after the write is all that a crash leaves after the sync
pub returns-clause-staged : goal.returns-clause-staged
returns-clause-staged g c = λ events is_at.
    let D = g.D.Disk in
    record {
      gate_is = is_at.gate_is;
      staged = λ image left. all_written_behind events c.args.gate c.args.bytes.now (D.reads c.args.disk.now) (D.reads c.write_at.new.self)
          (narrows_at events c.args.gate (D.may_leave c.args.disk.now) (D.reads c.args.disk.now) is_at (g.met.D.Disk.reads_left c.args.disk.now))
          c.in_ok-write_at.ensures.written image (c.in_ok-sync.ensures.durable image left);
    }
