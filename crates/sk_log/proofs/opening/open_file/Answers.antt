use Rattle.std.proofs.Common.{ℕ, List, sym, subst}
use Rattle.std.specs.Bool.{MatchBool}
use Rattle.sk_log.specs.File.{Begins}
use Rattle.sk_log.specs.Reading.{Begun, IsOpened}
use Rattle.sk_log.proofs.Reaching.{opened}
use Rattle.sk_log.proofs.opening.open_file.Goals as goal

-- what a crash leaves in the end was read at the start
pub returns-clause-opened : goal.returns-clause-opened
returns-clause-opened g c =
    let D = g.D.Disk in
    let reads = D.reads c.args.disk.now in
    subst (λ (n : ℕ). IsOpened g.R.Replayer.runs reads (D.may_leave c.run_all.new.disk) n c.args.replayer.now c.run_all.new.replayer) (sym c.at.ensures)
    (opened g.R.Replayer.runs (Begun (D.reads c.begins.new.disk)) reads (D.may_leave c.run_all.new.disk) c.in_ok-run_all.field-0 c.args.replayer.now c.run_all.new.replayer
    c.in_ok-run_all.ensures.opened
    (λ image read.
    let later = c.sync.ensures.same.forth image read in
    (c.in_ok-begins.ensures.only_read.same.forth image later, subst (λ b. MatchBool b (Begins image) (Begins image → ⊥)) c.if-not-branch.false (c.in_ok-begins.ensures.is image later)))
    (λ image left. c.in_ok-sync.ensures.durable image (c.in_ok-begins.ensures.only_read.fewer image (c.in_ok-run_all.ensures.only_read.fewer image left))))

pub returns-in_err-run_all-clause-damaged : goal.returns-in_err-run_all-clause-damaged
returns-in_err-run_all-clause-damaged g c = λ at e.
    let among : (image : List ℕ) → g.D.Disk.reads c.args.disk.now image → Begun (g.D.Disk.reads c.begins.new.disk) image = λ image read.
    let later = c.sync.ensures.same.forth image read in
    (c.in_ok-begins.ensures.only_read.same.forth image later, subst (λ b. MatchBool b (Begins image) (Begins image → ⊥)) c.if-not-branch.false (c.in_ok-begins.ensures.is image later)) in
    let found = c.in_err-run_all.ensures.damaged at (cc (rw e at c.from_residual-in_err-run_all.ensures.1)) in
    record {
      bodies = found.bodies;
      state = found.state;
      ran = found.ran;
      each = λ image read short. found.each image (among image read) short;
    }
