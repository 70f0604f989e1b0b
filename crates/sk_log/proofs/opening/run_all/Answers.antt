use Rattle.std.proofs.Common.{refl, ◌≡◌, ◌+◌, [], length, drop, arith, sym, subst, ℕ}
use Rattle.sk_log.specs.Reading.{Begun, HasFront, HasRun, IsBroken, IsDamaged, IsWhole}
use Rattle.sk_log.specs.Window.{Piece, Stands}
use Rattle.sk_log.proofs.OnlyReading.{nothing_read, read_on}
use Rattle.sk_log.proofs.Reaching.{no_bodies, reach_broken, reach_end, reach_refused, run_on}
use Rattle.sk_log.proofs.opening.run_all.Goals as goal

pub loop-at-init : goal.loop-at-init
loop-at-init g c =
    let D = g.D.Disk in
    record {
      only_read = nothing_read D.reads D.may_leave D.moment D.left_since c.args.disk.now (λ image left. g.met.D.Disk.only_now c.args.disk.now image left);
      reached = record { bodies = []; ran = refl; each = λ image is. no_bodies image is.1 };
      shows = λ image reads. subst (λ (p : Piece). Stands image p) (sym c.in_ok-window.ensures) refl;
      later = omega arith;
    }

pub returns-in_err-window-clause-only_read : goal.returns-in_err-window-clause-only_read
returns-in_err-window-clause-only_read g c =
    let D = g.D.Disk in
    nothing_read D.reads D.may_leave D.moment D.left_since c.args.disk.now (λ image left. g.met.D.Disk.only_now c.args.disk.now image left)

pub loop-at-preserved : goal.loop-at-preserved
loop-at-preserved g c =
    let D = g.D.Disk in
    let runs = g.R.Replayer.runs in
    let inv = c.loop-at.invariant in
    let files = Begun (D.reads c.args.disk.now) in
    let body = c.in-Whole.body.items in
    let ran : runs c.loop-at.replayer body c.replay.new.replayer = subst (λ b. runs c.loop-at.replayer b c.replay.new.replayer) c.deref.ensures.value c.in_ok-replay-in-Whole.ensures.ran in
    let next = run_on runs files c.loop-at.at c.args.replayer.now c.loop-at.replayer inv.reached body c.replay.new.replayer ran
    (λ image is. let found : IsWhole body (drop c.loop-at.at image) = rw c.in-Whole.is at (c.in_ok-look.ensures.is image (inv.only_read.same.forth image is.0)) in found) in
    let at_is : c.saturating_add-at.result ≡ c.loop-at.at + (5 + length body) = omega (arith, c.saturating_add-at.ensures, c.len.ensures, c.loop-at-test.true, c.in-Whole.body.small) in
    record {
      only_read = read_on D.reads D.may_leave D.moment D.left_since c.args.disk.now c.loop-at.disk c.look.new.disk inv.only_read c.in_ok-look.ensures.only_read;
      reached = subst (λ (n : ℕ). HasRun runs HasFront files n c.args.replayer.now c.replay.new.replayer) (sym at_is) next;
      shows = c.in_ok-look.ensures.shows;
      later = omega (arith, inv.later, c.in_ok-look.ensures.cause.later);
    }

pub returns-clause-damaged : goal.returns-clause-damaged
returns-clause-damaged g c = λ at e.
    let R = g.R.Replayer in
    let reached = c.loop-at.invariant.reached in
    let same : c.loop-at.at ≡ at = cc e in
    subst (λ (n : ℕ). IsDamaged R.runs R.refuses (Begun (g.D.Disk.reads c.args.disk.now)) n c.args.replayer.now) same
    (record {
      bodies = reached.bodies;
      state = c.loop-at.replayer;
      ran = reached.ran;
      each = λ image is short. reach_end reached.bodies c.loop-at.at image (reached.each image is) R.refuses c.loop-at.replayer is.1 c.loop-at-test.false short;
    })

pub returns-in-Broken-clause-damaged : goal.returns-in-Broken-clause-damaged
returns-in-Broken-clause-damaged g c = λ at e.
    let R = g.R.Replayer in
    let inv = c.loop-at.invariant in
    let reached = inv.reached in
    let same : c.loop-at.at ≡ at = cc e in
    subst (λ (n : ℕ). IsDamaged R.runs R.refuses (Begun (g.D.Disk.reads c.args.disk.now)) n c.args.replayer.now) same
    (record {
      bodies = reached.bodies;
      state = c.loop-at.replayer;
      ran = reached.ran;
      each = λ image is short.
          let broken : IsBroken (drop c.loop-at.at image) = rw c.in-Broken.is at (c.in_ok-look.ensures.is image (inv.only_read.same.forth image is.0)) in
          reach_broken reached.bodies c.loop-at.at image (reached.each image is) R.refuses c.loop-at.replayer is.1 broken;
    })

pub returns-in_err-replay-in-Whole-clause-damaged :
    goal.returns-in_err-replay-in-Whole-clause-damaged
returns-in_err-replay-in-Whole-clause-damaged g c = λ at e.
    let R = g.R.Replayer in
    let inv = c.loop-at.invariant in
    let reached = inv.reached in
    let body = c.in-Whole.body.items in
    let refused = c.in_err-replay-in-Whole.ensures.damaged at (cc (rw e at c.from_residual-in_err-replay-in-Whole.ensures.1)) in
    subst (λ (n : ℕ). IsDamaged R.runs R.refuses (Begun (g.D.Disk.reads c.args.disk.now)) n c.args.replayer.now) (sym refused.0)
    (record {
      bodies = reached.bodies;
      state = c.loop-at.replayer;
      ran = reached.ran;
      each = λ image is short.
          let found : IsWhole body (drop c.loop-at.at image) = rw c.in-Whole.is at (c.in_ok-look.ensures.is image (inv.only_read.same.forth image is.0)) in
          reach_refused reached.bodies c.loop-at.at image (reached.each image is) R.refuses c.loop-at.replayer is.1 body found
          (subst (λ b. R.refuses c.loop-at.replayer b) c.deref.ensures.value refused.1);
    })
