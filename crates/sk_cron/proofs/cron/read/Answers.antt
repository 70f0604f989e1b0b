use Rattle.std.proofs.Common.{rules, ◌≡◌, IfErr, IfOk, ℕ, ◌+◌, ◌-◌, ◌*◌, ◌<◌, ◌≤◌, length, ◌/◌, ◌%◌, Bool, true, false, nat_eq, nat_lt, List, [], ◌∷◌, ◌++◌, slice_index_or, slice_set, bit_and, bit_or, Fits, w8, w32, w64, Bor, MutBor}
use Rattle.sk_cron.specs.Fault.{IsFault}
use Rattle.sk_cron.specs.Read.{HasRead}
use Rattle.sk_cron.specs.Times.{Means, is_day, is_weekday, matches}
use Rattle.std.proofs.Common.{refl, subst, sym, arith, take}
use Rattle.std.proofs.Math.Seq.{take-length}
use Rattle.sk_cron.proofs.Progress.{Finishes, IsAt, Takes, at_next, at_start, end_fault, end_read, fault_here, next_taken}
use Rattle.sk_cron.proofs.cron.read.Goals as goal

-- src/cron.rt:34:5
pub loop-place-init : goal.loop-place-init
loop-place-init c = at_start _ c.new-reader.ensures

-- src/cron.rt:37:13
pub returns-then-not-take-clause-err : goal.returns-then-not-take-clause-err
returns-then-not-take-clause-err c =
    fault_here c.args.text.now c.loop-place.place c.loop-place.reader (slice_index_or c.args.text.now c.loop-place.place 0) _ c.take.new.self c.loop-place-test.true refl refl c.loop-place.invariant
    (subst (λ t. Takes c.loop-place.reader (slice_index_or c.args.text.now c.loop-place.place 0) t c.take.new.self) c.if-not-take.true c.take.ensures.is)

-- src/cron.rt:34:5
pub loop-place-preserved : goal.loop-place-preserved
loop-place-preserved c =
    subst (λ t. IsAt t c.take.new.self) (sym (next_taken c.args.text.now c.loop-place.place (slice_index_or c.args.text.now c.loop-place.place 0) c.loop-place-test.true refl))
    (at_next _ c.loop-place.reader (slice_index_or c.args.text.now c.loop-place.place 0) c.take.new.self c.loop-place.invariant
    (subst (λ t. Takes c.loop-place.reader (slice_index_or c.args.text.now c.loop-place.place 0) t c.take.new.self) c.if-not-take.false c.take.ensures.is))

-- src/cron.rt:29:1
pub returns-then-finish-clause-ok : goal.returns-then-finish-clause-ok
returns-then-finish-clause-ok c =
    let all : IsAt (take (length c.args.text.now) c.args.text.now) c.loop-place.reader = (subst (λ n. IsAt (take n c.args.text.now) c.loop-place.reader) (omega (arith, c.loop-place-test.false, c.loop-place.auto.place-end)) c.loop-place.invariant) in
    end_read c.args.text.now c.loop-place.reader c.finish.new.self (subst (λ t. IsAt t c.loop-place.reader) (take-length c.args.text.now) all)
    (subst (λ t. Finishes c.loop-place.reader t c.finish.new.self) c.if-finish.true c.finish.ensures.is)

-- src/cron.rt:29:1
pub returns-else-finish-clause-err : goal.returns-else-finish-clause-err
returns-else-finish-clause-err c =
    let all : IsAt (take (length c.args.text.now) c.args.text.now) c.loop-place.reader = (subst (λ n. IsAt (take n c.args.text.now) c.loop-place.reader) (omega (arith, c.loop-place-test.false, c.loop-place.auto.place-end)) c.loop-place.invariant) in
    end_fault c.args.text.now c.loop-place.reader c.finish.new.self _ refl (subst (λ t. IsAt t c.loop-place.reader) (take-length c.args.text.now) all)
    (subst (λ t. Finishes c.loop-place.reader t c.finish.new.self) c.if-finish.false c.finish.ensures.is)
