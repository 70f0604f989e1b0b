use Rattle.std.proofs.Common.{◌∙◌, Some, subst}
use Rattle.sk_compare.specs.Alike.{IsDifference, met_at, told_at}
use Rattle.sk_compare.specs.Exchange.{exchange_of}
use Rattle.sk_compare.proofs.Meeting.{ended, pass_on, strayed}
use Rattle.sk_compare.proofs.comparison.walk.Goals as goal

pub returns-in-Some-stray : goal.returns-in-Some-stray
returns-in-Some-stray c =
    let e = c.in-Some.entry.now in
    let was = c.in-Some-stray.ensures.is in
    let d = c.in_ok-difference-in-Some-stray.field-0 in
    strayed (told_at c.args.told.now) (met_at c.loop-entry.met) c.args.journal.now c.next.new.self c.loop-entry.entry-iterator e c.in-Some-stray.ask.now d
    c.in-Some.ensures.steps c.loop-entry.invariant.has_met was.1
    (subst (λ m. IsDifference (told_at c.args.told.now) (met_at m) e.seat (Some (exchange_of c.in-Some-stray.ask.now)) d) was.0 c.in_ok-difference-in-Some-stray.ensures)

pub loop-entry-preserved : goal.loop-entry-preserved
loop-entry-preserved c = record {
  same = c.stray.ensures.same ∙ c.loop-entry.invariant.same;
  has_met = pass_on (told_at c.args.told.now) (met_at c.loop-entry.met) (met_at c.stray.new.met) c.args.journal.now c.next.new.self
      c.loop-entry.entry-iterator c.in-Some.entry.now c.in-Some.ensures.steps c.loop-entry.invariant.has_met c.in-None-stray.ensures.is;
}

pub returns-in_ok-difference-in-Some-unmet : goal.returns-in_ok-difference-in-Some-unmet
returns-in_ok-difference-in-Some-unmet c =
    ended (told_at c.args.told.now) (met_at c.loop-entry.met) c.args.journal.now c.loop-entry.entry-iterator c.in-Some-unmet.seat
    c.in_ok-difference-in-Some-unmet.field-0 c.in-None.ensures.steps.0 c.loop-entry.invariant.has_met c.in-Some-unmet.ensures.unmet
    c.in_ok-difference-in-Some-unmet.ensures
