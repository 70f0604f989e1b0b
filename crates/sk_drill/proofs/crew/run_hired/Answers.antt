use Rattle.std.proofs.Common.{ap, arith, length, map}
use Rattle.sk_drill.proofs.Assigning.{back_len, classes_back, if_some, nothing_before, then_ok}
use Rattle.sk_drill.proofs.crew.run_hired.Goals as goal

pub returns-in_err-dismissed-clause-back : goal.returns-in_err-dismissed-clause-back
returns-in_err-dismissed-clause-back g c =
    nothing_before _ _ _ (classes_back (λ w. w.registry) (λ team. team.classes) _ (λ a b p. p.classes) _ _ _ _ c.run_crew.ensures.worked c.dismiss-dismissed.ensures.back)
    (ap (λ l. map (λ team. team.classes) l) c.requires.empty)

pub returns-clause-back : goal.returns-clause-back
returns-clause-back g c =
    nothing_before _ _ _ (classes_back (λ w. w.registry) (λ team. team.classes) _ (λ a b p. p.classes) _ _ _ _ c.run_crew.ensures.worked c.dismiss-dismissed.ensures.back)
    (ap (λ l. map (λ team. team.classes) l) c.requires.empty)

pub returns-in_err-dismissed-clause-len : goal.returns-in_err-dismissed-clause-len
returns-in_err-dismissed-clause-len g c =
    omega (
      arith,
      back_len (λ w. w.registry) _ _ _ _ _ c.run_crew.ensures.worked c.dismiss-dismissed.ensures.back,
      c.dismiss-dismissed.new.back.ok,
      ap (λ l. length l) c.requires.empty,
      c.args.staff.ok,
    )

pub returns-clause-len : goal.returns-clause-len
returns-clause-len g c =
    omega (
      arith,
      back_len (λ w. w.registry) _ _ _ _ _ c.run_crew.ensures.worked c.dismiss-dismissed.ensures.back,
      c.dismiss-dismissed.new.back.ok,
      ap (λ l. length l) c.requires.empty,
      c.args.staff.ok,
    )

pub returns-clause-told : goal.returns-clause-told
returns-clause-told g c = then_ok c.join_stories.result c.join_stories.ensures (λ stories j. record {
  pushing = j.pushing;
  polling = j.polling;
  lanes = c.dismiss-dismissed.new.lanes.items;
  are = j.are;
  pushed = if_some _ _ j.pushing j.pushing_is c.run_crew.ensures.pushed;
  polled = if_some _ _ j.polling j.polling_is c.run_crew.ensures.polled;
  staff_now = c.run_crew.new.workers.items;
  worked = c.run_crew.ensures.worked;
  told = c.in_ok-dismissed.ensures.lanes;
  back_is = nothing_before _ _ _ c.dismiss-dismissed.ensures.back c.requires.empty;
})
