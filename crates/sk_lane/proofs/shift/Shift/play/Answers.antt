use Rattle.std.proofs.Common.{◌-◌, ◌∙◌, true, false, ap, subst, arith}
use Rattle.sk_lane.specs.Progress.{KeepsWorker}
use Rattle.sk_lane.specs.declared.crashes.Drawing.{Drawing}
use Rattle.sk_lane.proofs.Carried.{said_by, said_is}
use Rattle.sk_lane.proofs.StoryOn.{ends_turned, ends_unbeaten, ends_unjoined, ran_none}
use Rattle.sk_lane.proofs.TurnsOn.{told_by}
use Rattle.sk_lane.proofs.shift.Shift.play.Goals as goal

pub returns-then-not-branch-clause-told : goal.returns-then-not-branch-clause-told
returns-then-not-branch-clause-told g c = ends_unbeaten _ _ _ _ _ _ c.args.todo (c.args.todo - 1)
    (said_is _ _ _ _ false c.if-not-branch.true c.in_ok-beat.ensures.said) c.requires.asks (c.in_ok-beat.ensures.marks ∙ c.requires.marks)
    (grind (arith, c.requires.some)) (ran_none _ _)

pub returns-then-not-branch-2-clause-told : goal.returns-then-not-branch-2-clause-told
returns-then-not-branch-2-clause-told g c = ends_unjoined _ _ _ _ _ _ _ c.args.todo (c.args.todo - 1)
    (said_is _ _ _ _ true c.if-not-branch.false c.in_ok-beat.ensures.said)
    (said_by _ _ _ _ _ false (ap (λ w. w.ident) c.in_ok-beat.ensures.worker) c.if-not-branch-2.true c.in_ok-join.ensures.said)
    c.requires.asks (c.in_ok-join.ensures.marks ∙ (c.in_ok-beat.ensures.marks ∙ c.requires.marks)) (grind (arith, c.requires.some)) (ran_none _ _)

pub returns-clause-told : goal.returns-clause-told
returns-clause-told g c =
    let same = c.in_ok-beat.ensures.worker in
    let first = c.in_ok-beat.ensures.said in
    let second = c.in_ok-join.ensures.said in
    ends_turned _ _ _ c.take_turns.result _ _ _ _ _ c.take_turns.new.self.link.drawing _ _ _ c.args.todo (said_is _ _ _ _ true c.if-not-branch.false first)
    (said_by _ _ _ _ _ true (ap (λ w. w.ident) same) c.if-not-branch-2.false second) c.requires.asks
    (c.in_ok-join.ensures.marks ∙ (c.in_ok-beat.ensures.marks ∙ c.requires.marks)) (c.in_ok-join.ensures.held ∙ (ap (λ w. w.held.items) same ∙ c.requires.held))
    (ap {A = Drawing} {B = Drawing} (λ d. record d { in_turn = true }) (second.undrawn ∙ (first.undrawn ∙ c.requires.rest)))
    (told_by c.args.self.now.worker c.join.new.self.worker c.args.registry.now c.take_turns.result _ _ _ _ _ _ _ _ _
    (subst (λ w. KeepsWorker w c.join.new.self.worker) same c.in_ok-join.ensures.worker) c.take_turns.ensures.told)
