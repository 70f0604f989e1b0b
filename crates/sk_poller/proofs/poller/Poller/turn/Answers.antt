use Rattle.std.proofs.Common.{◌≡◌, ◌∙◌, ◌<◌, ◌||◌, ◌^◌, length, false, Ok, Err, sym, subst, ap, rules, arith}
use Rattle.sk_poller.specs.Event.{slot}
use Rattle.sk_poller.specs.Loop.{job_text}
use Rattle.sk_poller.specs.Stage.{PollTurn, Step, is_lost, watch_of}
use Rattle.sk_poller.specs.declared.stage.Stage.TheVariants.{Looking, Pushing}
use Rattle.sk_poller.specs.declared.report.PollFault.TheVariants as fault
use Rattle.sk_poller.proofs.Polls.{SoFar, at_stage, after_answer, after_draw, after_look, after_read, broken_off, handed_on, has_ended_by, step_left, whole, without_memory}
use Rattle.sk_poller.proofs.poller.Poller.turn.Goals as goal

pub returns-in-Over-clause-ended : goal.returns-in-Over-clause-ended
returns-in-Over-clause-ended g c =
    let w = watch_of c.args.self.now in
    let n = c.in-Over.n in
    let so_far = at_stage c.in-Over.is c.loop-stage.invariant in
    has_ended_by w (Ok n) _ _ (λ cs. g.met.L.Link.carried_ends _ _ cs) (whole w n so_far)

pub returns-in_err-job-in-Due-clause-told : goal.returns-in_err-job-in-Due-clause-told
returns-in_err-job-in-Due-clause-told g c =
    let w = watch_of c.args.self.now in
    let ids = c.in_err-job-in-Due.ensures in
    let few : length w.loops < 2 ^ 64 = search (rules, arith) in
    let now = c.in-Due.now in
    let so_far = at_stage c.in-Due.is c.loop-stage.invariant in
    let drawn = after_draw w now c.in-Due.slot c.in-Due.loops c.in-Due.n ids.0 ids.1 few so_far ids.2 in
    let turn = without_memory w _ drawn in
    let e = handed_on c.from_residual.result _ c.from_residual.ensures.0 c.from_residual.ensures.1 in
    let is : c.from_residual.result ≡ Err fault.Memory = e.1 ∙ ap (λ f. Err f) e.2 in
    subst (λ result. PollTurn (g.L.Link.carried c.args.link.now c.loop-stage.link) (g.C.Clock.moments c.args.clock.now) (g.C.Clock.moments c.loop-stage.clock)
    (g.D.Dice.words c.args.dice.now) (g.D.Dice.words c.draw_job.new.dice) w result) (sym is) turn

pub returns-in_err-job-in-Due-clause-ended : goal.returns-in_err-job-in-Due-clause-ended
returns-in_err-job-in-Due-clause-ended g c =
    let w = watch_of c.args.self.now in
    let ids = c.in_err-job-in-Due.ensures in
    let few : length w.loops < 2 ^ 64 = search (rules, arith) in
    let now = c.in-Due.now in
    let so_far = at_stage c.in-Due.is c.loop-stage.invariant in
    let drawn = after_draw w now c.in-Due.slot c.in-Due.loops c.in-Due.n ids.0 ids.1 few so_far ids.2 in
    let turn = without_memory w _ drawn in
    let e = handed_on c.from_residual.result _ c.from_residual.ensures.0 c.from_residual.ensures.1 in
    let is : c.from_residual.result ≡ Err fault.Memory = e.1 ∙ ap (λ f. Err f) e.2 in
    let none : is_lost c.from_residual.result ≡ false = ap is_lost is in
    has_ended_by w (Err fault.Memory) _ _ (λ cs. g.met.L.Link.carried_ends _ _ cs) turn ∙ ap (λ b. g.L.Link.has_ended c.args.link.now || b) (sym none)

pub returns-in_err-stage-in_default : goal.returns-in_err-stage-in_default
returns-in_err-stage-in_default g c =
    let w = watch_of c.args.self.now in
    let f = c.in_err-stage-in_default.field-0.0 in
    let result = c.from_residual-in_err-stage-in_default.result in
    let e = handed_on result _ c.from_residual-in_err-stage-in_default.ensures.0 c.from_residual-in_err-stage-in_default.ensures.1 in
    let is : result ≡ Err f = e.1 ∙ ap (λ k. Err k) e.2 in
    let more = g.met.L.Link.carried_more c.args.link.now c.loop-stage.link c.ask.new.link in
    let told : PollTurn (g.L.Link.carried c.args.link.now c.ask.new.link) (g.C.Clock.moments c.args.clock.now) (g.C.Clock.moments c.loop-stage.clock)
    (g.D.Dice.words c.args.dice.now) (g.D.Dice.words c.loop-stage.dice) w (Err f) =
    broken_off {P' = g.L.Link.carried c.loop-stage.link c.ask.new.link} w c.loop-stage.stage f (λ cs ds p q. more cs ds p q) c.loop-stage.invariant
    c.in_err-stage-in_default.ensures in
    let turn = subst (λ r. PollTurn (g.L.Link.carried c.args.link.now c.ask.new.link) (g.C.Clock.moments c.args.clock.now) (g.C.Clock.moments c.loop-stage.clock)
    (g.D.Dice.words c.args.dice.now) (g.D.Dice.words c.loop-stage.dice) w r) (sym is) told in
    record { told = turn; ended = has_ended_by w result _ _ (λ cs. g.met.L.Link.carried_ends _ _ cs) turn }

pub loop-stage-preserved-in-Resting : goal.loop-stage-preserved-in-Resting
loop-stage-preserved-in-Resting g c =
    let w = watch_of c.args.self.now in
    let few : length w.loops < 2 ^ 64 = search (rules, arith) in
    let so_far = at_stage c.in-Resting.is c.loop-stage.invariant in
    after_read w c.now.result few so_far c.now.ensures

pub loop-stage-smaller-in-Looking : goal.loop-stage-smaller-in-Looking
loop-stage-smaller-in-Looking g c =
    let w = watch_of c.args.self.now in
    let event = slot c.look.ensures.0 in
    let step = subst (λ s. Step w s event c.look.result) (sym c.in-Looking.is) c.look.ensures.1 in
    step_left w c.loop-stage.stage c.look.result event step

pub loop-stage-preserved-in-Looking : goal.loop-stage-preserved-in-Looking
loop-stage-preserved-in-Looking g c =
    let w = watch_of c.args.self.now in
    let few : length w.loops < 2 ^ 64 = search (rules, arith) in
    let so_far = at_stage c.in-Looking.is c.loop-stage.invariant in
    after_look w (Looking c.in-Looking.now c.in-Looking.loops c.in-Looking.n) c.look.result few so_far c.look.ensures

pub loop-stage-preserved-in_ok-job-in-Due : goal.loop-stage-preserved-in_ok-job-in-Due
loop-stage-preserved-in_ok-job-in-Due g c =
    let w = watch_of c.args.self.now in
    let ids = c.in_ok-job-in-Due.ensures in
    let few : length w.loops < 2 ^ 64 = search (rules, arith) in
    let now = c.in-Due.now in
    let last = c.in-Due.slot in
    let loops = c.in-Due.loops in
    let n = c.in-Due.n in
    let so_far = at_stage c.in-Due.is c.loop-stage.invariant in
    let drawn = after_draw w now last loops n ids.0 ids.1 few so_far ids.2 in
    let made : c.in_ok-job-in-Due.job ≡ job_text c.first.result.now ids.0 ids.1 now = ids.3 in
    let job : job_text loops.first ids.0 ids.1 now ≡ c.in_ok-job-in-Due.job = ap (λ l. job_text l ids.0 ids.1 now) (sym c.first.ensures.first) ∙ sym made in
    subst (λ text. SoFar (g.L.Link.carried c.args.link.now c.loop-stage.link) (g.C.Clock.moments c.args.clock.now) (g.C.Clock.moments c.loop-stage.clock)
    (g.D.Dice.words c.args.dice.now) (g.D.Dice.words c.draw_job.new.dice) w (Pushing now last text loops n)) job drawn

pub loop-stage-smaller : goal.loop-stage-smaller
loop-stage-smaller g c =
    let w = watch_of c.args.self.now in
    let a = c.in_ok-stage-in_default.ensures in
    step_left w c.loop-stage.stage c.in_ok-stage-in_default.stage _ a.2

pub loop-stage-preserved : goal.loop-stage-preserved
loop-stage-preserved g c =
    let w = watch_of c.args.self.now in
    let few : length w.loops < 2 ^ 64 = search (rules, arith) in
    let more = g.met.L.Link.carried_more c.args.link.now c.loop-stage.link c.ask.new.link in
    after_answer {P' = g.L.Link.carried c.loop-stage.link c.ask.new.link} w c.loop-stage.stage c.in_ok-stage-in_default.stage few (λ cs ds p q. more cs ds p q)
    c.loop-stage.invariant c.in_ok-stage-in_default.ensures
