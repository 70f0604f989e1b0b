use Rattle.std.proofs.Common.{ap, ◌∙◌, subst}
use Rattle.sk_model.specs.World.{World}
use Rattle.sk_model.specs.Change.{perform}
use Rattle.sk_model.specs.Step.{cut}
use Rattle.sk_model.specs.Reading.{IsSaid}
use Rattle.sk_model.specs.Run.{State}
use Rattle.sk_pipe.specs.PipeCommand.{meant}
use Rattle.sk_pipe.proofs.Asking.{spoke_asks, spoke_cuts, spoke_refused, spoke_sets, spoke_sits}
use Rattle.sk_pipe.proofs.session.Session.perform.Goals as goal

pub returns-in-Refused : goal.returns-in-Refused
returns-in-Refused c = λ words is. spoke_refused c.args.self.now words c.in-Refused.say c.tells.result (subst (λ s. IsSaid words (meant s)) c.in-Refused.is is) c.tells.ensures

pub returns-in-SetTime : goal.returns-in-SetTime
returns-in-SetTime c = λ words is.
    let now = c.in-SetTime.now in
    spoke_sets c.args.self.now words now c.tells-in-SetTime.result _ (subst (λ s. IsSaid words (meant s)) c.in-SetTime.is is) c.tells-in-SetTime.ensures (ap (λ (s : State). record s { now = now }) c.self.view_is)

pub returns-in-ActAs : goal.returns-in-ActAs
returns-in-ActAs c = λ words is.
    let seat = c.in-ActAs.seat in
    spoke_sits c.args.self.now words seat c.tells-in-ActAs.result _ (subst (λ s. IsSaid words (meant s)) c.in-ActAs.is is) c.tells-in-ActAs.ensures (ap (λ (s : State). record s { seat = seat }) c.self-in-ActAs.view_is)

pub returns-in-CutSeat : goal.returns-in-CutSeat
returns-in-CutSeat c = λ words is.
    let seat = c.in-CutSeat.seat in
    spoke_cuts c.args.self.now words seat c.tells-in-CutSeat.result _ (subst (λ s. IsSaid words (meant s)) c.in-CutSeat.is is) c.tells-in-CutSeat.ensures
    (ap (λ (w : World). record { world = w; seat = c.self-in-CutSeat.inside.seat; now = c.self-in-CutSeat.inside.now }) c.cut.ensures ∙ ap (λ (s : State). record s { world = perform s.world (cut seat).changes }) c.self-in-CutSeat.view_is)

pub returns-in-RunCommand : goal.returns-in-RunCommand
returns-in-RunCommand c = λ words is.
    spoke_asks c.args.self.now words c.in-RunCommand.command c.ask.result c.ask.new.self (subst (λ s. IsSaid words (meant s)) c.in-RunCommand.is is) c.ask.ensures
