use Rattle.std.proofs.Common.{◌≡◌, Option, ap, ◌∙◌, subst}
use Rattle.sk_pipe.specs.Session.{HandlesCommand}
use Rattle.sk_pipe.proofs.Asking.{asked}
use Rattle.sk_pipe.proofs.session.Session.ask.Goals as goal

pub returns : goal.returns
returns c =
    let step = c.step-reply.ensures in
    let stop = c.where_ok-stop.result in
    let told = rw c.stop_of-stop.ensures at c.where_ok-stop.ensures in
    subst (λ old. HandlesCommand old c.args.command (record { reply = c.step-reply.result; stop = stop }) (record { world = c.step-reply.new.self; seat = c.self.inside.seat; now = c.self.inside.now })) c.self.view_is
    (asked (record { world = c.self.inside.store; seat = c.self.inside.seat; now = c.self.inside.now }) c.step-reply.new.self c.args.command step.0 c.step-reply.result stop step.1 step.2 told)
