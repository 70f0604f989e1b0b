use Rattle.std.proofs.Common.{subst}
use Rattle.sk_model.specs.World.{World}
use Rattle.sk_model.specs.Event.{Ask}
use Rattle.sk_aof.specs.Accepted.{IsRefused}
use Rattle.sk_aof.proofs.Judging.{answer_refused, unread_refused}
use Rattle.sk_aof.proofs.replay.Replay.ask.Goals as goal

pub returns-in-Ok-clause-refused : goal.returns-in-Ok-clause-refused
returns-in-Ok-clause-refused c = λ refused.
    subst (λ (w : World). IsRefused w (Ask c.args.seat c.args.now c.args.words)) c.self.view_is
    (answer_refused c.self.inside.core c.args.seat c.args.now c.args.words c.in-Ok.command c.step.result c.step.new.self c.judge.result c.in-Ok.ensures c.step.ensures c.judge.ensures refused)

pub returns-in-Err-clause-refused : goal.returns-in-Err-clause-refused
returns-in-Err-clause-refused c = λ refused.
    unread_refused c.args.self.now c.args.seat c.args.now c.args.words c.in-Err.fault c.in-Err.ensures (c.unread.ensures (cc refused))
