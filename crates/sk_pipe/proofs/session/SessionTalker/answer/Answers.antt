use Rattle.sk_pipe.proofs.Asking.{spoke_starved}
use Rattle.sk_pipe.proofs.session.SessionTalker.answer.Goals as goal

pub returns-in-Ok : goal.returns-in-Ok
returns-in-Ok c = c.perform.ensures c.args.words c.in-Ok.ensures.ok

pub returns-in-Err : goal.returns-in-Err
returns-in-Err c = spoke_starved c.args.self.now c.args.words c.tells.result c.in-Err.ensures.memory.0 c.in-Err.ensures.memory.1 c.tells.ensures
