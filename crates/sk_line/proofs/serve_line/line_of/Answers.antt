use Rattle.sk_line.proofs.Reading.{passed}
use Rattle.sk_line.proofs.serve_line.line_of.Goals as goal

pub returns-in_err-port : goal.returns-in_err-port
returns-in_err-port c = passed _ _ c.from_residual.ensures.1 c.in_err-port.ensures (λ line p. (line.port, p.port))

pub returns-in_err-loops : goal.returns-in_err-loops
returns-in_err-loops c = passed _ _ c.from_residual-in_err-loops.ensures.1 c.in_err-loops.ensures (λ line p. (line.loops, p.loops))

pub returns-in_err-sessions : goal.returns-in_err-sessions
returns-in_err-sessions c = passed _ _ c.from_residual-in_err-sessions.ensures.1 c.in_err-sessions.ensures (λ line p. (line.sessions, p.sessions))
