use Rattle.std.proofs.Common.{inl}
use Rattle.sk_held.proofs.Handing.{on_err}
use Rattle.sk_held.proofs.held_conn.HeldConn.receive.Goals as goal

pub returns-in_err-flush-clause-blamed : goal.returns-in_err-flush-clause-blamed
returns-in_err-flush-clause-blamed g c = on_err c.from_residual.result (inl c.in_err-flush.ensures.blamed)
