use Rattle.sk_line.specs.LogServe.{served}
use Rattle.sk_line.proofs.Reading.{passed}
use Rattle.sk_line.proofs.log_serve_line.line_of.Goals as goal

pub returns-in_err-path : goal.returns-in_err-path
returns-in_err-path c = passed _ _ c.from_residual.ensures.1 c.in_err-path.ensures (λ line p. (line.path, p.path))

pub returns-in_err-sync_every : goal.returns-in_err-sync_every
returns-in_err-sync_every c = passed _ _ c.from_residual-in_err-sync_every.ensures.1 c.in_err-sync_every.ensures (λ line p. (line.sync_every, p.sync))

pub returns-in_err-serve : goal.returns-in_err-serve
returns-in_err-serve c = passed _ _ c.from_residual-in_err-serve.ensures.1 c.in_err-serve.ensures (λ line p. (served line, p.serve))
