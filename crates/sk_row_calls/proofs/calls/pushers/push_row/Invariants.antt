use Rattle.sk_model.specs.World.{first}
use Rattle.sk_row_calls.proofs.calls.pushers.push_row.Given as goal

abbrev pub ghosts-threads_on : goal.ghosts-threads_on
ghosts-threads_on g a = record { acks = a.blank.acks; asks = a.blank.asks; cuts = a.blank.cuts; start = first a.size.limits }
