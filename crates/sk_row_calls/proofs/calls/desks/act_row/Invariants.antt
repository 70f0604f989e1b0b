use Rattle.sk_model.specs.World.{first}
use Rattle.sk_row_calls.proofs.calls.desks.act_row.Given as goal

abbrev pub ghosts-desks_on : goal.ghosts-desks_on
ghosts-desks_on g a = record { acks = a.blank.acks; asks = a.blank.asks; cuts = a.blank.cuts; start = first a.size.limits }
