use Rattle.std.proofs.Common.{arith}
use Rattle.sk_model.proofs.Theorems.Acknowledged.{starved_acks_none}
use Rattle.sk_serve.proofs.gate.GatedDeskDesk.call.Goals as goal

-- want of memory acknowledges nothing
pub returns-then-not-hold-clause-acked : goal.returns-then-not-hold-clause-acked
returns-then-not-hold-clause-acked g c = record { added = 0; acks = starved_acks_none c.args.command; after_is = omega arith }
