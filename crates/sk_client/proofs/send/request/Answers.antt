use Rattle.sk_client.proofs.Held.{IsUtf8-answer}
use Rattle.sk_client.proofs.send.request.Goals as goal

pub held-requires : goal.held-requires
held-requires g c = let asked = rw c.in-Ok-Bulk.field-0-is at c.in-Ok-Bulk.ensures.asked in IsUtf8-answer c.args.wanted c.in-Ok-Bulk.jid c.requires asked.1
