-- The lines of the job store's own refusals.
use Rattle.std.specs.Prelude.{codes}
use Rattle.sk_resp.specs.Spelling.{Bytes}
use Rattle.sk_resp.specs.declared.refusal.Refusal.{Refusal}
use Rattle.sk_resp.specs.declared.refusal.Refusal.TheVariants as refusal

abbrev pub refusal_text : Refusal → Bytes
refusal_text refusal.ManagedKey = codes "-SK managed key"
refusal_text refusal.NotWorker = codes "-SK not a worker seat"
refusal_text refusal.OutOfTurn = codes "-SK out of turn"
refusal_text refusal.HandsFull = codes "-SK hands full"
refusal_text refusal.NoProcess = codes "-SK no such process"
refusal_text refusal.NoBatch = codes "-SK no such batch"
refusal_text refusal.Settled = codes "-SK batch settled"
refusal_text refusal.RepeatedJid = codes "-SK repeated jid"
refusal_text refusal.BadPayload = codes "-SK bad payload"
refusal_text refusal.NotLeader = codes "-SK not leader"
refusal_text refusal.SlotDone = codes "-SK slot done"
refusal_text refusal.Full = codes "-SK full"
refusal_text refusal.RepeatedBid = codes "-SK repeated bid"
refusal_text refusal.SlotTime = codes "-SK slot out of time"
