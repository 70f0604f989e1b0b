-- The read of a cursor.
use Rattle.std.specs.Prelude.{◌≡◌, ◌∷◌, [], ℕ, false, true, List, Result, Ok, Err}
use Rattle.sk_resp.specs.Spelling.{Bytes}
use Rattle.sk_resp.specs.declared.reply.Reply.{Reply}
use Rattle.sk_link.specs.Asking.{is_popped}
use Rattle.sk_link.specs.Call.{Call, answered, lost}
use Rattle.sk_link.specs.declared.asking.AskFault.{AskFault}
use Rattle.sk_link.specs.declared.asking.AskFault.TheVariants as ask
use Rattle.sk_iter.specs.Cursor.{IsCursor}
use Rattle.sk_iter.specs.Request.{get_words}
use Rattle.sk_iter.specs.declared.iter_end.IterFault.{IterFault}
use Rattle.sk_iter.specs.declared.iter_end.IterFault.TheVariants as fault

abbrev pub fault_in : AskFault → IterFault
fault_in (ask.Refused r) = fault.Refused r
fault_in (ask.Link f) = fault.Link f

-- The reply is no cursor.
abbrev pub IsNoCursor : ℕ → Reply → Type 0
IsNoCursor len r = (n : ℕ) → IsCursor len r n → ⊥

-- what an answer to GET tells: a cursor, or that it is none
abbrev pub TellsCursor : ℕ → Reply → Result ℕ IterFault → Type 0
TellsCursor len r (Ok n) = IsCursor len r n
TellsCursor len r (Err (fault.Cursor found)) = (found ≡ r) × IsNoCursor len r
TellsCursor len r (Err (fault.Refused found)) = ⊥
TellsCursor len r (Err (fault.Link f)) = ⊥
TellsCursor len r (Err fault.Memory) = ⊥

-- The calls are those of a read with this result: GET was answered by the cursor, by a bulk string that is none, or by a reply of another kind; or it
-- was lost, or wasn't sent for want of memory.
abbrev pub Reads : (List Call → Type 0) → Bytes → ℕ → Result ℕ IterFault → Type 0
Reads Carried jid len (Ok n) = (r : Reply) × Carried (answered (get_words jid) r ∷ []) × IsCursor len r n
Reads Carried jid len (Err (fault.Cursor r)) = Carried (answered (get_words jid) r ∷ []) × (is_popped r ≡ true) × IsNoCursor len r
Reads Carried jid len (Err (fault.Refused r)) = Carried (answered (get_words jid) r ∷ []) × (is_popped r ≡ false)
Reads Carried jid len (Err (fault.Link f)) = Carried (lost (get_words jid) f ∷ [])
Reads Carried jid len (Err fault.Memory) = Carried []
