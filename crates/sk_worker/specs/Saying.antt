-- A worker's request with its answer.
use Rattle.std.specs.Prelude.{◌≡◌, Bool, true, false, List, [], ◌∷◌, Result, Ok, Err}
use Rattle.sk_resp.specs.Spelling.{Bytes}
use Rattle.sk_resp.specs.declared.reply.Reply.{Reply}
use Rattle.sk_link.specs.Call.{Call, answered, lost}
use Rattle.sk_link.specs.Asking.{answers}
use Rattle.sk_link.specs.declared.asking.Answer.{Answer}
use Rattle.sk_link.specs.declared.asking.Answer.TheVariants as answer
use Rattle.sk_worker.specs.Request.{join_words}
use Rattle.sk_worker.specs.declared.turn.WorkFault.{WorkFault}
use Rattle.sk_worker.specs.declared.turn.WorkFault.TheVariants as fault

-- The link carried the request with what came of it: an answer; a reply that is none; or it was lost. Where there was no memory for its words, the
-- link carried nothing.
abbrev pub Says : (List Call → Type 0) → List Bytes → Answer → Result Reply WorkFault → Type 0
Says Carried request wanted (Ok r) = Carried (answered request r ∷ []) × (answers wanted r ≡ true)
Says Carried request wanted (Err (fault.Refused r)) = Carried (answered request r ∷ []) × (answers wanted r ≡ false)
Says Carried request wanted (Err (fault.Link f)) = Carried (lost request f ∷ [])
Says Carried request wanted (Err fault.Memory) = Carried []
Says Carried request wanted (Err fault.GenLimit) = ⊥
Says Carried request wanted (Err fault.Ended) = ⊥

-- The request that a worker joins with, answered as wanted or not.
abbrev pub Joins : (List Call → Type 0) → Bytes → Result (Unit {0}) WorkFault → Type 0
Joins Carried ident (Ok done) = (r : Reply) × Says Carried (join_words ident) answer.Okay (Ok r)
Joins Carried ident (Err f) = Says Carried (join_words ident) answer.Okay (Err f)

-- A worker that has ended joins no more.
abbrev pub JoinOf : Bool → (List Call → Type 0) → Bytes → Result (Unit {0}) WorkFault → Type 0
JoinOf true Carried ident result = Carried [] × (result ≡ Err fault.Ended)
JoinOf false Carried ident result = Joins Carried ident result
