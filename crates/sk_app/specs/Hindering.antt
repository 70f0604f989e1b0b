-- Which failures are no want of memory, and what spoils a request.
use Rattle.std.specs.Prelude.{◌≢◌, List, [], ◌∷◌, Result, Ok, Err}
use Rattle.sk_link.specs.Call.{Call, answered, lost}
use Rattle.sk_link.specs.declared.link.LinkFault.{LinkFault}
use Rattle.sk_link.specs.declared.link.LinkFault.TheVariants as link
use Rattle.sk_resp.specs.Spelling.{Bytes}
use Rattle.sk_resp.specs.declared.reply.Reply.{Reply}
use Rattle.sk_app.specs.declared.failure.Failure.{Failure}
use Rattle.sk_app.specs.declared.failure.Failure.TheVariants as failure

-- The failure is no want of memory.
abbrev pub Hinders : Failure → Type 0
Hinders failure.Memory = ⊥
Hinders (failure.Link link.Memory) = ⊥
Hinders failure.Line = Unit {0}
Hinders failure.Door = Unit {0}
Hinders failure.Seats = Unit {0}
Hinders (failure.Link link.Failed) = Unit {0}
Hinders (failure.Link link.Ended) = Unit {0}
Hinders (failure.Link (link.Unreadable bytes)) = Unit {0}
Hinders (failure.Refused r) = Unit {0}
Hinders (failure.Cursor bytes) = Unit {0}
Hinders failure.GenLimit = Unit {0}
Hinders (failure.Differs d) = Unit {0}

-- The outcome is a failure, and no want of memory.
abbrev pub IsHindered : Result Bytes Failure → Type 0
IsHindered (Ok output) = ⊥
IsHindered (Err f) = Hinders f

-- It was asked over a link that carried such calls, and came to a failure that is no want of memory.
abbrev pub FailsOver : ((List Call → Type 0) → Result Bytes Failure → Type 0) → (List Call → Type 0) → Type 0
FailsOver Asks Carried = (f : Failure) × Hinders f × Asks Carried (Err f)

-- A request was lost for another cause than want of memory, or got another reply than it wants.
pub data IsSpoilt (Carried : List Call → Type 0) (words : List Bytes) (Wanted : Reply → Type 0) : Type 0 where
  unanswered : (f : LinkFault) → f ≢ link.Memory → Carried (lost words f ∷ []) → IsSpoilt Carried words Wanted
  refused : (r : Reply) → (Wanted r → ⊥) → Carried (answered words r ∷ []) → IsSpoilt Carried words Wanted
