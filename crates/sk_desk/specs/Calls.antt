-- What a desk tells of its calls.
use Rattle.std.specs.Prelude.{◌≡◌, ◌⊎◌, ℕ, List, [], ◌∷◌, ◌++◌, Option, Some, None, Bool, true, false}
use Rattle.sk_resp.specs.Reply.{wire}
use Rattle.sk_resp.specs.declared.reply.Reply.{Reply}
use Rattle.sk_model.specs.Reading.{Words}
use Rattle.sk_model.specs.World.{World}
use Rattle.sk_desk.specs.declared.call.Call.{Call}

-- a call with these words at this moment, and the text of its reply
abbrev pub call_of : Words → ℕ → Reply → Call
call_of words now answer = record { now = now; request = words; reply = wire answer }

-- The call stands behind the others, where the desk still tells them.
abbrev pub AddsCall : Option (List Call) → Call → Option (List Call) → Type 0
AddsCall None call after = after ≡ None
AddsCall (Some calls) call after = (after ≡ Some (calls ++ call ∷ [])) ⊎ (after ≡ None)

-- ## A seat over a store of its own

-- the store's world, the number of the seat, the rows that its replies acknowledged, and its calls
pub record MemDeskView : Type 0 where
  pub world : World
  pub seat : ℕ
  pub acked : ℕ
  pub calls : Option (List Call)

-- lost: there was no memory for a call
abbrev pub calls_in : Bool → List Call → Option (List Call)
calls_in true calls = None
calls_in false calls = Some calls
