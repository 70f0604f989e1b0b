-- Whether a seat has the job of a text.
use Rattle.std.specs.Prelude.{Option, Some, None, Bool, false}
use Rattle.sk_resp.specs.Spelling.{Bytes}
use Rattle.sk_payload.specs.Head.{jid_of}
use Rattle.sk_seats.specs.Phases.{Phases, some_has}

abbrev pub is_held : Phases → Option Bytes → Bool
is_held phases None = false
is_held phases (Some jid) = some_has jid phases

-- some seat has a payload of the job that the text names
abbrev pub held_by : Phases → Bytes → Bool
held_by phases text = is_held phases (jid_of text)
