-- What a body is read as.
use Rattle.std.specs.Prelude.{◌≡◌, ◌<◌, ◌^◌, ℕ, ℤ, pos, negsuc, Bool, true, false, List, [], ◌∷◌, Option, Some, None}
use Rattle.std.specs.Fmt.{decimal}
use Rattle.sk_resp.specs.Spelling.{Bytes}
use Rattle.sk_resp.specs.Request.{Command as Words}
use Rattle.sk_resp.specs.Stream.{Reads}
use Rattle.sk_resp.specs.declared.wire_fault.WireFault.{WireFault}
use Rattle.sk_resp.specs.declared.wire_fault.WireFault.TheVariants as wire_fault
use Rattle.sk_log.specs.File.{Body}
use Rattle.sk_model.specs.Event.{Event, Ask, Cut}
use Rattle.sk_aof.specs.Bodies.{HasNumbers, MayStand, body_of, commands_of}
use Rattle.sk_aof.specs.declared.log_event.LogEvent.{LogEvent}
use Rattle.sk_aof.specs.declared.log_event.LogEvent.TheVariants as log

abbrev pub meant : LogEvent → Event
meant (log.Ask seat now words) = Ask seat now words
meant (log.Cut seat) = Cut seat

abbrev pub natural : Option ℤ → Option ℕ
natural (Some (pos n)) = Some n
natural (Some (negsuc n)) = None
natural None = None

-- that word and a number below 2^63 in its one spelling
abbrev pub IsNumbered : Bytes → Words → Option ℕ → Type 0
IsNumbered word words None = (n : ℕ) → n < 2 ^ 63 → words ≡ word ∷ decimal n ∷ [] → ⊥
IsNumbered word words (Some n) = (n < 2 ^ 63) × (words ≡ word ∷ decimal n ∷ [])

-- the same of numbers below 2^32
abbrev pub IsSeat : Bytes → Words → Option ℕ → Type 0
IsSeat word words None = (n : ℕ) → n < 2 ^ 32 → words ≡ word ∷ decimal n ∷ [] → ⊥
IsSeat word words (Some n) = (n < 2 ^ 32) × (words ≡ word ∷ decimal n ∷ [])

-- There was no memory to read it.
abbrev pub is_shortage : WireFault → Bool
is_shortage wire_fault.Memory = true
is_shortage other = false

-- It isn't commands end to end.
abbrev pub HasNoCommands : Body → Type 0
HasNoCommands body = (commands : List Words) → Reads body commands [] → ⊥

-- the event whose commands these are
abbrev pub IsEvent : List Words → Option LogEvent → Type 0
IsEvent commands None = (event : Event) → HasNumbers event → commands ≡ commands_of event → ⊥
IsEvent commands (Some e) = HasNumbers (meant e) × (commands ≡ commands_of (meant e))

-- the event whose body it is
abbrev pub IsBody : Body → Option LogEvent → Type 0
IsBody body None = (event : Event) → MayStand event → body ≡ body_of event → ⊥
IsBody body (Some e) = MayStand (meant e) × (body ≡ body_of (meant e))
