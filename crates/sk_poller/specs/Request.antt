-- The words of a poller's requests.
use Rattle.std.specs.Prelude.{ℕ, List, [], ◌∷◌, codes}
use Rattle.std.specs.Fmt.{decimal}
use Rattle.sk_base.specs.declared.limits.TheConstants.{DUE_A_TURN}
use Rattle.sk_resp.specs.Spelling.{Bytes}
use Rattle.sk_poller.specs.declared.poller.Loop.{Loop}

-- a heartbeat
abbrev pub beat_words : Bytes → List Bytes
beat_words ident = codes "SK.BEAT" ∷ ident ∷ []

-- the due jobs of this set, at most so many
abbrev pub due_words : Bytes → List Bytes
due_words set = codes "SK.DUE" ∷ set ∷ decimal DUE_A_TURN ∷ []

abbrev pub rescue_words : List Bytes
rescue_words = codes "SK.RESCUE" ∷ []

abbrev pub lead_words : Bytes → List Bytes
lead_words ident = codes "SK.LEAD" ∷ ident ∷ []

-- the job of a loop for a slot
abbrev pub cron_words : Bytes → Loop → ℕ → Bytes → List Bytes
cron_words ident l slot job = codes "SK.CRON" ∷ ident ∷ l.name ∷ decimal slot ∷ job ∷ []
