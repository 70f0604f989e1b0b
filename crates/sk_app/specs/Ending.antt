-- How a program ends: what it writes, and its exit status.
use Rattle.std.specs.Prelude.{◌≡◌, ◌⊎◌, ◌++◌, ℕ, [], ◌∷◌, Option, Some, None, Result, Ok, Err}
use Rattle.sk_base.specs.Outside.{Takes, TakesFront}
use Rattle.sk_base.specs.declared.sink.Sink as a_sink
use Rattle.sk_resp.specs.Spelling.{Bytes, lf}
use Rattle.sk_app.specs.Failures.{line_of, status_of}
use Rattle.sk_app.specs.declared.failure.Failure.{Failure}

-- the text, and LF
abbrev pub ended : Bytes → Bytes
ended text = text ++ lf ∷ []

-- The text was written, and the status is this one; or some of it was, and the status is 4; or there was no memory, nothing was written, and it is 5.
abbrev pub Writes : Bytes → ℕ → ℕ → Option Bytes → Option Bytes → Type 0
Writes text wanted status before after = ((status ≡ wanted) × Takes before text after)
    ⊎ ((status ≡ 4) × TakesFront before text after)
    ⊎ ((status ≡ 5) × Takes before [] after)

-- a failure's line is written, where it has one
abbrev pub Reports : Option Bytes → ℕ → ℕ → Option Bytes → Option Bytes → Type 0
Reports (Some line) wanted status before after = Writes (ended line) wanted status before after
Reports None wanted status before after = (status ≡ wanted) × Takes before [] after

-- Its output is written with status 0; a failure has its own status.
abbrev pub Concludes : Result Bytes Failure → ℕ → Option Bytes → Option Bytes → Type 0
Concludes (Ok output) status before after = Writes output 0 status before after
Concludes (Err failure) status before after = Reports (line_of failure) (status_of failure) status before after

-- The program came to an outcome that is one of these, and with it to the status, and to what the sink has.
abbrev pub Ends : {K : Type 0} → a_sink.Ghosts K → K → K → ℕ → (Result Bytes Failure → Type 0) → Type 0
Ends OfSink sink sink_after status Comes = (outcome : _) × Concludes outcome status (OfSink.taken sink) (OfSink.taken sink_after) × Comes outcome
