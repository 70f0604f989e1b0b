-- Where a text stops being a cron text.
use Rattle.std.specs.Prelude.{◌≡◌, ◌<◌, ◌+◌, ℕ, zero, suc, Bool, true, false, List, [], ◌∷◌, ◌++◌, ◌==◌, cond, take, length}
use Rattle.sk_cron.specs.declared.part.Part.{Part}
use Rattle.sk_cron.specs.CronText.{IsCronText}
use Rattle.sk_cron.specs.declared.cron_fault.CronFault.{CronFault}

-- a cron text begins with it
abbrev pub GoesOn : List ℕ → Type 0
GoesOn text = (more : List ℕ) × (fields : List (List Part)) × IsCronText (text ++ more) fields

-- how many runs of spaces there are; whether a space stands before it
abbrev pub ended_after : Bool → List ℕ → ℕ
ended_after was [] = zero
ended_after was (x ∷ text) = cond (x == 32) (cond was (ended_after true text) (suc (ended_after true text))) (ended_after false text)

-- how many fields have ended, each by a space behind it
abbrev pub ended_fields : List ℕ → ℕ
ended_fields text = ended_after false text

-- The fault stands at the first byte with which no cron text goes on, or at the end of a text that is none and could go on. It names the field that
-- the text before it has reached.
pub record IsFault (text : List ℕ) (f : CronFault) : Type 0 where
  pub before : GoesOn (take f.place text)
  pub place : f.place < length text → GoesOn (take (f.place + 1) text) → ⊥
  pub none : (fields : List (List Part)) → IsCronText text fields → ⊥
  pub field : f.field ≡ ended_fields (take f.place text)
