-- Texts of crontab (POSIX, "crontab"): five fields, minute, hour, day of the month, month and weekday. A weekday 7, which is Sunday as 0 is, and
-- steps are additions.
use Rattle.std.specs.Prelude.{◌≤◌, ◌+◌, ◌*◌, ℕ, zero, suc, List, [], ◌∷◌, ◌++◌}
use Rattle.sk_cron.specs.declared.bounds.Bounds.{Bounds}
use Rattle.sk_cron.specs.declared.part.Part.{Part}
use Rattle.sk_cron.specs.declared.part.Part.TheVariants as part

abbrev pub minutes : Bounds
minutes = record { low = 0; high = 59 }

abbrev pub hours : Bounds
hours = record { low = 0; high = 23 }

abbrev pub days : Bounds
days = record { low = 1; high = 31 }

abbrev pub months : Bounds
months = record { low = 1; high = 12 }

abbrev pub weekdays : Bounds
weekdays = record { low = 0; high = 7 }

-- one or two digits
pub data IsNumber : List ℕ → ℕ → Type 0 where
  one : (d : ℕ) → d ≤ 9 → IsNumber ((48 + d) ∷ []) d
  two : (d e : ℕ) → d ≤ 9 → e ≤ 9 → IsNumber ((48 + d) ∷ (48 + e) ∷ []) (10 * d + e)

-- a number; `first-last`, `*`, and each of these two with `/step` behind it
pub data IsPart (b : Bounds) : List ℕ → Part → Type 0 where
  is_number : (text : List ℕ) (n : ℕ) → IsNumber text n → b.low ≤ n → n ≤ b.high → IsPart b text (part.Number n)
  is_range : (from to : List ℕ) (first last : ℕ) → IsNumber from first → IsNumber to last → b.low ≤ first → first ≤ last → last ≤ b.high →
      IsPart b (from ++ 45 ∷ to) (part.Range first last 1)
  is_range_step : (from to by : List ℕ) (first last step : ℕ) → IsNumber from first → IsNumber to last → IsNumber by step → b.low ≤ first →
      first ≤ last → last ≤ b.high → 1 ≤ step → step ≤ b.high → IsPart b (from ++ 45 ∷ (to ++ 47 ∷ by)) (part.Range first last step)
  is_star : IsPart b (42 ∷ []) part.Star
  is_star_step : (by : List ℕ) (step : ℕ) → IsNumber by step → 1 ≤ step → step ≤ b.high → IsPart b (42 ∷ 47 ∷ by) (part.StarStep step)

-- parts with commas between them
pub data IsField (b : Bounds) : List ℕ → List Part → Type 0 where
  last_part : (text : List ℕ) (p : Part) → IsPart b text p → IsField b text (p ∷ [])
  more_parts : (text more : List ℕ) (p : Part) (ps : List Part) → IsPart b text p → IsField b more ps → IsField b (text ++ 44 ∷ more) (p ∷ ps)

abbrev pub spaces : ℕ → List ℕ
spaces zero = []
spaces (suc n) = 32 ∷ spaces n

-- fields with one or more spaces between them
pub data AreFields : List Bounds → List ℕ → List (List Part) → Type 0 where
  last_field : (b : Bounds) (text : List ℕ) (ps : List Part) → IsField b text ps → AreFields (b ∷ []) text (ps ∷ [])
  more_fields : (b : Bounds) (bs : List Bounds) (text more : List ℕ) (ps : List Part) (fields : List (List Part)) (n : ℕ) → IsField b text ps →
      AreFields bs more fields → AreFields (b ∷ bs) (text ++ 32 ∷ (spaces n ++ more)) (ps ∷ fields)

abbrev pub five : List Bounds
five = minutes ∷ hours ∷ days ∷ months ∷ weekdays ∷ []

-- the text is a cron text with these fields
abbrev pub IsCronText : List ℕ → List (List Part) → Type 0
IsCronText text fields = AreFields five text fields
