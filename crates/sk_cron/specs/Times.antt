-- What a cron text means: the numbers of each field, and the civil minutes that match.
use Rattle.std.specs.Prelude.{◌≡◌, ◌<◌, ℕ, Bool, true, false, not, cond, ◌-◌, ◌%◌, ◌==◌, ◌&&◌, ◌||◌, nat_le, List, [], ◌∷◌, get_or}
use Rattle.std.specs.List.{list_any}
use Rattle.sk_cron.specs.declared.bounds.Bounds.{Bounds}
use Rattle.sk_cron.specs.declared.part.Part.{Part}
use Rattle.sk_cron.specs.declared.part.Part.TheVariants as part
use Rattle.sk_cron.specs.CronText.{minutes, hours, days, months, weekdays, IsCronText}
use Rattle.sk_cron.specs.declared.civil.Civil.{Civil}

-- the part of a field has the number
abbrev pub has : Bounds → Part → ℕ → Bool
has b (part.Number n) v = v == n
has b (part.Range first last step) v = nat_le first v && nat_le v last && ((v - first) % step == 0)
has b part.Star v = nat_le b.low v && nat_le v b.high
has b (part.StarStep step) v = nat_le b.low v && nat_le v b.high && ((v - b.low) % step == 0)

-- how far apart the numbers are
abbrev pub step_of : Part → ℕ
step_of (part.Number n) = 1
step_of (part.Range first last step) = step
step_of part.Star = 1
step_of (part.StarStep step) = step

-- the field has the number
abbrev pub has_any : Bounds → List Part → ℕ → Bool
has_any b parts v = list_any (λ p. has b p v) parts

-- A field is restricted where it isn't `*`.
abbrev pub is_restricted : List Part → Bool
is_restricted (part.Star ∷ []) = not true
is_restricted parts = true

-- the numbers of the five fields: for each number from 0 on, whether it is one
pub record Times : Type 0 where
  pub minute : List Bool
  pub hour : List Bool
  pub day : List Bool
  pub month : List Bool
  pub weekday : List Bool
  pub days_restricted : Bool
  pub weekdays_restricted : Bool

abbrev pub is_one : List Bool → ℕ → Bool
is_one numbers v = get_or numbers v false

-- These are the field's numbers below 60; no field has another.
abbrev pub AreNumbers : Bounds → List Part → List Bool → Type 0
AreNumbers b parts numbers = (v : ℕ) → v < 60 → is_one numbers v ≡ has_any b parts v

pub record MeanFields (fields : List (List Part)) (t : Times) : Type 0 where
  pub minute : AreNumbers minutes (get_or fields 0 []) t.minute
  pub hour : AreNumbers hours (get_or fields 1 []) t.hour
  pub day : AreNumbers days (get_or fields 2 []) t.day
  pub month : AreNumbers months (get_or fields 3 []) t.month
  pub weekday : AreNumbers weekdays (get_or fields 4 []) t.weekday
  pub days_restricted : t.days_restricted ≡ is_restricted (get_or fields 2 [])
  pub weekdays_restricted : t.weekdays_restricted ≡ is_restricted (get_or fields 4 [])

-- the text is a cron text that means these times
abbrev pub Means : List ℕ → Times → Type 0
Means text t = (fields : List (List Part)) × IsCronText text fields × MeanFields fields t

-- Sunday is 0, and 7 as well
abbrev pub is_weekday : Times → ℕ → Bool
is_weekday t weekday = (nat_le weekday 6 && is_one t.weekday weekday) || ((weekday == 0) && is_one t.weekday 7)

-- Where both day fields are restricted, either of them may match.
abbrev pub is_day : Times → Civil → Bool
is_day t c = cond (t.days_restricted && t.weekdays_restricted) (is_one t.day c.day || is_weekday t c.weekday) (is_one t.day c.day && is_weekday t c.weekday)

abbrev pub matches : Times → Civil → Bool
matches t c = is_one t.minute c.minute && is_one t.hour c.hour && is_one t.month c.month && is_day t c
