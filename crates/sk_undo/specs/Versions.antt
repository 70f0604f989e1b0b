-- What contracts see of an open step: what stands now, and what stood at its begin.
use Rattle.std.specs.Prelude.{◌≡◌, Bool, true, Option, Some, None, option_map, unwrap_or, refl}
use Rattle.std.specs.Coded.{Coded, code_by, coded×, coded_option}

pub record Versions (A : Type 0) : Type 0 where
  pub current : A
  -- None where no step is open
  pub saved : Option A

abbrev pub versions_code : {A : Type 0} → Coded A → Coded (Versions A)
versions_code {A} c = code_by (A × Option A) (coded× c (coded_option c)) (λ s. (s.current, s.saved)) (λ p. record { current = p.0; saved = p.1 }) (λ _. refl)

module _ {A : Type 0} where
  -- no step is open
  abbrev pub closed : A → Versions A
  closed a = record { current = a; saved = None }

  -- what a call but begin, undo and commit does: what stood stays
  abbrev pub edited : A → Versions A → Versions A
  edited a s = record { current = a; saved = s.saved }

  abbrev pub begun : Versions A → Versions A
  begun s = record { current = s.current; saved = Some s.current }

  -- what stood stands again
  abbrev pub undone : Versions A → Versions A
  undone s = closed (unwrap_or s.saved s.current)

  abbrev pub committed : Versions A → Versions A
  committed s = closed s.current

-- Two parts of one thing, whose steps are opened and closed together.
module _ {A B C : Type 0} (f : A → B → C) where
  abbrev pub both_saved : Option A → Option B → Option C
  both_saved (Some a) (Some b) = Some (f a b)
  both_saved (Some a) None = None
  both_saved None o = None

  abbrev pub both : Versions A → Versions B → Versions C
  both s t = record { current = f s.current t.current; saved = both_saved s.saved t.saved }

-- The same of what stands and of what stood.
abbrev pub map_versions : {A B : Type 0} → (A → B) → Versions A → Versions B
map_versions f s = record { current = f s.current; saved = option_map f s.saved }

module _ {A : Type 0} (t : A → Bool) where
  abbrev pub passed : Option A → Bool
  passed None = true
  passed (Some a) = t a

  -- what stands passes, and what stood did
  pub record BothPass (s : Versions A) : Type 0 where
    pub current : t s.current ≡ true
    pub saved : passed s.saved ≡ true
