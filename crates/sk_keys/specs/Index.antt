-- The index of deadlines: each deadline with its key's name, the soonest first.
use Rattle.std.specs.Prelude.{◌≡◌, ◌==◌, ◌<◌, ℕ, List, [], ◌∷◌, Option, Some, None, Bool, true, false, cond, not, ◌&&◌, ◌||◌, nat_lt}
use Rattle.std.specs.Ordering.{nat_cmp, ordering_then}
use Rattle.std.specs.declared.cmp.Ordering.{Ordering}
use Rattle.std.specs.BTreeMap.{is_at}
use Rattle.std.specs.BTreeSet.{BTreeSet, contains}
use Rattle.sk_resp.specs.Spelling.{Bytes}
use Rattle.sk_value.specs.declared.entry.Entry.{Entry}
use Rattle.sk_resp.specs.WordOrder.{text_cmp}
use Rattle.sk_value.specs.Keys.{Keys, at}

abbrev pub Expiry : Type 0
Expiry = ℕ × Bytes

-- by the moment, and by the name where that is one
abbrev pub expiry_cmp : Expiry → Expiry → Ordering
expiry_cmp x y = ordering_then (nat_cmp x.0 y.0) (text_cmp x.1 y.1)

abbrev pub has : ℕ → Bytes → BTreeSet Expiry → Bool
has moment name expiries = contains expiry_cmp expiries (moment, name)

-- the deadline is that moment
abbrev pub is_moment : ℕ → Option ℕ → Bool
is_moment moment None = false
is_moment moment (Some deadline) = deadline == moment

-- what is held has a deadline, and it is that moment
abbrev pub goes_at : ℕ → Option Entry → Bool
goes_at moment None = false
goes_at moment (Some entry) = is_moment moment entry.deadline

-- The index has exactly the deadlines of the keys.
abbrev pub IsIndexed : Keys → BTreeSet Expiry → Type 0
IsIndexed keys expiries = (moment : ℕ) (name : Bytes) → has moment name expiries ≡ goes_at moment (at name keys)

-- ## One name

-- whether the moment with the other name is the pair of the name's deadline
abbrev pub is_pair : Bytes → Option ℕ → ℕ → Bytes → Bool
is_pair name deadline moment other = is_at (text_cmp name) other && is_moment moment deadline

abbrev pub AddsExpiry : Bytes → Option ℕ → BTreeSet Expiry → BTreeSet Expiry → Type 0
AddsExpiry name deadline before after = (moment : ℕ) (other : Bytes) → has moment other after ≡ is_pair name deadline moment other || has moment other before

abbrev pub DropsExpiry : Bytes → Option ℕ → BTreeSet Expiry → BTreeSet Expiry → Type 0
DropsExpiry name deadline before after = (moment : ℕ) (other : Bytes) → has moment other after ≡ not (is_pair name deadline moment other) && has moment other before

-- The index has this deadline of the name, and no other.
abbrev pub HasExpiry : Bytes → Option ℕ → BTreeSet Expiry → Type 0
HasExpiry name deadline expiries = (moment : ℕ) → has moment name expiries ≡ is_moment moment deadline

-- Afterwards it has this one, and what it had of other names.
abbrev pub SetsExpiry : Bytes → Option ℕ → BTreeSet Expiry → BTreeSet Expiry → Type 0
SetsExpiry name deadline before after = (moment : ℕ) (other : Bytes) → has moment other after ≡ cond (is_at (text_cmp name) other) (is_moment moment deadline) (has moment other before)

-- ## Time

-- the moment has reached the first deadline
abbrev pub is_first_over : ℕ → List Expiry → Bool
is_first_over now [] = false
is_first_over now (expiry ∷ expiries) = not (nat_lt now expiry.0)

-- Each deadline is ahead.
abbrev pub IsClear : ℕ → BTreeSet Expiry → Type 0
IsClear now expiries = (moment : ℕ) (name : Bytes) → has moment name expiries ≡ true → now < moment
