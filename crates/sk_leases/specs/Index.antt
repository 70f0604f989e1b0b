-- The index of deadlines: each deadline with its name, the soonest first. A pair may outstay its lease.
use Rattle.std.specs.Prelude.{◌≡◌, ◌<◌, ℕ, List, [], ◌∷◌, Bool, true, false, not, nat_lt}
use Rattle.std.specs.List.{count_by, list_all}
use Rattle.std.specs.Cmp.Lexicographic.{slice_cmp}
use Rattle.std.specs.Ordering.{nat_cmp, ordering_then}
use Rattle.std.specs.declared.cmp.Ordering.{Ordering}
use Rattle.std.specs.BTreeSet.{BTreeSet, contains}
use Rattle.sk_resp.specs.Spelling.{Bytes}
use Rattle.sk_leases.specs.Lease.{Lease}
use Rattle.sk_leases.specs.Lists.{standing}
use Rattle.sk_leases.specs.Parts.{is_over}

abbrev pub Expiry : Type 0
Expiry = ℕ × Bytes

-- by the deadline, then by the name's bytes
abbrev pub expiry_cmp : Expiry → Expiry → Ordering
expiry_cmp x y = ordering_then (nat_cmp x.0 y.0) (slice_cmp nat_cmp x.1 y.1)

abbrev pub is_expiry_in : BTreeSet Expiry → Lease → Bool
is_expiry_in expiries p = contains expiry_cmp expiries (p.1, p.0)

-- The index has the deadline of each of these.
abbrev pub covers : BTreeSet Expiry → List Lease → Bool
covers expiries ps = list_all (is_expiry_in expiries) ps

-- ## Time

-- the moment has reached the first deadline
abbrev pub is_first_over : ℕ → List Expiry → Bool
is_first_over now [] = false
is_first_over now (expiry ∷ expiries) = not (nat_lt now expiry.0)

-- Each deadline is ahead.
abbrev pub IsClear : ℕ → BTreeSet Expiry → Type 0
IsClear now expiries = (moment : ℕ) (name : Bytes) → contains expiry_cmp expiries (moment, name) ≡ true → now < moment

-- Each pair is still there.
abbrev pub HasMore : BTreeSet Expiry → BTreeSet Expiry → Type 0
HasMore before after = (p : Lease) → is_expiry_in before p ≡ true → is_expiry_in after p ≡ true

-- A pair with this name whose deadline the moment has reached is gone, and no other.
abbrev pub DropsExpiry : ℕ → Bytes → BTreeSet Expiry → BTreeSet Expiry → Type 0
DropsExpiry now name before after = (p : Lease) → is_expiry_in before p ≡ true → is_expiry_in after p ≡ false → is_over name now p ≡ true

-- ## A name

-- The leases of the name that are over are gone, and no others.
pub record TakesOver (name : Bytes) (now : ℕ) (before after : List Lease) : Type 0 where
  pub standing : standing now after ≡ standing now before
  pub none : count_by (is_over name now) after ≡ 0
  pub covered : (expiries : BTreeSet Expiry) → covers expiries before ≡ true → covers expiries after ≡ true
