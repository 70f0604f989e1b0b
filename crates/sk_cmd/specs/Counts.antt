-- How many words follow a command's name.
use Rattle.std.specs.Prelude.{◌≡◌, ◌≢◌, ◌<◌, ◌≤◌, ◌⊎◌, ◌%◌, ◌==◌, ◌&&◌, ◌||◌, nat_le, ℕ, [], ◌∷◌, length, Ok, Err, Bool, true, false}
use Rattle.sk_resp.specs.Spelling.{Bytes}
use Rattle.sk_resp.specs.Request.{Command as Words}
use Rattle.sk_resp.specs.declared.name.Name.{Name}
use Rattle.sk_cmd.specs.declared.cmd_fault.CmdFault.TheVariants as fault
use Rattle.sk_cmd.specs.Reading.{Read}

-- ## Exactly so many

abbrev pub IsZero : Name → Words → Read Unit → Type 0
IsZero name words (Ok _) = words ≡ []
IsZero name words (Err e) = (e ≡ fault.Arity name) × (length words ≢ 0)

abbrev pub IsOne : Name → Words → Read Bytes → Type 0
IsOne name words (Ok a) = words ≡ a ∷ []
IsOne name words (Err e) = (e ≡ fault.Arity name) × (length words ≢ 1)

abbrev pub IsTwo : Name → Words → Read (Bytes × Bytes) → Type 0
IsTwo name words (Ok p) = words ≡ p.0 ∷ p.1 ∷ []
IsTwo name words (Err e) = (e ≡ fault.Arity name) × (length words ≢ 2)

abbrev pub IsThree : Name → Words → Read (Bytes × Bytes × Bytes) → Type 0
IsThree name words (Ok p) = words ≡ p.0 ∷ p.1 ∷ p.2 ∷ []
IsThree name words (Err e) = (e ≡ fault.Arity name) × (length words ≢ 3)

abbrev pub IsFour : Name → Words → Read (Bytes × Bytes × Bytes × Bytes) → Type 0
IsFour name words (Ok p) = words ≡ p.0 ∷ p.1 ∷ p.2 ∷ p.3 ∷ []
IsFour name words (Err e) = (e ≡ fault.Arity name) × (length words ≢ 4)

-- ## Some in front, where their number fits

-- at least one, and all of them
abbrev pub IsSome : Name → Words → Read Words → Type 0
IsSome name words (Ok all) = (all ≡ words) × (1 ≤ length words)
IsSome name words (Err e) = (e ≡ fault.Arity name) × (length words < 1)

abbrev pub IsOneAnd : Name → Bool → Words → Read (Bytes × Words) → Type 0
IsOneAnd name fits words (Ok p) = (fits ≡ true) × (words ≡ p.0 ∷ p.1)
IsOneAnd name fits words (Err e) = (e ≡ fault.Arity name) × ((length words < 1) ⊎ (fits ≡ false))

abbrev pub IsTwoAnd : Name → Bool → Words → Read (Bytes × Bytes × Words) → Type 0
IsTwoAnd name fits words (Ok p) = (fits ≡ true) × (words ≡ p.0 ∷ p.1 ∷ p.2)
IsTwoAnd name fits words (Err e) = (e ≡ fault.Arity name) × ((length words < 2) ⊎ (fits ≡ false))

abbrev pub IsThreeAnd : Name → Bool → Words → Read (Bytes × Bytes × Bytes × Words) → Type 0
IsThreeAnd name fits words (Ok p) = (fits ≡ true) × (words ≡ p.0 ∷ p.1 ∷ p.2 ∷ p.3)
IsThreeAnd name fits words (Err e) = (e ≡ fault.Arity name) × ((length words < 3) ⊎ (fits ≡ false))

-- five, and any number more
abbrev pub IsFiveAnd : Name → Words → Read (Bytes × Bytes × Bytes × Bytes × Bytes × Words) → Type 0
IsFiveAnd name words (Ok p) = words ≡ p.0 ∷ p.1 ∷ p.2 ∷ p.3 ∷ p.4 ∷ p.5
IsFiveAnd name words (Err e) = (e ≡ fault.Arity name) × (length words < 5)

abbrev pub is_odd : ℕ → Bool
is_odd n = (n % 2) == 1

-- from the least to the most
abbrev pub is_from : ℕ → ℕ → ℕ → Bool
is_from least most n = nat_le least n && nat_le n most

-- 3, 4, 6 or 7: a key and two bounds, with no option, with one of one word, with one of three, and with both
abbrev pub is_range_count : ℕ → Bool
is_range_count n = is_from 3 4 n || is_from 6 7 n
