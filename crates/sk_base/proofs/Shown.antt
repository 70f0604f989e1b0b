-- Characters of ASCII that can be shown are text.
use Rattle.std.proofs.Common.{◌≢◌, ◌<◌, ◌≤◌, ℕ, List, [], ◌∷◌, All, get_or, zero, suc, IsAscii, arith}
use Rattle.std.specs.Str.{IsUtf8}
use Rattle.std.proofs.lemmas.Str.{IsUtf8-from_ascii}

are_ascii : (s : List ℕ) → All (λ b. (32 ≤ b) × (b < 127)) s → IsAscii s
are_ascii [] h = λ i. omega arith
are_ascii (b ∷ s) h = λ i. elim i as (λ j. get_or (b ∷ s) j 0 < 128) [ zero ↦ omega (arith, h 0 0 (omega arith)) | suc j ↦ are_ascii s (λ k d lt. h (suc k) d (omega arith)) j ]

pub ascii_is_shown : (s : List ℕ) → All (λ b. (32 ≤ b) × (b < 127)) s → IsUtf8 s × All (λ b. (32 ≤ b) × (b ≢ 127)) s
ascii_is_shown s h = (IsUtf8-from_ascii s (are_ascii s h), λ k d lt. let p = h k d lt in (p.0, λ e. omega (arith, p.1, e)))
