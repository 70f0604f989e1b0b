-- The table of the characters of ASCII that can be shown and stand for themselves in a string.
use Rattle.std.proofs.Common.{◌≡◌, ◌+◌, ◌<◌, ◌++◌, ℕ, zero, suc, List, [], ◌∷◌, Bool, true, false, ◌&&◌, not, cond, length, get_or, replicate, refl, sym, ap, subst, ◌∙◌, arith}
use Rattle.sk_payload.specs.Usual.{is_plain_ascii}

abbrev pub table : List Bool
table = replicate 32 false ++ (true ∷ true ∷ false ∷ replicate 57 true) ++ (false ∷ replicate 34 true) ++ replicate 129 false

abbrev is_same : Bool → Bool → Bool
is_same a b = cond a b (not b)

-- the entries are those of the bytes from this one on
abbrev are_from : List Bool → ℕ → Bool
are_from [] b = true
are_from (x ∷ xs) b = is_same x (is_plain_ascii b) && are_from xs (suc b)

same : (a b : Bool) → is_same a b ≡ true → a ≡ b
same true b h = sym h
same false true h = absurd (cc)
same false false h = refl

parts : (a b : Bool) → a && b ≡ true → (a ≡ true) × (b ≡ true)
parts true b h = (refl, h)
parts false b h = absurd (cc)

entry_is : (xs : List Bool) (b k : ℕ) → are_from xs b ≡ true → k < length xs → get_or xs k false ≡ is_plain_ascii (k + b)
entry_is [] b k are below = absurd (omega arith)
entry_is (x ∷ xs) b zero are below =
    let here : b ≡ 0 + b = omega arith in
    same x (is_plain_ascii b) (parts (is_same x (is_plain_ascii b)) (are_from xs (suc b)) are).0 ∙ ap is_plain_ascii here
entry_is (x ∷ xs) b (suc k) are below =
    let here : k + suc b ≡ suc k + b = omega arith in
    entry_is xs (suc b) k (parts (is_same x (is_plain_ascii b)) (are_from xs (suc b)) are).1 (omega arith) ∙ ap is_plain_ascii here

pub table_is : (b : ℕ) → b < 256 → get_or table b false ≡ is_plain_ascii b
table_is b below =
    let here : b + 0 ≡ b = omega arith in
    entry_is table 0 b refl (omega arith) ∙ ap is_plain_ascii here
