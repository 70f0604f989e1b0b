-- How much the store takes.
use Rattle.std.specs.Prelude.{ℕ, ◌+◌, ◌<◌, ◌≤◌, List, [], ◌∷◌, length, map, Bool, false, ◌||◌, cond}
use Rattle.std.specs.Prelude.{nat_lt}
use Rattle.std.specs.List.{sum}
use Rattle.sk_base.specs.declared.limits.TheConstants.{MOST_PUSHES}
use Rattle.sk_resp.specs.Spelling.{Bytes}
use Rattle.sk_resp.specs.declared.refusal.Refusal.TheVariants.{Full}
use Rattle.sk_places.specs.Totals.{pushes_in}
use Rattle.sk_places.specs.declared.totals.Totals.{Totals}
use Rattle.sk_model.specs.World.{World}
use Rattle.sk_model.specs.Outcome.{Outcome, refuses}

-- the bytes of texts together
abbrev pub bytes_of : List Bytes → ℕ
bytes_of texts = sum (map length texts)

abbrev pub texts_in : World → List Bytes
texts_in w = map (λ row. row.text) w.rows

-- no store takes more pushes than these, from its first moment on
abbrev pub most_pushes : ℕ
most_pushes = MOST_PUSHES

-- clients may push so many more rows; none they always may
abbrev pub HasRoom : ℕ → Totals → Type 0
HasRoom count t = 0 < count → pushes_in t + count ≤ most_pushes

-- With these texts, all counted as new, there would be too much.
abbrev pub is_full : World → List Bytes → Bool
is_full w texts = nat_lt w.limits.rows (length w.rows + length texts)
    || (nat_lt w.limits.bytes (bytes_of (texts_in w) + bytes_of texts) || nat_lt most_pushes (pushes_in w.tally + length texts))

-- a push of nothing is never too much
abbrev pub is_too_much : World → List Bytes → Bool
is_too_much w [] = false
is_too_much w (text ∷ texts) = is_full w (text ∷ texts)

-- what a push of these texts comes to
abbrev pub where_room : World → List Bytes → Outcome → Outcome
where_room w texts o = cond (is_full w texts) (refuses Full) o
