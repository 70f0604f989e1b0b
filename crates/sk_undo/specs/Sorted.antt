-- Keys in the order of a comparison, and what is looked for among them.
use Rattle.std.specs.Prelude.{◌≡◌, ℕ, Bool, true, false, ◌&&◌, List, [], ◌∷◌, Option, Some, None, slice_get}
use Rattle.std.specs.List.{position_or_len}
use Rattle.std.specs.Ordering.{is_eq, is_le, is_lt}
use Rattle.std.specs.declared.cmp.Ordering.{Ordering}
use Rattle.sk_undo.specs.Partitioned.{all_pass}

module _ {K : Type 0} (cmp : K → K → Ordering) where
  -- in order
  abbrev pub is_ordered : List K → Bool
  is_ordered [] = true
  is_ordered (key ∷ keys) = all_pass (λ other. is_le (cmp key other)) keys && is_ordered keys

  -- in order, each once
  abbrev pub is_sorted : List K → Bool
  is_sorted [] = true
  is_sorted (key ∷ keys) = all_pass (λ other. is_lt (cmp key other)) keys && is_sorted keys

  -- As the keys rise, what is looked for comes to stand before them, and stays there.
  pub record IsQuery (order : K → Ordering) : Type 0 where
    pub le : (x y : K) → is_le (order x) ≡ true → is_le (cmp x y) ≡ true → is_le (order y) ≡ true
    pub lt : (x y : K) → is_lt (order x) ≡ true → is_le (cmp x y) ≡ true → is_lt (order y) ≡ true

module _ {K : Type 0} (order : K → Ordering) where
  -- how many keys stand before those that match
  abbrev pub rank : List K → ℕ
  rank keys = position_or_len (λ key. is_le (order key)) keys

  -- how many keys stand before those that are behind all that match
  abbrev pub rank_past : List K → ℕ
  rank_past keys = position_or_len (λ key. is_lt (order key)) keys

  -- The key is there, and matches.
  abbrev pub is_match : Option K → Bool
  is_match None = false
  is_match (Some key) = is_eq (order key)

  -- the same, where the answer is given for a key that isn't there
  abbrev pub is_match_or : Bool → Option K → Bool
  is_match_or last None = last
  is_match_or last (Some key) = is_eq (order key)

  -- A key matches. The first that does stands at the rank.
  abbrev pub is_found : List K → Bool
  is_found keys = is_match (slice_get keys (rank keys))
