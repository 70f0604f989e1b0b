-- What is read of the places.
use Rattle.std.proofs.Common.{◌≡◌, ◌≤◌, ◌+◌, ℕ, zero, suc, List, [], ◌∷◌, ◌++◌, ap, arith, refl, length, map, take, drop}
use Rattle.std.specs.Prelude.{Some, slice_get}
use Rattle.sk_resp.specs.Spelling.{Bytes, bulk}
use Rattle.sk_places.specs.declared.row.Place.{Place}
use Rattle.sk_places.specs.declared.row.Row.{Row}
use Rattle.sk_places.specs.Rows.{rows_at, texts_at}
use Rattle.sk_keyspace.proofs.Scores.{map_part}

lengths : (rows : List Row) → length (map (λ (row : Row). row.text) rows) ≡ length rows
lengths [] = refl
lengths (row ∷ rows) = ap suc (lengths rows)

pub how_many_texts : (place : Place) (rows : List Row) → length (texts_at place rows) ≡ length (rows_at place rows)
how_many_texts place rows = lengths (rows_at place rows)

pub part_of_texts : (start end : ℕ) (place : Place) (rows : List Row) → map (λ (row : Row). row.text) (drop start (take end (rows_at place rows))) ≡ drop start (take end (texts_at place rows))
part_of_texts start end place rows = map_part (λ (row : Row). row.text) start end (rows_at place rows)

pub one_more_name : (names : List Bytes) (at : ℕ) (name : Bytes) → slice_get names at ≡ Some name → map bulk (take (at + 1) names) ≡ map bulk (take at names) ++ bulk name ∷ []
one_more_name [] at name e = absurd (cc e)
one_more_name (other ∷ names) zero name e = grind (arith, e)
one_more_name (other ∷ names) (suc at) name e = grind (arith, one_more_name names at name e)

pub all_names : (names : List Bytes) (count : ℕ) → length names ≤ count → map bulk (take count names) ≡ map bulk names
all_names [] zero e = refl
all_names [] (suc count) e = refl
all_names (name ∷ names) zero e = absurd (omega (arith, e))
all_names (name ∷ names) (suc count) e = grind (arith, all_names names count (omega (arith, e)))
