-- How many bytes the rows' texts have.
use Rattle.std.proofs.Common.{◌≡◌, ◌+◌, List, [], ◌∷◌, ap, suc, arith, refl, map, length}
use Rattle.std.proofs.lemmas.List.Sums.{sum_by-cons, sum-map}
use Rattle.sk_resp.specs.Spelling.{Bytes}
use Rattle.sk_zset.specs.Pair.{Pair}
use Rattle.sk_places.specs.declared.row.Row.{Row}
use Rattle.sk_places.specs.Order.{bytes_of as row_bytes}
use Rattle.sk_model.specs.Room.{bytes_of}

pub bytes_are : (rows : List Row) → row_bytes rows ≡ bytes_of (map (λ (row : Row). row.text) rows)
bytes_are [] = refl
bytes_are (row ∷ rows) =
    let texts : List Bytes = map (λ (row : Row). row.text) rows in
    omega (arith, bytes_are rows, sum_by-cons (λ (row : Row). length row.text) row rows, sum_by-cons length row.text texts, sum-map length (row.text ∷ texts), sum-map length texts)

pub one_more : (text : Bytes) (texts : List Bytes) → bytes_of (text ∷ texts) ≡ length text + bytes_of texts
one_more text texts = omega (arith, sum_by-cons length text texts, sum-map length (text ∷ texts), sum-map length texts)

pub how_many_pairs : (pairs : List Pair) → length (map (λ (pair : Pair). pair.1) pairs) ≡ length pairs
how_many_pairs [] = refl
how_many_pairs (pair ∷ pairs) = ap suc (how_many_pairs pairs)
