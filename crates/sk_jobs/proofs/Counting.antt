-- Numbers of queues, one name after another.
use Rattle.std.proofs.Common.{◌≡◌, ◌+◌, ◌++◌, ◌∙◌, ℕ, zero, suc, List, [], ◌∷◌, add-one, ap, ap₂, append_assoc, drop, length, map, sym}
use Rattle.std.specs.Prelude.{Some, slice_get}
use Rattle.sk_resp.specs.Spelling.{Bytes}
use Rattle.sk_places.specs.Rows.{rows_at}
use Rattle.sk_places.specs.declared.row.Place.TheVariants.{Queue}
use Rattle.sk_places.specs.declared.row.Row.{Row}
use Rattle.sk_jobs.specs.Counting.{waiting}

-- the name at an index stands first of those that are left there
front_name : (i : ℕ) (name : Bytes) (names : List Bytes) → slice_get names i ≡ Some name → drop i names ≡ name ∷ drop (suc i) names
front_name zero name [] e = absurd (cc e)
front_name zero name (n ∷ names) e = ap (λ x. x ∷ names) (cc e)
front_name (suc i) name [] e = absurd (cc e)
front_name (suc i) name (n ∷ names) e = front_name i name names e

-- one more queue was counted
pub one_counted : (rows : List Row) (names : List Bytes) (i : ℕ) (name : Bytes) (count : Bytes × ℕ) (before after : List (Bytes × ℕ)) → slice_get names i ≡ Some name → count.0 ≡ name → count.1 ≡ length (rows_at (Queue name) rows)
    → before ++ map (waiting rows) (drop i names) ≡ map (waiting rows) names → after ≡ before ++ count ∷ []
    → after ++ map (waiting rows) (drop (i + 1) names) ≡ map (waiting rows) names
one_counted rows names i name count before after e same number was put =
    let rest : List (Bytes × ℕ) = map (waiting rows) (drop (suc i) names) in
    let counted : count ≡ waiting rows name = ap₂ (λ (x : Bytes) (y : ℕ). (x, y)) same number in
    ap (λ k. after ++ map (waiting rows) (drop k names)) (add-one i)
    ∙ ap (λ l. l ++ rest) (put ∙ ap (λ x. before ++ x ∷ []) counted)
    ∙ append_assoc before (waiting rows name ∷ []) rest
    ∙ ap (λ l. before ++ map (waiting rows) l) (sym (front_name i name names e))
    ∙ was
