-- Edits keep the order of rows, and the number of their texts' bytes is counted on.
use Rattle.std.proofs.Common.{◌≡◌, ◌+◌, ◌-◌, ◌*◌, ◌^◌, ◌<◌, ◌≤◌, ℕ, zero, suc, true, List, [], ◌∷◌, Option, Some, None, length, slice_get, sym, arith, ap, subst, ◌∙◌, not, unwrap_or, IsSome}
use Rattle.std.specs.List.{remove, position_or_len}
use Rattle.std.proofs.lemmas.List.Sums.{sum_by-cons, sum_by-insert}
use Rattle.std.proofs.lemmas.Bool.Decides.{nat_tests}
use Rattle.sk_undo.specs.Balance.{most}
use Rattle.sk_undo.specs.Partitioned.{all_pass}
use Rattle.sk_cmd.specs.declared.argument.Side.{Side}
use Rattle.sk_places.specs.declared.row.Row.{Row}
use Rattle.sk_places.specs.declared.row.RowKey.{RowKey}
use Rattle.sk_places.specs.Entries.{respotted, put_again, shifted}
use Rattle.sk_places.specs.Order.{RowInvariant, WereKept, bytes_of, is_short}
use Rattle.sk_places.specs.Rows.{put_row, stands_before}
use Rattle.sk_places.proofs.Lists.{all_insert, all_remove, inserted_after}
use Rattle.sk_places.proofs.Rising.{ordered_put, ordered_remove}

bytes_small : (rows : List Row) → all_pass is_short rows ≡ true → bytes_of rows ≤ length rows * 2 ^ 64
bytes_small [] h = omega arith
bytes_small (row ∷ rows) h =
    let e = sum_by-cons (λ r. length r.text) row rows in
    let s : length row.text < 2 ^ 64 = grind (arith, nat_tests, h) in
    let rest = bytes_small rows (grind (arith, h)) in
    omega (arith, e, s, rest)

-- the sum of the lengths of 2^62 texts fits 128 bits
pub bytes_fit : (rows : List Row) (bytes : ℕ) → RowInvariant rows bytes → length rows ≤ most → bytes < 2 ^ 127
bytes_fit rows bytes k h = let b = bytes_small rows k.short in omega (arith, b, h, k.sum)

pub kept_put : (end : Side) (new : Row) (rows : List Row) (bytes : ℕ) → RowInvariant rows bytes → length new.text < 2 ^ 64 → RowInvariant (put_row end new rows) (bytes + length new.text)
kept_put end new rows bytes k h =
    let at : ℕ = position_or_len (λ row. not (stands_before end new row)) rows in
    let is = inserted_after (stands_before end new) new rows in
    record {
      ordered = ordered_put end new rows k.ordered;
      short = ap (all_pass is_short) is ∙ all_insert is_short rows at new k.short (grind (arith, nat_tests, h));
      sum = ap (λ n. n + length new.text) k.sum ∙ sym (ap bytes_of is ∙ sum_by-insert (λ row. length row.text) rows at new);
    }

short_at : (rows : List Row) (at : ℕ) (row : Row) → all_pass is_short rows ≡ true → slice_get rows at ≡ Some row → length row.text < 2 ^ 64
short_at [] at row h is = cc is
short_at (other ∷ rows) zero row h is = let e : other ≡ row = cc is in subst (λ r. length r.text < 2 ^ 64) e (grind (arith, nat_tests, h))
short_at (other ∷ rows) (suc at) row h is = short_at rows at row (grind (arith, h)) is

sum_at : (rows : List Row) (at : ℕ) (row : Row) → slice_get rows at ≡ Some row → bytes_of (remove rows at) + length row.text ≡ bytes_of rows
sum_at [] at row is = cc is
sum_at (other ∷ rows) zero row is = let e : other ≡ row = cc is in let s = sum_by-cons (λ r. length r.text) other rows in let l = ap (λ r. length r.text) e in omega (arith, s, l)
sum_at (other ∷ rows) (suc at) row is = let s = sum_by-cons (λ r. length r.text) other rows in let t = sum_by-cons (λ r. length r.text) other (remove rows at) in let r = sum_at rows at row is in omega (arith, s, t, r)

pub kept_removed : (rows : List Row) (bytes at : ℕ) (row : Row) → RowInvariant rows bytes → slice_get rows at ≡ Some row → RowInvariant (remove rows at) (bytes - length row.text)
kept_removed rows bytes at row k is =
    let s = sum_at rows at row is in
    record {
      ordered = ordered_remove rows at k.ordered;
      short = all_remove is_short rows at k.short;
      sum = omega (arith, s, k.sum);
    }

pub enough : (rows : List Row) (bytes at : ℕ) (row : Row) → RowInvariant rows bytes → slice_get rows at ≡ Some row → length row.text ≤ bytes
enough rows bytes at row k is = let s = sum_at rows at row is in omega (arith, s, k.sum)

pub kept_shifted : (end : Side) (row_key : RowKey) (rows : List Row) (bytes at : ℕ) (row : Row) → RowInvariant rows bytes → slice_get rows at ≡ Some row → RowInvariant (shifted end at row_key rows) bytes
kept_shifted end row_key rows bytes at row k is =
    let less = kept_removed rows bytes at row k is in
    let more = kept_put end (respotted row_key row) (remove rows at) (bytes - length row.text) less (short_at rows at row k.short is) in
    let e : bytes - length row.text + length row.text ≡ bytes = (let n = enough rows bytes at row k is in omega (arith, n)) in
    subst (λ o. RowInvariant (put_again end row_key o (remove rows at)) bytes) (sym is) (subst (λ n. RowInvariant (put_row end (respotted row_key row) (remove rows at)) n) e more)

pub undone_kept : (rows : List Row) (saved : Option (List Row)) (bytes : ℕ) → IsSome saved → WereKept saved bytes → RowInvariant (unwrap_or saved rows) bytes
undone_kept rows None bytes h k = cc h
undone_kept rows (Some old) bytes h k = k
