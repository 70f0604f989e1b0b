-- Edits of rows keep the index of the sets' texts.
use Rattle.std.proofs.Common.{◌≡◌, ◌+◌, ◌<◌, ℕ, ℤ, zero, suc, Bool, true, false, List, [], ◌∷◌, Option, Some, None, IsSome, slice_get, subst, unwrap_or, refl, sym, arith, ap, ap₂, ◌∙◌}
use Rattle.std.specs.Prelude.{not}
use Rattle.std.specs.List.{remove, position_or_len}
use Rattle.std.specs.BTreeMap.{is_at}
use Rattle.std.specs.Cmp.Lexicographic.{slice_cmp}
use Rattle.std.specs.Ordering.{int_cmp, is_eq, nat_cmp, ordering_then}
use Rattle.std.specs.Set.{remove_key}
use Rattle.std.specs.declared.cmp.Ordering.{Ordering}
use Rattle.std.specs.declared.cmp.Ordering.TheVariants.{Less, Equal, Greater}
use Rattle.std.proofs.lemmas.Cmp.{tied_itself}
use Rattle.std.proofs.lemmas.Int.{ints}
use Rattle.std.proofs.lemmas.List.Sums.{sum_by-cons, sum_by-insert}
use Rattle.sk_resp.specs.Spelling.{Bytes}
use Rattle.sk_undo.specs.Sorted.{rank_past}
use Rattle.sk_undo.specs.Versions.{Versions, edited, begun, undone, committed}
use Rattle.sk_cmd.specs.declared.argument.Scored.{Scored}
use Rattle.sk_cmd.specs.declared.argument.Side.{Side}
use Rattle.sk_places.specs.LiveJobs.{one_if}
use Rattle.sk_places.specs.declared.row.Place.{Place}
use Rattle.sk_places.specs.declared.row.Place.TheVariants.{Queue, Private, Set}
use Rattle.sk_places.specs.declared.row.Row.{Row}
use Rattle.sk_places.specs.declared.row.RowKey.{RowKey}
use Rattle.sk_places.specs.Entries.{put_again, respotted, shifted}
use Rattle.sk_places.specs.PlaceOrder.{same_set, same_text}
use Rattle.sk_places.specs.RowLists.{is_list}
use Rattle.sk_places.specs.Rows.{put_row, set_rank, stands_before}
use Rattle.sk_places.specs.TextIndex.{AreTextsIndexed, IsTextIndex, WasTextIndex, count_in, is_key, key_at, key_of, rows_with, with_key, without_key}
use Rattle.sk_places.specs.TextKey.{Key, hash_cmp, key_cmp, key_in, key_total, text_order}
use Rattle.sk_table.specs.Hashing.{hash_of}
use Rattle.sk_places.proofs.Lists.{inserted_after}

-- ## Equal keys are the same

both_equal : (o p : Ordering) → is_eq (ordering_then o p) ≡ true → (o ≡ Equal) × (p ≡ Equal)
both_equal Less p h = absurd (cc h)
both_equal Equal Less h = absurd (cc h)
both_equal Equal Equal h = (refl, refl)
both_equal Equal Greater h = absurd (cc h)
both_equal Greater p h = absurd (cc h)

equal_is : (o : Ordering) → o ≡ Equal → is_eq o ≡ true
equal_is o h = ap is_eq h

same_score : (m n : ℤ) → int_cmp m n ≡ Equal → m ≡ n
same_score m n h = grind (arith, ints, h)

-- a key of the same set and text
pub same_place_of : (set : Scored) (text : Bytes) (key : Key) → is_eq (text_order set text key) ≡ true → (set ≡ key.0) × (text ≡ key.1)
same_place_of set text key h =
    let p = both_equal (nat_cmp (set_rank set) (set_rank key.0)) (hash_cmp text key.1) h in
    let q = both_equal (nat_cmp (hash_of text) (hash_of key.1)) (slice_cmp nat_cmp text key.1) (equal_is (hash_cmp text key.1) p.1) in
    (same_set set key.0 p.0, same_text text key.1 q.1)

pub same_key : (key other : Key) → is_at (key_cmp key) other ≡ true → key ≡ other
same_key key other h =
    let p = both_equal (text_order key.0 key.1 other) (int_cmp key.2 other.2) h in
    let q = same_place_of key.0 key.1 other (equal_is (text_order key.0 key.1 other) p.0) in
    ap₂ (λ s t. key_in s t key.2) q.0 q.1 ∙ ap (key_in other.0 other.1) (same_score key.2 other.2 p.1)

pub key_itself : (key : Key) → is_at (key_cmp key) key ≡ true
key_itself key = equal_is (key_cmp key key) (tied_itself key_total key)

-- ## How often there is a key

pub count_first : (key first : Key) (keys : List Key) → count_in key (first ∷ keys) ≡ one_if (is_at (key_cmp key) first) + count_in key keys
count_first key first keys = sum_by-cons (λ k. one_if (is_at (key_cmp key) k)) first keys

-- one less of the key that is taken out, and as many of each other key
taken_counts : (key gone : Key) (keys : List Key) → 0 < count_in gone keys → count_in key (remove_key (is_at (key_cmp gone)) keys) + one_if (is_at (key_cmp key) gone) ≡ count_in key keys
taken_counts key gone [] h = absurd (omega (arith, h))
taken_counts key gone (first ∷ keys) h = cases (is_at (key_cmp gone) first) refl (taken_counts key gone keys)
  where
    cases : (b : Bool) → is_at (key_cmp gone) first ≡ b → (0 < count_in gone keys → count_in key (remove_key (is_at (key_cmp gone)) keys) + one_if (is_at (key_cmp key) gone) ≡ count_in key keys)
        → count_in key (remove_key (is_at (key_cmp gone)) (first ∷ keys)) + one_if (is_at (key_cmp key) gone) ≡ count_in key (first ∷ keys)
    cases true e more =
        let t : remove_key (is_at (key_cmp gone)) (first ∷ keys) ≡ keys = grind (arith, e) in
        let s = ap (λ k. one_if (is_at (key_cmp key) k)) (same_key gone first e) in
        let c = count_first key first keys in
        ap (λ l. count_in key l + one_if (is_at (key_cmp key) gone)) t ∙ omega (arith, s, c)
    cases false e more =
        let t : remove_key (is_at (key_cmp gone)) (first ∷ keys) ≡ first ∷ remove_key (is_at (key_cmp gone)) keys = grind (arith, e) in
        let n = count_first gone first keys in
        let z : one_if (is_at (key_cmp gone) first) ≡ 0 = grind (arith, e) in
        let m = more (omega (arith, h, n, z)) in
        let c = count_first key first keys in
        let d = count_first key first (remove_key (is_at (key_cmp gone)) keys) in
        ap (λ l. count_in key l + one_if (is_at (key_cmp key) gone)) t ∙ omega (arith, c, d, m)

with_counts : (new : Option Key) (key : Key) (keys : List Key) → count_in key (with_key new keys) ≡ is_key new key + count_in key keys
with_counts None key keys = omega arith
with_counts (Some other) key keys = let s = sum_by-insert (λ k. one_if (is_at (key_cmp key) k)) keys (rank_past (key_cmp other) keys) other in s ∙ omega arith

without_counts : (gone : Option Key) (key : Key) (keys : List Key) → ((other : Key) → is_key gone other + 0 ≡ 1 → 0 < count_in other keys) → count_in key (without_key gone keys) + is_key gone key ≡ count_in key keys
without_counts None key keys h = omega arith
without_counts (Some other) key keys h = taken_counts key other keys (h other (ap (λ b. one_if b + 0) (key_itself other)))

pub rows_more : (key : Key) (row : Row) (rows : List Row) → rows_with key (row ∷ rows) ≡ is_key (key_of row) key + rows_with key rows
rows_more key row rows = sum_by-cons (λ r. is_key (key_of r) key) row rows

rows_put : (key : Key) (end : Side) (new : Row) (rows : List Row) → rows_with key (put_row end new rows) ≡ is_key (key_of new) key + rows_with key rows
rows_put key end new rows =
    let is = inserted_after (stands_before end new) new rows in
    let sum = sum_by-insert (λ r. is_key (key_of r) key) rows (position_or_len (λ row. not (stands_before end new row)) rows) new in
    ap (rows_with key) is ∙ sum ∙ omega arith

rows_removed : (key : Key) (rows : List Row) (at : ℕ) (row : Row) → slice_get rows at ≡ Some row → rows_with key (remove rows at) + is_key (key_of row) key ≡ rows_with key rows
rows_removed key [] at row is = cc is
rows_removed key (other ∷ rows) zero row is =
    let e : other ≡ row = cc is in
    let m = rows_more key other rows in
    let s = ap (λ r. is_key (key_of r) key) e in
    omega (arith, m, s)
rows_removed key (other ∷ rows) (suc at) row is =
    let again = rows_removed key rows at row is in
    let m = rows_more key other rows in
    let n = rows_more key other (remove rows at) in
    omega (arith, m, n, again)

-- ## Edits

texts_put : (end : Side) (new : Row) (rows : List Row) (keys : List Key) → IsTextIndex rows keys → IsTextIndex (put_row end new rows) (with_key (key_of new) keys)
texts_put end new rows keys i = record { counts = λ key. with_counts (key_of new) key keys ∙ ap (λ n. is_key (key_of new) key + n) (i.counts key) ∙ sym (rows_put key end new rows) }

texts_removed : (rows : List Row) (keys : List Key) (at : ℕ) (row : Row) → IsTextIndex rows keys → slice_get rows at ≡ Some row → IsTextIndex (remove rows at) (without_key (key_of row) keys)
texts_removed rows keys at row i is = record {
  counts = λ key.
      let there : (other : Key) → is_key (key_of row) other + 0 ≡ 1 → 0 < count_in other keys = λ other h. let r = rows_removed other rows at row is in let c = i.counts other in omega (arith, r, c, h) in
      let w = without_counts (key_of row) key keys there in
      let r = rows_removed key rows at row is in
      let c = i.counts key in
      omega (arith, w, r, c);
}

texts_shifted : (end : Side) (row_key : RowKey) (rows : List Row) (keys : List Key) (at : ℕ) (row : Row) → IsTextIndex rows keys → slice_get rows at ≡ Some row → IsTextIndex (shifted end at row_key rows) (with_key (key_of (respotted row_key row)) (without_key (key_of row) keys))
texts_shifted end row_key rows keys at row i is =
    subst (λ o. IsTextIndex (put_again end row_key o (remove rows at)) (with_key (key_of (respotted row_key row)) (without_key (key_of row) keys))) (sym is)
    (texts_put end (respotted row_key row) (remove rows at) (without_key (key_of row) keys) (texts_removed rows keys at row i is))

-- a row of a queue or a private list has no key
pub no_key : (place : Place) (score : ℤ) (text : Bytes) → is_list place ≡ true → key_at place score text ≡ None
no_key (Queue queue) score text h = refl
no_key (Private ident) score text h = refl
no_key (Set set) score text h = absurd (cc h)

-- ## In a step, or in none

module _ (s : Versions (List Row)) (t : Versions (List Key)) (a : AreTextsIndexed s t) where
  pub with_put : (end : Side) (new : Row) → AreTextsIndexed (edited (put_row end new s.current) s) (edited (with_key (key_of new) t.current) t)
  with_put end new = record { current = texts_put end new s.current t.current a.current; saved = a.saved }

  pub with_removed : (at : ℕ) (row : Row) → slice_get s.current at ≡ Some row → AreTextsIndexed (edited (remove s.current at) s) (edited (without_key (key_of row) t.current) t)
  with_removed at row is = record { current = texts_removed s.current t.current at row a.current is; saved = a.saved }

  pub with_shifted : (end : Side) (row_key : RowKey) (at : ℕ) (row : Row) → slice_get s.current at ≡ Some row → AreTextsIndexed (edited (shifted end at row_key s.current) s) (edited (with_key (key_of (respotted row_key row)) (without_key (key_of row) t.current)) t)
  with_shifted end row_key at row is = record { current = texts_shifted end row_key s.current t.current at row a.current is; saved = a.saved }

  -- a row that moves between queues and private lists
  pub with_moved : (end : Side) (row_key : RowKey) (at : ℕ) (row : Row) → is_list row.place ≡ true → is_list row_key.place ≡ true → slice_get s.current at ≡ Some row → AreTextsIndexed (edited (shifted end at row_key s.current) s) t
  with_moved end row_key at row from to is = record {
    current =
        subst (λ k. IsTextIndex (shifted end at row_key s.current) (with_key k t.current)) (no_key row_key.place row_key.score row.text to)
        (subst (λ k. IsTextIndex (shifted end at row_key s.current) (with_key (key_of (respotted row_key row)) (without_key k t.current))) (no_key row.place row.score row.text from) (texts_shifted end row_key s.current t.current at row a.current is));
    saved = a.saved;
  }

  pub with_begun : AreTextsIndexed (begun s) (begun t)
  with_begun = record { current = a.current; saved = a.current }

  pub with_committed : AreTextsIndexed (committed s) (committed t)
  with_committed = record { current = a.current; saved = tt }

saved_texts : (rows : List Row) (keys : List Key) (s : Option (List Row)) (t : Option (List Key)) → IsTextIndex rows keys → WasTextIndex s t → IsTextIndex (unwrap_or s rows) (unwrap_or t keys)
saved_texts rows keys None None i w = i
saved_texts rows keys None (Some b) i w = absurd w
saved_texts rows keys (Some r) None i w = absurd w
saved_texts rows keys (Some r) (Some b) i w = w

pub with_undone : (s : Versions (List Row)) (t : Versions (List Key)) → AreTextsIndexed s t → AreTextsIndexed (undone s) (undone t)
with_undone s t a = record { current = saved_texts s.current t.current s.saved t.saved a.current a.saved; saved = tt }

-- one is closed where the other is
pub texts_closed : (s : Option (List Row)) (t : Option (List Key)) → WasTextIndex s t → s ≡ None → t ≡ None
texts_closed None None w h = refl
texts_closed None (Some b) w h = absurd w
texts_closed (Some r) t w h = cc h

pub texts_open : (s : Option (List Row)) (t : Option (List Key)) → WasTextIndex s t → IsSome s → IsSome t
texts_open None t w h = cc h
texts_open (Some r) None w h = absurd w
texts_open (Some r) (Some b) w h = refl
