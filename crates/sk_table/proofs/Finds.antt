-- What the bucket at a text's address tells of the table, and what an edit of it makes of the table.
use Rattle.std.proofs.Common.{◌≡◌, ◌<◌, ◌≤◌, ◌+◌, ℕ, zero, suc, cond, List, [], ◌∷◌, ◌++◌, Option, Some, None, length, slice_get, slice_set, slice_index_or, option_map, refl, sym, ap, subst, ◌∙◌, option_and_then, arith}
use Rattle.std.specs.BTreeMap.{is_at}
use Rattle.std.specs.List.{remove}
use Rattle.std.specs.Map.{set_value}
use Rattle.std.proofs.lemmas.List.{length-set}
use Rattle.std.proofs.lemmas.Option.{slice_get_past, slice_get_read}
use Rattle.sk_resp.specs.Spelling.{Bytes}
use Rattle.sk_resp.specs.WordOrder.{text_cmp}
use Rattle.sk_table.specs.Entries.{at, with_text, without_text}
use Rattle.sk_table.specs.Hashing.{address, hash_of}
use Rattle.sk_table.specs.Slots.{IsBucket, place_of, value_in, with_value}
use Rattle.sk_table.specs.Table.{IsTable, all_entries, table_in}
use Rattle.sk_table.specs.declared.slot.Slot.{Slot}
use Rattle.sk_table.proofs.Buckets.{placed_set, table_at, table_here, table_set}
use Rattle.sk_table.proofs.Edits.{bucket_push, bucket_remove, bucket_with, value_push, value_remove, value_with}
use Rattle.sk_table.proofs.Ordered.{at_set, at_with, at_without, same_entries, up_in_order, up_set, up_with, up_without}

set_same : {X : Type 0} (xs : List X) (here : ℕ) (x : X) → here < length xs → x ≡ slice_index_or xs here x → slice_set xs here x ≡ xs
set_same [] here x within read = absurd (grind (arith, within))
set_same (first ∷ xs) zero x within read = ap (λ y. y ∷ xs) read
set_same (first ∷ xs) (suc here) x within read = ap (λ l. first ∷ l) (set_same xs here x (grind (arith, within)) read)

pub place_from : (half count total here hash : ℕ) (text : Bytes) → count ≡ total → hash ≡ hash_of text → here ≡ address half count hash → here ≡ address half total (hash_of text)
place_from half count total here hash text counts hashes is = is ∙ ap (λ n. address half n hash) counts ∙ ap (address half total) hashes

module _ {K V : Type 0} (text_of : K → Bytes) (half : ℕ) (buckets : List (List (Slot K V))) (is : IsTable text_of half buckets) where
  module _ (text : Bytes) (here : ℕ) (place : here ≡ address half (length buckets) (hash_of text)) where
    pub none_beyond : length buckets ≤ here → at text (table_in text_of buckets) ≡ None
    none_beyond past = table_at text_of half buckets is.placed text ∙ ap (option_and_then (value_in text_of text)) (ap (slice_get buckets) (sym place) ∙ slice_get_past buckets here past)

    module _ (bucket : List (Slot K V)) (within : here < length buckets) (read : bucket ≡ slice_index_or buckets here bucket) where
      there : slice_get buckets here ≡ Some bucket
      there = slice_get_read buckets (length buckets) here bucket refl within read

      pub bucket_is : IsBucket text_of half (length buckets) here bucket
      bucket_is = is.placed here bucket there

      pub table_read : value_in text_of text bucket ≡ at text (table_in text_of buckets)
      table_read = sym (table_here text_of half buckets is.placed text bucket (ap (slice_get buckets) (sym place) ∙ there))

      -- the table with another bucket here
      pub table_is_set : (new : List (Slot K V)) → IsBucket text_of half (length buckets) here new → IsTable text_of half (slice_set buckets here new)
      table_is_set new new_is = record {
        low = subst (λ n. half ≤ n) (sym (length-set buckets here new)) is.low;
        high = subst (λ n. n ≤ half + half) (sym (length-set buckets here new)) is.high;
        small = is.small;
        placed = placed_set text_of half buckets is.placed here bucket new there new_is;
      }

      edited : (new : List (Slot K V)) → IsBucket text_of half (length buckets) here new → (value : Option V) → ((other : Bytes) → value_in text_of other new ≡ cond (is_at (text_cmp text) other) value (value_in text_of other bucket))
          → (other : Bytes) → at other (table_in text_of (slice_set buckets here new)) ≡ cond (is_at (text_cmp text) other) value (at other (table_in text_of buckets))
      edited new new_is value edit = table_set text_of half buckets is.placed here bucket new there new_is text value place edit

      -- the table with the same bucket here
      pub table_as_was : IsTable text_of half (slice_set buckets here bucket)
      table_as_was = table_is_set bucket bucket_is

      pub same_as_was : slice_set buckets here bucket ≡ buckets
      same_as_was = set_same buckets here bucket within read

      -- ## One more

      module _ (slot : Slot K V) (own : text_of slot.key ≡ text) (hash : slot.hash ≡ hash_of text) (none : at text (table_in text_of buckets) ≡ None) where
        abbrev pub pushed : List (Slot K V)
        pushed = bucket ++ slot ∷ []

        absent : value_in text_of (text_of slot.key) bucket ≡ None
        absent = ap (λ t. value_in text_of t bucket) own ∙ table_read ∙ none

        pushed_is : IsBucket text_of half (length buckets) here pushed
        pushed_is = bucket_push text_of bucket slot bucket_is absent (hash ∙ ap hash_of (sym own)) (ap (address half (length buckets)) hash ∙ sym place)

        pub table_pushed : IsTable text_of half (slice_set buckets here pushed)
        table_pushed = table_is_set pushed pushed_is

        pub put_pushed : table_in text_of (slice_set buckets here pushed) ≡ with_text text slot.value (table_in text_of buckets)
        put_pushed = same_entries _ _ (up_in_order (all_entries text_of (slice_set buckets here pushed))) (up_with text slot.value (table_in text_of buckets) (up_in_order (all_entries text_of buckets)))
            (λ other. edited pushed pushed_is (Some slot.value) (λ t. value_push text_of t bucket slot absent ∙ ap (λ own. cond (is_at (text_cmp own) t) (Some slot.value) (value_in text_of t bucket)) own) other
            ∙ sym (at_with text other slot.value (table_in text_of buckets)))

      -- ## One less

      abbrev pub shorter : List (Slot K V)
      shorter = remove bucket (place_of text_of text bucket)

      shorter_is : IsBucket text_of half (length buckets) here shorter
      shorter_is = bucket_remove text_of bucket (place_of text_of text bucket) bucket_is

      pub table_removed : IsTable text_of half (slice_set buckets here shorter)
      table_removed = table_is_set shorter shorter_is

      pub rest_removed : table_in text_of (slice_set buckets here shorter) ≡ without_text text (table_in text_of buckets)
      rest_removed = same_entries _ _ (up_in_order (all_entries text_of (slice_set buckets here shorter))) (up_without text (table_in text_of buckets) (up_in_order (all_entries text_of buckets)))
          (λ other. edited shorter shorter_is None (λ t. value_remove text_of text t bucket bucket_is.distinct) other ∙ sym (at_without text other (table_in text_of buckets) (up_in_order (all_entries text_of buckets))))

      -- ## Another value

      module _ (value : V) where
        abbrev pub other_value : List (Slot K V)
        other_value = with_value bucket (place_of text_of text bucket) value

        other_is : IsBucket text_of half (length buckets) here other_value
        other_is = bucket_with text_of value bucket (place_of text_of text bucket) bucket_is

        pub table_written : IsTable text_of half (slice_set buckets here other_value)
        table_written = table_is_set other_value other_is

        pub rest_written : table_in text_of (slice_set buckets here other_value) ≡ set_value (is_at (text_cmp text)) (table_in text_of buckets) value
        rest_written = same_entries _ _ (up_in_order (all_entries text_of (slice_set buckets here other_value))) (up_set text value (table_in text_of buckets) (up_in_order (all_entries text_of buckets)))
            (λ other. edited other_value other_is (option_map (λ _. value) (value_in text_of text bucket)) (λ t. value_with text_of value text t bucket) other
            ∙ ap (λ o. cond (is_at (text_cmp text) other) (option_map (λ _. value) o) (at other (table_in text_of buckets))) table_read ∙ sym (at_set text other value (table_in text_of buckets)))
