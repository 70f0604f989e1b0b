-- The buckets of a table.
use Rattle.std.specs.Prelude.{◌≡◌, ◌+◌, ◌≤◌, ◌++◌, ℕ, List, [], ◌∷◌, Some, length, slice_get}
use Rattle.sk_resp.specs.Spelling.{Bytes}
use Rattle.sk_table.specs.Entries.{in_order}
use Rattle.sk_table.specs.Hashing.{most_half}
use Rattle.sk_table.specs.Slots.{IsBucket, entries_of}
use Rattle.sk_table.specs.declared.slot.Slot.{Slot}

module _ {K V : Type 0} (text_of : K → Bytes) where
  abbrev pub all_entries : List (List (Slot K V)) → List (Bytes × V)
  all_entries [] = []
  all_entries (bucket ∷ buckets) = entries_of text_of bucket ++ all_entries buckets

  -- as contracts see them
  abbrev pub table_in : List (List (Slot K V)) → List (Bytes × V)
  table_in buckets = in_order (all_entries buckets)

  -- each bucket has what it is to have
  abbrev pub ArePlaced : ℕ → List (List (Slot K V)) → Type 0
  ArePlaced half buckets = (here : ℕ) (bucket : List (Slot K V)) → slice_get buckets here ≡ Some bucket → IsBucket text_of half (length buckets) here bucket

  pub record IsTable (half : ℕ) (buckets : List (List (Slot K V))) : Type 0 where
    pub low : half ≤ length buckets
    pub high : length buckets ≤ half + half
    pub small : half ≤ most_half
    pub placed : ArePlaced half buckets
