-- The index of the sets' texts: a multiset of the keys of the rows of sets.
use Rattle.std.specs.Prelude.{◌≡◌, ◌<◌, ℕ, ℤ, Bool, true, not, List, Option, Some, None, IfSome}
use Rattle.std.specs.BTreeMap.{is_at}
use Rattle.std.specs.List.{count_by, insert, sum_by}
use Rattle.std.specs.Ordering.{int_cmp, is_lt}
use Rattle.std.specs.Set.{remove_key}
use Rattle.sk_resp.specs.Spelling.{Bytes}
use Rattle.sk_cmd.specs.declared.argument.Scored.{Scored}
use Rattle.sk_undo.specs.Sorted.{rank_past}
use Rattle.sk_undo.specs.Versions.{Versions}
use Rattle.sk_places.specs.declared.row.Place.{Place}
use Rattle.sk_places.specs.declared.row.Place.TheVariants.{Queue, Private, Set}
use Rattle.sk_places.specs.declared.row.Row.{Row}
use Rattle.sk_zset.specs.Pair.{pair_cmp}
use Rattle.sk_places.specs.LiveJobs.{one_if}
use Rattle.sk_places.specs.Rows.{pair_of}
use Rattle.sk_places.specs.TextKey.{Key, key_cmp, key_in}

-- the key of a row at a place, where that is a set
abbrev pub key_at : Place → ℤ → Bytes → Option Key
key_at (Queue queue) score text = None
key_at (Private ident) score text = None
key_at (Set set) score text = Some (key_in set text score)

abbrev pub key_of : Row → Option Key
key_of row = key_at row.place row.score row.text

-- the index with the key of one more row, where it has one
abbrev pub with_key : Option Key → List Key → List Key
with_key None keys = keys
with_key (Some key) keys = insert keys (rank_past (key_cmp key) keys) key

-- the index without the key of one row, where it has one
abbrev pub without_key : Option Key → List Key → List Key
without_key None keys = keys
without_key (Some key) keys = remove_key (is_at (key_cmp key)) keys

-- how often a key is in the index
abbrev pub count_in : Key → List Key → ℕ
count_in key keys = count_by (is_at (key_cmp key)) keys

-- 1 where the row has this key, and else 0
abbrev pub is_key : Option Key → Key → ℕ
is_key None key = 0
is_key (Some other) key = one_if (is_at (key_cmp key) other)

-- how many rows have the key
abbrev pub rows_with : Key → List Row → ℕ
rows_with key rows = sum_by (λ row. is_key (key_of row) key) rows

-- each key is in the index as often as rows have it
pub record IsTextIndex (rows : List Row) (keys : List Key) : Type 0 where
  pub counts : (key : Key) → count_in key keys ≡ rows_with key rows

-- both stood, or neither
abbrev pub WasTextIndex : Option (List Row) → Option (List Key) → Type 0
WasTextIndex None None = Unit {0}
WasTextIndex None (Some keys) = ⊥
WasTextIndex (Some rows) None = ⊥
WasTextIndex (Some rows) (Some keys) = IsTextIndex rows keys

-- the index is that of what stands and of what stood
pub record AreTextsIndexed (rows : Versions (List Row)) (keys : Versions (List Key)) : Type 0 where
  pub current : IsTextIndex rows.current keys.current
  pub saved : WasTextIndex rows.saved keys.saved

-- ## Look-ups

-- the score is below another one, if there is one
abbrev pub is_below : ℤ → Option ℤ → Bool
is_below score None = true
is_below score (Some other) = is_lt (int_cmp score other)

-- Keys have the text in the set with this score and with none below it, or with none at all.
pub record IsLeastScore (set : Scored) (text : Bytes) (least : Option ℤ) (keys : List Key) : Type 0 where
  pub none : (score : ℤ) → is_below score least ≡ true → count_in (key_in set text score) keys ≡ 0
  pub there : IfSome least (λ score. 0 < count_in (key_in set text score) keys)

-- the row of a set doesn't stand before this score and text
abbrev pub is_from : ℤ → Bytes → Row → Bool
is_from score text row = not (is_lt (pair_cmp (pair_of row) (score, text)))
