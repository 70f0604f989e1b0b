-- Entries of a map in the order of their keys.
use Rattle.std.specs.Prelude.{List, map, cond}
use Rattle.std.specs.BTreeMap.{insert_entry, is_at}
use Rattle.std.specs.List.{insert}
use Rattle.std.specs.Map.{keys_of, lookup}
use Rattle.std.specs.Option.{is_some}
use Rattle.std.specs.declared.cmp.Ordering.{Ordering}
use Rattle.sk_undo.specs.Sorted.{rank}

module _ {K V : Type 0} where
  -- with one more, where its key has none
  abbrev pub with_entry : (K → K → Ordering) → List (K × V) → K → V → List (K × V)
  with_entry cmp entries key value = cond (is_some (lookup (is_at (cmp key)) entries)) entries (insert_entry cmp entries key value)

  -- ## As the code keeps them: the value, which may change, as the tag of its key

  abbrev pub entries_in : List (V × K) → List (K × V)
  entries_in tagged = map (λ e. (e.1, e.0)) tagged

  abbrev pub keys_in : List (V × K) → List K
  keys_in tagged = keys_of (entries_in tagged)

  -- with one more, in front of the keys that don't stand before it
  abbrev pub with_new : (K → K → Ordering) → List (V × K) → K → V → List (V × K)
  with_new cmp tagged key value = insert tagged (rank (cmp key) (keys_in tagged)) (value, key)
