-- The plain keys: names in the order of their bytes, each with what stands under it.
use Rattle.std.specs.Prelude.{ℕ, List, [], ◌∷◌, Option, Some, None, Bool, false, not, nat_lt, filter, length}
use Rattle.std.specs.Map.{lookup, remove_entry}
use Rattle.std.specs.BTreeMap.{is_at, insert_entry}
use Rattle.std.specs.Option.{is_some}
use Rattle.sk_resp.specs.Spelling.{Bytes}
use Rattle.sk_value.specs.declared.entry.Entry.{Entry}
use Rattle.sk_resp.specs.WordOrder.{text_cmp}

abbrev pub Keys : Type 0
Keys = List (Bytes × Entry)

-- what stands under the name
abbrev pub at : Bytes → Keys → Option Entry
at name keys = lookup (is_at (text_cmp name)) keys

abbrev pub put : Bytes → Entry → Keys → Keys
put name entry keys = insert_entry text_cmp keys name entry

abbrev pub without : Bytes → Keys → Keys
without name keys = remove_entry (is_at (text_cmp name)) keys

abbrev pub without_all : List Bytes → Keys → Keys
without_all [] keys = keys
without_all (name ∷ names) keys = without_all names (without name keys)

-- how many of the words name a key, of keys that hold this
abbrev pub how_many : (Bytes → Option Entry) → List Bytes → ℕ
how_many holds names = length (filter (λ name. is_some (holds name)) names)

-- ## Time

-- the moment has reached the deadline
abbrev pub is_over : ℕ → Option ℕ → Bool
is_over now None = false
is_over now (Some deadline) = not (nat_lt now deadline)

-- the keys whose deadline isn't over
abbrev pub purged : ℕ → Keys → Keys
purged now keys = filter (λ key. not (is_over now key.1.deadline)) keys
