-- Edits of the keys at one name.
use Rattle.std.proofs.Common.{◌≡◌, ◌+◌, [], ◌∷◌, length, refl, arith}
use Rattle.std.specs.Prelude.{Some, None}
use Rattle.std.specs.Map.{set_value, keys_of}
use Rattle.std.specs.BTreeMap.{is_at}
use Rattle.std.specs.List.Sorted.{IsStrictlySortedBy}
use Rattle.std.specs.declared.cmp.Ordering.TheVariants.{Less}
use Rattle.std.proofs.lemmas.Map.{lookup-none}
use Rattle.std.proofs.lemmas.Map.Keys.{sorted_tail}
use Rattle.std.proofs.lemmas.Map.Entries.{none_below_head}
use Rattle.std.proofs.lemmas.Cmp.{nat_list_cmp_total}
use Rattle.sk_resp.specs.Spelling.{Bytes}
use Rattle.sk_value.specs.declared.entry.Entry.{Entry}
use Rattle.sk_resp.specs.WordOrder.{text_cmp}
use Rattle.sk_value.specs.Keys.{Keys, at, put, without}

pub lookup_absent : (name : Bytes) (key : Bytes × Entry) (keys : Keys) → IsStrictlySortedBy text_cmp (keys_of (key ∷ keys)) → text_cmp name key.0 ≡ Less → at name (key ∷ keys) ≡ None
lookup_absent name key keys s l = lookup-none (is_at (text_cmp name)) (key ∷ keys) (none_below_head nat_list_cmp_total name key keys s l)

-- at a name that is there, putting is setting its value
pub put_present : (name : Bytes) (entry old : Entry) (keys : Keys) → IsStrictlySortedBy text_cmp (keys_of keys) → at name keys ≡ Some old → put name entry keys ≡ set_value (is_at (text_cmp name)) keys entry
put_present name entry old [] s there = grind arith
put_present name entry old (key ∷ keys) s there = grind (arith, put_present name entry old keys (sorted_tail text_cmp key.0 (keys_of keys) s), lookup_absent name key keys s)

pub without_set : (name : Bytes) (entry : Entry) (keys : Keys) → without name (set_value (is_at (text_cmp name)) keys entry) ≡ without name keys
without_set name entry [] = refl
without_set name entry (key ∷ keys) = grind (arith, without_set name entry keys)

pub without_absent : (name : Bytes) (keys : Keys) → at name keys ≡ None → without name keys ≡ keys
without_absent name [] none = refl
without_absent name (key ∷ keys) none = grind (arith, without_absent name keys)

pub count_without : (name : Bytes) (entry : Entry) (keys : Keys) → at name keys ≡ Some entry → length (without name keys) + 1 ≡ length keys
count_without name entry [] there = cc
count_without name entry (key ∷ keys) there = grind (arith, count_without name entry keys)
