-- The keys of a map are a set: each edit of the map is that edit of the set.
use Rattle.std.proofs.Common.{◌≡◌, Bool, List, [], ◌∷◌, refl, ap, ◌∙◌, arith, length}
use Rattle.std.specs.List.{list_any}
use Rattle.std.specs.Option.{is_some}
use Rattle.std.specs.Map.{lookup, remove_entry, keys_of}
use Rattle.std.specs.Set.{remove_key}
use Rattle.std.specs.BTreeMap.{is_at, insert_entry}
use Rattle.std.specs.BTreeSet.{insert_key}
use Rattle.sk_resp.specs.Spelling.{Bytes}
use Rattle.sk_resp.specs.WordOrder.{text_cmp}
use Rattle.sk_value.specs.Maps.{with_pairs, without_texts}
use Rattle.sk_value.specs.Sets.{with_members, without_members}

pub member_is_key : {V : Type 0} (test : Bytes → Bool) (map : List (Bytes × V)) → list_any test (keys_of map) ≡ is_some (lookup test map)
member_is_key test [] = refl
member_is_key test (pair ∷ map) = grind (arith, member_is_key test map)

key_inserted : {V : Type 0} (text : Bytes) (value : V) (map : List (Bytes × V)) → keys_of (insert_entry text_cmp map text value) ≡ insert_key text_cmp (keys_of map) text
key_inserted text value [] = refl
key_inserted text value (pair ∷ map) = grind (arith, key_inserted text value map)

key_removed : {V : Type 0} (test : Bytes → Bool) (map : List (Bytes × V)) → keys_of (remove_entry test map) ≡ remove_key test (keys_of map)
key_removed test [] = refl
key_removed test (pair ∷ map) = grind (arith, key_removed test map)

pub keys_inserted : {V : Type 0} (pairs map : List (Bytes × V)) → keys_of (with_pairs pairs map) ≡ with_members (keys_of pairs) (keys_of map)
keys_inserted [] map = refl
keys_inserted (pair ∷ pairs) map = keys_inserted pairs (insert_entry text_cmp map pair.0 pair.1) ∙ ap (with_members (keys_of pairs)) (key_inserted pair.0 pair.1 map)

pub keys_removed : {V : Type 0} (texts : List Bytes) (map : List (Bytes × V)) → keys_of (without_texts texts map) ≡ without_members texts (keys_of map)
keys_removed [] map = refl
keys_removed (text ∷ texts) map = keys_removed texts (remove_entry (is_at (text_cmp text)) map) ∙ ap (without_members texts) (key_removed (is_at (text_cmp text)) map)

pub how_many_keys : {V : Type 0} (map : List (Bytes × V)) → length (keys_of map) ≡ length map
how_many_keys [] = refl
how_many_keys (pair ∷ map) = grind (arith, how_many_keys map)
