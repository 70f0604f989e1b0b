-- A write taken back leaves the pairs as they were.
use Rattle.std.proofs.Common.{◌≡◌, Bool, List, [], ◌∷◌, ◌++◌, refl, ap, arith}
use Rattle.std.specs.Prelude.{Option, Some, None}
use Rattle.std.specs.Map.{lookup, set_value, remove_entry, keys_of}
use Rattle.std.specs.BTreeMap.{is_at, insert_entry}
use Rattle.std.specs.List.Sorted.{IsStrictlySortedBy}
use Rattle.std.specs.declared.cmp.Ordering.TheVariants.{Less, Equal}
use Rattle.std.proofs.lemmas.Map.{lookup-none}
use Rattle.std.proofs.lemmas.Map.Keys.{sorted_tail}
use Rattle.std.proofs.lemmas.Map.Entries.{none_below_head}
use Rattle.std.proofs.lemmas.Cmp.{nat_list_cmp_total, tied_itself}
use Rattle.sk_resp.specs.Spelling.{Bytes}
use Rattle.sk_resp.specs.WordOrder.{text_cmp}
use Rattle.sk_value.specs.Maps.{with_pairs, put_back, all_put_back}

pub with_pairs_last : {V : Type 0} (pairs : List (Bytes × V)) (last : Bytes × V) (map : List (Bytes × V)) → with_pairs (pairs ++ last ∷ []) map ≡ insert_entry text_cmp (with_pairs pairs map) last.0 last.1
with_pairs_last [] last map = refl
with_pairs_last (pair ∷ pairs) last map = with_pairs_last pairs last (insert_entry text_cmp map pair.0 pair.1)

pub all_put_back_more : {V : Type 0} (writes : List (Bytes × Option V)) (text : Bytes) (before : Option V) (map : List (Bytes × V)) → all_put_back (writes ++ (text, before) ∷ []) map ≡ all_put_back writes (put_back text before map)
all_put_back_more [] text before map = refl
all_put_back_more (write ∷ writes) text before map = ap (put_back write.0 write.1) (all_put_back_more writes text before map)

pub set_absent : {V : Type 0} (test : Bytes → Bool) (map : List (Bytes × V)) (value : V) → lookup test map ≡ None → set_value test map value ≡ map
set_absent test [] value none = refl
set_absent test (pair ∷ map) value none = grind (arith, set_absent test map value)

same_text : (text : Bytes) → text_cmp text text ≡ Equal
same_text text = tied_itself nat_list_cmp_total text

lookup_below : {V : Type 0} (text : Bytes) (pair : Bytes × V) (map : List (Bytes × V)) → IsStrictlySortedBy text_cmp (keys_of (pair ∷ map)) → text_cmp text pair.0 ≡ Less → lookup (is_at (text_cmp text)) (pair ∷ map) ≡ None
lookup_below text pair map sorted l = lookup-none (is_at (text_cmp text)) (pair ∷ map) (none_below_head nat_list_cmp_total text pair map sorted l)

-- a text that wasn't there is taken out again
removed : {V : Type 0} (text : Bytes) (value : V) (map : List (Bytes × V)) → lookup (is_at (text_cmp text)) map ≡ None → remove_entry (is_at (text_cmp text)) (insert_entry text_cmp map text value) ≡ map
removed text value [] none = grind (arith, same_text text)
removed text value (pair ∷ map) none = grind (arith, same_text text, removed text value map)

-- one that was there has its value again
restored : {V : Type 0} (text : Bytes) (value old : V) (map : List (Bytes × V)) → IsStrictlySortedBy text_cmp (keys_of map) → lookup (is_at (text_cmp text)) map ≡ Some old → set_value (is_at (text_cmp text)) (insert_entry text_cmp map text value) old ≡ map
restored text value old [] sorted there = grind arith
restored text value old (pair ∷ map) sorted there = grind (arith, restored text value old map (sorted_tail text_cmp pair.0 (keys_of map) sorted), lookup_below text pair map sorted)

pub write_taken_back : {V : Type 0} (text : Bytes) (value : V) (before : Option V) (map : List (Bytes × V)) → IsStrictlySortedBy text_cmp (keys_of map) → before ≡ lookup (is_at (text_cmp text)) map → put_back text before (insert_entry text_cmp map text value) ≡ map
write_taken_back text value None map sorted e = removed text value map (cc)
write_taken_back text value (Some old) map sorted e = restored text value old map sorted (cc)
