-- The ids of the jobs that are live, as their counts tell them.
use Rattle.std.proofs.Common.{◌≡◌, ℕ, Bool, true, false, cond, List, [], ◌∷◌, Option, Some, None, refl, arith, ap}
use Rattle.std.specs.BTreeMap.{is_at}
use Rattle.std.specs.BTreeSet.{insert_key}
use Rattle.std.specs.List.{AllByRecursion, list_any}
use Rattle.std.specs.List.Sorted.{IsStrictlySortedBy}
use Rattle.std.specs.Map.{keys_of}
use Rattle.std.specs.Ordering.{is_lt, match_ordering}
use Rattle.std.specs.declared.cmp.Ordering.{Ordering}
use Rattle.std.specs.declared.cmp.Ordering.TheVariants.{Less, Equal, Greater}
use Rattle.sk_resp.specs.Spelling.{Bytes}
use Rattle.sk_resp.specs.WordOrder.{text_cmp}
use Rattle.sk_undo.specs.Partitioned.{all_pass}
use Rattle.sk_undo.specs.Sorted.{is_sorted}
use Rattle.sk_undo.specs.Versions.{Versions, map_versions, undone}
use Rattle.sk_table.specs.Counts.{Counts}
use Rattle.sk_table.specs.Entries.{with_text, without_text}
use Rattle.sk_places.specs.LiveJobs.{without_jid}

pub none_before : (word : Bytes) (words : List Bytes) → all_pass (λ other. is_lt (text_cmp word other)) words ≡ true → list_any (is_at (text_cmp word)) words ≡ false
none_before word [] h = refl
none_before word (other ∷ words) h = grind (arith, h, none_before word words)

-- a job that is put in
pub keys_with : (jid : Bytes) (n : ℕ) (index : Counts) → keys_of (with_text jid n index) ≡ insert_key text_cmp (keys_of index) jid
keys_with jid n [] = refl
keys_with jid n (first ∷ rest) = by_order (text_cmp jid first.0) (keys_with jid n rest)
  where
    by_order : (o : Ordering) → keys_of (with_text jid n rest) ≡ insert_key text_cmp (keys_of rest) jid
        → keys_of (match_ordering o ((jid, n) ∷ first ∷ rest) ((first.0, n) ∷ rest) (first ∷ with_text jid n rest)) ≡ match_ordering o (jid ∷ first.0 ∷ keys_of rest) (first.0 ∷ keys_of rest) (first.0 ∷ insert_key text_cmp (keys_of rest) jid)
    by_order Less more = refl
    by_order Equal more = refl
    by_order Greater more = ap (λ l. first.0 ∷ l) more

-- a job that is taken out
pub keys_without : (jid : Bytes) (index : Counts) → keys_of (without_text jid index) ≡ without_jid jid (keys_of index)
keys_without jid [] = refl
keys_without jid (first ∷ rest) = by_test (is_at (text_cmp jid) first.0) (keys_without jid rest)
  where
    by_test : (b : Bool) → keys_of (without_text jid rest) ≡ without_jid jid (keys_of rest) → keys_of (cond b rest (first ∷ without_text jid rest)) ≡ cond b (keys_of rest) (first.0 ∷ without_jid jid (keys_of rest))
    by_test true more = refl
    by_test false more = ap (λ l. first.0 ∷ l) more

all_less : (jid : Bytes) (live : List Bytes) → AllByRecursion (λ other. text_cmp jid other ≡ Less) live → all_pass (λ other. is_lt (text_cmp jid other)) live ≡ true
all_less jid [] all = refl
all_less jid (other ∷ live) all = let first = all.0 in let more = all_less jid live all.1 in grind (arith, first, more)

pub keys_sorted : (live : List Bytes) → IsStrictlySortedBy text_cmp live → is_sorted text_cmp live ≡ true
unfolding IsStrictlySortedBy
keys_sorted [] up = refl
keys_sorted (jid ∷ live) up = let first = all_less jid live up.0 in let more = keys_sorted live up.1 in grind (arith, first, more)

pub keys_undone : (s : Versions Counts) → map_versions keys_of (undone s) ≡ undone (map_versions keys_of s)
keys_undone s = by_saved s.saved
  where
    by_saved : (o : Option Counts) → map_versions keys_of (undone (record { current = s.current; saved = o })) ≡ undone (map_versions keys_of (record { current = s.current; saved = o }))
    by_saved None = refl
    by_saved (Some c) = refl
