-- What a purge leaves.
use Rattle.std.proofs.Common.{◌≡◌, ℕ, [], ◌∷◌, refl, sym, ap, ◌∙◌, arith, true, false, suc, slice_get}
use Rattle.std.specs.Prelude.{Option, Some, None, nat_lt}
use Rattle.std.specs.Cmp.{eq_by_cmp_equiv}
use Rattle.std.specs.List.Sorted.{IsStrictlySortedBy}
use Rattle.std.specs.Map.{keys_of}
use Rattle.std.specs.BTreeSet.{BTreeSet}
use Rattle.std.proofs.lemmas.Map.Entries.{lookup_from_place}
use Rattle.std.proofs.lemmas.Map.Keys.{IsDistinct-from_sorted}
use Rattle.std.proofs.lemmas.Cmp.{nat_list_cmp_total}
use Rattle.sk_resp.specs.Spelling.{Bytes}
use Rattle.sk_value.specs.declared.entry.Entry.{Entry}
use Rattle.sk_resp.specs.WordOrder.{text_cmp}
use Rattle.sk_value.specs.Keys.{Keys, at, without, is_over, purged}
use Rattle.sk_keys.specs.Index.{Expiry, IsIndexed, IsClear, has, is_moment, goes_at}

-- a key whose deadline is over goes in a purge anyway
pub purge_without : (now : ℕ) (name : Bytes) (entry : Entry) (keys : Keys) → at name keys ≡ Some entry → is_over now entry.deadline ≡ true → purged now (without name keys) ≡ purged now keys
purge_without now name entry [] there over = refl
purge_without now name entry (key ∷ keys) there over = grind (arith, purge_without now name entry keys)

over_at : (now moment : ℕ) (deadline : Option ℕ) → is_moment moment deadline ≡ true → nat_lt now moment ≡ false → is_over now deadline ≡ true
over_at now moment None is over = grind (arith, is)
over_at now moment (Some deadline) is over = grind (arith, is, over)

pub purge_expired : (now moment : ℕ) (name : Bytes) (keys : Keys) → goes_at moment (at name keys) ≡ true → nat_lt now moment ≡ false → purged now (without name keys) ≡ purged now keys
purge_expired now moment name keys goes over = by_entry (at name keys) refl where
  by_entry : (held : Option Entry) → at name keys ≡ held → purged now (without name keys) ≡ purged now keys
  by_entry None is = grind (arith, is, goes)
  by_entry (Some entry) is = purge_without now name entry keys is (over_at now moment entry.deadline (sym (ap (goes_at moment) is) ∙ goes) over)

purge_nothing : (now : ℕ) (keys : Keys) → ((i : ℕ) (key : Bytes × Entry) → slice_get keys i ≡ Some key → is_over now key.1.deadline ≡ false) → purged now keys ≡ keys
purge_nothing now [] ahead = refl
purge_nothing now (key ∷ keys) ahead = grind (arith, ahead 0 key refl, purge_nothing now keys (λ i other is. ahead (suc i) other is))

not_over : (now : ℕ) (name : Bytes) (deadline : Option ℕ) (expiries : BTreeSet Expiry) → IsClear now expiries → ((moment : ℕ) → has moment name expiries ≡ is_moment moment deadline) → is_over now deadline ≡ false
not_over now name None expiries clear is = refl
not_over now name (Some deadline) expiries clear is = let ahead = clear deadline name (grind (arith, is deadline)) in grind (arith, ahead)

-- where each deadline is ahead, a purge leaves all
pub purge_clear : (now : ℕ) (keys : Keys) (expiries : BTreeSet Expiry) → IsStrictlySortedBy text_cmp (keys_of keys) → IsIndexed keys expiries → IsClear now expiries → purged now keys ≡ keys
purge_clear now keys expiries up indexed clear = purge_nothing now keys (λ i key is.
    let there : at key.0 keys ≡ Some key.1 = lookup_from_place (eq_by_cmp_equiv nat_list_cmp_total) keys i key.0 key.1 (IsDistinct-from_sorted text_cmp (keys_of keys) up) is in
    not_over now key.0 key.1.deadline expiries clear (λ moment. indexed moment key.0 ∙ ap (goes_at moment) there))
