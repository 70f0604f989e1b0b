-- What edits of entries make of their keys.
use Rattle.std.proofs.Common.{◌≡◌, Bool, true, false, cond, List, [], ◌∷◌, refl, sym, arith, ap, ◌∙◌}
use Rattle.std.specs.BTreeMap.{insert_entry, is_at}
use Rattle.std.specs.BTreeSet.{insert_key}
use Rattle.std.specs.Cmp.{IsTotalOrder}
use Rattle.std.specs.List.{list_any}
use Rattle.std.specs.Map.{keys_of, lookup, remove_entry}
use Rattle.std.specs.Option.{is_some}
use Rattle.std.specs.Ordering.{is_lt}
use Rattle.std.specs.Set.{remove_key}
use Rattle.std.specs.declared.cmp.Ordering.{Ordering}
use Rattle.std.specs.declared.cmp.Ordering.TheVariants.{Less, Equal, Greater}
use Rattle.sk_undo.specs.Entries.{with_entry}
use Rattle.sk_undo.specs.Partitioned.{all_pass}
use Rattle.sk_undo.specs.Sorted.{is_sorted}
use Rattle.sk_undo.proofs.Sorted.{before_rest}

module _ {K V : Type 0} (t : K → Bool) where
  pub keys_lookup : (es : List (K × V)) → is_some (lookup t es) ≡ list_any t (keys_of es)
  keys_lookup [] = refl
  keys_lookup (e ∷ es) = grind (arith, keys_lookup es)

  pub keys_remove : (es : List (K × V)) → keys_of (remove_entry t es) ≡ remove_key t (keys_of es)
  keys_remove [] = refl
  keys_remove (e ∷ es) = grind (arith, keys_remove es)

module _ {K V : Type 0} (cmp : K → K → Ordering) (key : K) (value : V) where
  pub keys_insert : (es : List (K × V)) → keys_of (insert_entry cmp es key value) ≡ insert_key cmp (keys_of es) key
  keys_insert [] = refl
  keys_insert (e ∷ es) = grind (arith, keys_insert es)

module _ {K : Type 0} {cmp : K → K → Ordering} (total : IsTotalOrder cmp) (key : K) where
  none_before : (keys : List K) → all_pass (λ other. is_lt (cmp key other)) keys ≡ true → list_any (is_at (cmp key)) keys ≡ false
  none_before [] h = refl
  none_before (other ∷ keys) h = grind (arith, h, none_before keys)

  -- a key that is there isn't put in again
  pub insert_there : (keys : List K) → is_sorted cmp keys ≡ true → list_any (is_at (cmp key)) keys ≡ true → insert_key cmp keys key ≡ keys
  insert_there [] up h = absurd (cc)
  insert_there (first ∷ keys) up h = by_order (cmp key first) refl (insert_there keys)
    where
      by_order : (o : Ordering) → cmp key first ≡ o → (is_sorted cmp keys ≡ true → list_any (is_at (cmp key)) keys ≡ true → insert_key cmp keys key ≡ keys) → insert_key cmp (first ∷ keys) key ≡ first ∷ keys
      by_order Less e more =
          let less : is_lt (cmp key first) ≡ true = ap is_lt e in
          let rest = before_rest cmp total key first keys less (grind (arith, up)) in
          let none = none_before keys rest in
          absurd (grind (arith, e, h, none))
      by_order Equal e more = grind (arith, e)
      by_order Greater e more = let later = more (grind (arith, up)) (grind (arith, e, h)) in grind (arith, e, later)

  pub keys_with : {V : Type 0} (value : V) (es : List (K × V)) → is_sorted cmp (keys_of es) ≡ true → keys_of (with_entry cmp es key value) ≡ insert_key cmp (keys_of es) key
  keys_with {V} value es up = by_test (is_some (lookup (is_at (cmp key)) es)) refl
    where
      by_test : (b : Bool) → is_some (lookup (is_at (cmp key)) es) ≡ b → keys_of (with_entry cmp es key value) ≡ insert_key cmp (keys_of es) key
      by_test true e = let there = sym (keys_lookup (is_at (cmp key)) es) ∙ e in ap (λ b. keys_of (cond b es (insert_entry cmp es key value))) e ∙ sym (insert_there (keys_of es) up there)
      by_test false e = ap (λ b. keys_of (cond b es (insert_entry cmp es key value))) e ∙ keys_insert cmp key value es
