-- What stands under a key when it is put, and when time passes.
use Rattle.std.proofs.Common.{◌≡◌, ℕ, [], ◌∷◌, refl, ap, arith, Bool, true, false}
use Rattle.std.specs.Prelude.{Some, None}
use Rattle.std.proofs.lemmas.Cmp.{nat_list_cmp_total}
use Rattle.std.specs.BTreeMap.{is_at}
use Rattle.std.specs.Cmp.{IsTotalOrder}
use Rattle.std.specs.Cmp.Lexicographic.{slice_cmp}
use Rattle.std.specs.Ordering.{nat_cmp}
use Rattle.std.specs.declared.cmp.Ordering.{Ordering}
use Rattle.std.specs.declared.cmp.Ordering.TheVariants.{Less, Equal, Greater}
use Rattle.sk_resp.specs.Spelling.{Bytes}
use Rattle.sk_resp.specs.WordOrder.{text_cmp}
use Rattle.sk_value.specs.Keys.{Keys, at, is_over, purged, put}
use Rattle.sk_value.specs.declared.entry.Entry.{Entry}

text_itself : (name : Bytes) → is_at (text_cmp name) name ≡ true
text_itself name = let total : IsTotalOrder (slice_cmp nat_cmp) = nat_list_cmp_total in let a = total.antisymm name name in grind (arith, a)

pub at_put_itself : (name : Bytes) (entry : Entry) (keys : Keys) → at name (put name entry keys) ≡ Some entry
at_put_itself name entry [] = let here = text_itself name in grind (arith, here)
at_put_itself name entry (key ∷ keys) = by_order (text_cmp name key.0) (at_put_itself name entry keys) refl where
  by_order : (o : Ordering) → at name (put name entry keys) ≡ Some entry → text_cmp name key.0 ≡ o → at name (put name entry (key ∷ keys)) ≡ Some entry
  by_order Less rest is = let here = text_itself name in grind (arith, is, here)
  by_order Equal rest is = grind (arith, is)
  by_order Greater rest is = grind (arith, is, rest)

same_entry : (a b : Entry) → Some a ≡ Some b → a ≡ b
same_entry a b is = cc is

-- What isn't over stays.
pub at_purged : (now : ℕ) (name : Bytes) (entry : Entry) (keys : Keys) → at name keys ≡ Some entry → is_over now entry.deadline ≡ false → at name (purged now keys) ≡ Some entry
at_purged now name entry [] is ahead = let none : None ≡ Some entry = is in absurd (cc none)
at_purged now name entry (key ∷ keys) is ahead =
    by (is_at (text_cmp name) key.0) (is_over now key.1.deadline) refl refl (λ rest. at_purged now name entry keys rest ahead)
  where
    by : (b o : Bool) → is_at (text_cmp name) key.0 ≡ b → is_over now key.1.deadline ≡ o → (at name keys ≡ Some entry → at name (purged now keys) ≡ Some entry)
        → at name (purged now (key ∷ keys)) ≡ Some entry
    by true true here over more =
        let found : Some key.1 ≡ Some entry = grind (arith, here, is) in
        let same : key.1 ≡ entry = same_entry key.1 entry found in
        let same_over : is_over now key.1.deadline ≡ is_over now entry.deadline = ap (λ (e : Entry). is_over now e.deadline) same in
        absurd (cc (over, ahead, same_over))
    by true false here over more = grind (arith, here, over, is)
    by false true here over more = let rest = more (grind (arith, here, is)) in grind (arith, here, over, rest)
    by false false here over more = let rest = more (grind (arith, here, is)) in grind (arith, here, over, rest)
