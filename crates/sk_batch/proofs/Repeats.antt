-- Jids that come twice, or are members, found by the set of those gone through.
use Rattle.std.proofs.Common.{◌≡◌, Bool, true, false, cond, ◌||◌, List, [], ◌∷◌, refl, sym, ap, ◌∙◌, arith, Bor}
use Rattle.std.specs.BTreeSet.{BTreeSet, Updates}
use Rattle.std.specs.List.{list_any}
use Rattle.std.specs.Ordering.{is_eq}
use Rattle.std.specs.declared.cmp.Ordering.{Ordering}
use Rattle.std.specs.Str.{bytes_eq}
use Rattle.std.proofs.lemmas.Map.Text.{is_eq-slice_cmp}
use Rattle.std.proofs.lemmas.Slice.Eq.{bytes_eq-Decides}
use Rattle.sk_resp.specs.Spelling.{Bytes}
use Rattle.sk_resp.specs.WordOrder.{text_cmp}
use Rattle.sk_batch.specs.Batched.{MemberEntry, is_member}
use Rattle.sk_batch.specs.Faults.{has_repeated}

same_way : (a b : Bytes) → bytes_eq a b ≡ true → bytes_eq b a ≡ true
same_way a b h = (bytes_eq-Decides b a).1 (sym ((bytes_eq-Decides a b).0 h))

pub bytes_eq-sym : (a b : Bytes) → bytes_eq a b ≡ bytes_eq b a
bytes_eq-sym a b = let there = same_way a b in let back = same_way b a in grind (arith, there, back)

-- ## The set of the jids gone through, by reference

abbrev pub SeenJids : Type 0
SeenJids = BTreeSet (Bor Bytes)

abbrev jid_cmp : Bor Bytes → Bor Bytes → Ordering
jid_cmp a b = text_cmp a.now b.now

abbrev pub has_seen : SeenJids → Bytes → Bool
has_seen seen jid = list_any (λ k. is_eq (text_cmp jid k.now)) seen.keys

-- one of these jids was gone through
abbrev pub any_seen : SeenJids → List Bytes → Bool
any_seen seen jids = list_any (has_seen seen) jids

module _ (seen after : SeenJids) (key : Bor Bytes) (new : Updates jid_cmp seen after key true) where
  seen_now : (q : Bytes) → has_seen after q ≡ bytes_eq q key.now || has_seen seen q
  seen_now q =
      let same : is_eq (text_cmp key.now q) ≡ bytes_eq q key.now = is_eq-slice_cmp key.now q ∙ bytes_eq-sym key.now q in
      new.0 (record key { now = q }) ∙ ap (λ t. cond t true (has_seen seen q)) same ∙ either (bytes_eq q key.now) (has_seen seen q) where
        either : (a b : Bool) → cond a true b ≡ a || b
        either true b = refl
        either false b = refl

  any_seen_now : (jids : List Bytes) → any_seen after jids ≡ any_seen seen jids || list_any (λ other. bytes_eq other key.now) jids
  any_seen_now [] = refl
  any_seen_now (q ∷ jids) = let e = seen_now q in let ih = any_seen_now jids in grind (arith, e, ih)

  -- one more is gone through, which is no member and wasn't seen
  pub gone_on : (bid : Bytes) (ms : List MemberEntry) (jids : List Bytes) → is_member bid key.now ms ≡ false → has_seen seen key.now ≡ false → any_seen after jids || has_repeated bid ms jids ≡ any_seen seen (key.now ∷ jids) || has_repeated bid ms (key.now ∷ jids)
  gone_on bid ms jids m s = let e = any_seen_now jids in grind (arith, e, m, s)

pub none_seen : (seen : SeenJids) → seen.keys ≡ [] → (jids : List Bytes) → any_seen seen jids ≡ false
none_seen seen e [] = refl
none_seen seen e (q ∷ jids) = let no : has_seen seen q ≡ false = ap (list_any (λ (k : Bor Bytes). is_eq (text_cmp q k.now))) e in let ih = none_seen seen e jids in grind (arith, no, ih)
