-- A member's score: what edits make of it, in the list of pairs and in the map.
use Rattle.std.proofs.Common.{◌≡◌, ℕ, ℤ, zero, suc, ◌+◌, Bool, true, false, not, cond, List, [], ◌∷◌, Some, None, refl, arith, ap, ◌∙◌}
use Rattle.std.specs.BTreeMap.{insert_entry, is_at}
use Rattle.std.specs.List.{insert, remove, position_or_len}
use Rattle.std.specs.Map.{keys_of, remove_entry}
use Rattle.std.specs.Option.{is_some}
use Rattle.std.specs.Ordering.{is_lt}
use Rattle.std.specs.Str.{bytes_eq}
use Rattle.std.specs.declared.cmp.Ordering.{Ordering}
use Rattle.std.specs.declared.cmp.Ordering.TheVariants.{Less, Equal, Greater}
use Rattle.std.proofs.lemmas.Map.Text.{is_eq-slice_cmp}
use Rattle.std.proofs.lemmas.Slice.Eq.{bytes_eq-Decides}
use Rattle.sk_resp.specs.WordOrder.{text_cmp}
use Rattle.sk_undo.specs.Partitioned.{all_pass}
use Rattle.sk_undo.specs.Sorted.{is_sorted}
use Rattle.sk_zset.specs.Order.{is_first, is_ordered}
use Rattle.sk_zset.specs.Pair.{Pair, names}
use Rattle.sk_zset.specs.Pairs.{has, put, score_of, without}
use Rattle.sk_zset.specs.Scores.{Scores, score_in}
use Rattle.sk_zset.proofs.Order.{cmp_same, names_flip, none_first, ordered_put, ordered_without, same_bytes}

-- ## In the map

is_member : (m k : List ℕ) → is_at (text_cmp m) k ≡ bytes_eq k m
is_member m k = is_eq-slice_cmp m k ∙ names_flip m k

-- a member is given a score
pub score_given : (k : List ℕ) (v : ℤ) (m : List ℕ) (es : Scores) → score_in m (insert_entry text_cmp es k v) ≡ cond (bytes_eq k m) (Some v) (score_in m es)
score_given k v m [] = ap (λ b. cond b (Some v) None) (is_member m k)
score_given k v m (e ∷ es) = by_order (text_cmp k e.0) refl (score_given k v m es)
  where
    by_order : (o : Ordering) → text_cmp k e.0 ≡ o → score_in m (insert_entry text_cmp es k v) ≡ cond (bytes_eq k m) (Some v) (score_in m es) → score_in m (insert_entry text_cmp (e ∷ es) k v) ≡ cond (bytes_eq k m) (Some v) (score_in m (e ∷ es))
    by_order Less h more = let here = is_member m k in grind (arith, h, here)
    by_order Equal h more = let here = is_member m e.0 in let same = same_bytes e.0 k (cmp_same k e.0 h) in grind (arith, h, here, same)
    by_order Greater h more = let same = same_bytes k m in grind (arith, h, same, more)

none_behind : (k : List ℕ) (es : Scores) → all_pass (λ o. is_lt (text_cmp k o)) (keys_of es) ≡ true → score_in k es ≡ None
none_behind k [] h = refl
none_behind k (e ∷ es) h = grind (arith, h, none_behind k es)

-- a member's score is removed
pub score_removed : (k m : List ℕ) (es : Scores) → is_sorted text_cmp (keys_of es) ≡ true → score_in m (remove_entry (is_at (text_cmp k)) es) ≡ cond (bytes_eq k m) None (score_in m es)
score_removed k m [] up = grind (arith)
score_removed k m (e ∷ es) up = by_test (bytes_eq e.0 k) refl (score_removed k m es)
  where
    by_test : (b : Bool) → bytes_eq e.0 k ≡ b → (is_sorted text_cmp (keys_of es) ≡ true → score_in m (remove_entry (is_at (text_cmp k)) es) ≡ cond (bytes_eq k m) None (score_in m es)) → score_in m (remove_entry (is_at (text_cmp k)) (e ∷ es)) ≡ cond (bytes_eq k m) None (score_in m (e ∷ es))
    by_test true h more =
        let here = is_member k e.0 in
        let there = is_member m e.0 in
        let own = same_bytes e.0 k h in
        let same = same_bytes k m in
        let none = none_behind e.0 es in
        grind (arith, h, here, there, own, same, none, up)
    by_test false h more =
        let here = is_member k e.0 in
        let there = is_member m e.0 in
        let same = same_bytes k m in
        let rest = more (grind (arith, up)) in
        grind (arith, h, here, there, same, rest)

-- ## In the list of pairs

pub score_first : (m : List ℕ) (q : Pair) (ps : List Pair) → score_of m (q ∷ ps) ≡ cond (names m q) (Some q.0) (score_of m ps)
score_first m q ps = grind (arith)

pub has_score : (m : List ℕ) (ps : List Pair) → is_some (score_of m ps) ≡ has m ps
has_score m [] = refl
has_score m (q ∷ ps) = let e = score_first m q ps in grind (arith, e, has_score m ps)

no_score : (m : List ℕ) (ps : List Pair) → has m ps ≡ false → score_of m ps ≡ None
no_score m [] h = refl
no_score m (q ∷ ps) h = let e = score_first m q ps in grind (arith, e, h, no_score m ps)

-- a pair is put in anywhere
pub score_put : (ps : List Pair) (i : ℕ) (p : Pair) (m : List ℕ) → has p.1 ps ≡ false → score_of m (insert ps i p) ≡ cond (bytes_eq p.1 m) (Some p.0) (score_of m ps)
score_put [] zero p m n = score_first m p []
score_put [] (suc i) p m n = score_first m p []
score_put (q ∷ ps) zero p m n = score_first m p (q ∷ ps)
score_put (q ∷ ps) (suc i) p m n =
    let e = score_first m q ps in
    let f = score_first m q (insert ps i p) in
    let same = same_bytes p.1 m in
    let rest = score_put ps i p m (grind (arith, n)) in
    let other : names p.1 q ≡ false = grind (arith, n) in
    f ∙ grind (arith, e, same, rest, other)

-- a member's pair is taken out
pub score_without : (k m : List ℕ) (ps : List Pair) → is_ordered ps ≡ true → score_of m (remove ps (position_or_len (names k) ps)) ≡ cond (bytes_eq k m) None (score_of m ps)
score_without k m [] h = grind (arith)
score_without k m (q ∷ ps) h = by_test (names k q) refl (score_without k m ps)
  where
    by_test : (b : Bool) → names k q ≡ b → (is_ordered ps ≡ true → score_of m (remove ps (position_or_len (names k) ps)) ≡ cond (bytes_eq k m) None (score_of m ps)) → score_of m (remove (q ∷ ps) (cond (not b) (1 + position_or_len (names k) ps) 0)) ≡ cond (bytes_eq k m) None (score_of m (q ∷ ps))
    by_test true e more =
        let own = same_bytes q.1 k e in
        let same = same_bytes k m in
        let f : is_first q ps ≡ true = grind (arith, h) in
        let none = no_score k ps (none_first q ps k f e own) in
        let here = score_first m q ps in
        grind (arith, own, same, none, here)
    by_test false e more =
        let s : 1 + position_or_len (names k) ps ≡ suc (position_or_len (names k) ps) = omega arith in
        let same = same_bytes k m in
        let here = score_first m q ps in
        let there = score_first m q (remove ps (position_or_len (names k) ps)) in
        let rest = more (grind (arith, h)) in
        ap (λ j. score_of m (remove (q ∷ ps) j)) s ∙ there ∙ grind (arith, e, same, here, rest)

pub same_self : (m : List ℕ) → bytes_eq m m ≡ true
same_self m = (bytes_eq-Decides m m).1 refl

pub has_without : (m : List ℕ) (ps : List Pair) → is_ordered ps ≡ true → has m (without m ps) ≡ false
unfolding without
has_without m ps h = let gone = score_without m m ps h in let some = has_score m (remove ps (position_or_len (names m) ps)) in grind (arith, gone, some, same_self m)

pub ordered_added : (p : Pair) (ps : List Pair) → is_ordered ps ≡ true → is_ordered (put p (without p.1 ps)) ≡ true
unfolding put
ordered_added p ps h = ordered_put p (without p.1 ps) (ordered_without p.1 ps h) (has_without p.1 ps h)
