-- What edits leave of a list of leases.
use Rattle.std.proofs.Common.{◌≡◌, ℕ, zero, suc, ◌+◌, ◌<◌, Bool, true, false, not, cond, List, [], ◌∷◌, filter, Option, Some, None, refl, sym, arith, ap₂, ◌∙◌}
use Rattle.std.specs.List.{count_by, insert, list_all, list_any}
use Rattle.std.specs.BTreeSet.{BTreeSet}
use Rattle.std.specs.Set.{remove_key}
use Rattle.std.proofs.lemmas.List.Sums.{sum_by-cons}
use Rattle.sk_undo.specs.Sorted.{rank_past}
use Rattle.sk_undo.specs.Versions.{Versions, BothPass, edited, passed}
use Rattle.sk_resp.specs.Spelling.{Bytes}
use Rattle.sk_leases.specs.Index.{DropsExpiry, Expiry, HasMore, IsClear, TakesOver, covers, is_expiry_in}
use Rattle.sk_leases.specs.Lease.{Lease, lease_cmp, names, stands_at}
use Rattle.sk_leases.specs.Lists.{standing, without}
use Rattle.sk_leases.specs.Parts.{is_over}

in_both : (a b : Bool) → b ≡ false → (a ≡ false → b ≡ true) → a ≡ true
in_both true b e lacks = refl
in_both false b e lacks = sym e ∙ lacks refl

module _ {X : Type 0} (t : X → Bool) where
  pub filter_none : (xs : List X) → count_by t xs ≡ 0 → filter (λ x. not (t x)) xs ≡ xs
  filter_none [] h = refl
  filter_none (x ∷ xs) h = by_test (t x) refl (λ k. filter_none xs k)
    where
      by_test : (b : Bool) → t x ≡ b → (count_by t xs ≡ 0 → filter (λ y. not (t y)) xs ≡ xs) → filter (λ y. not (t y)) (x ∷ xs) ≡ x ∷ xs
      by_test true e more = absurd (let s = sum_by-cons (λ y. cond (t y) 1 0) x xs in grind (arith, s, e, h))
      by_test false e more = let s = sum_by-cons (λ y. cond (t y) 1 0) x xs in let k : count_by t xs ≡ 0 = grind (arith, s, e, h) in grind (arith, e, more k)

  pub all_insert : (xs : List X) (i : ℕ) (x : X) → list_all t xs ≡ true → t x ≡ true → list_all t (insert xs i x) ≡ true
  all_insert [] zero x h here = grind (arith, here)
  all_insert [] (suc i) x h here = grind (arith, here)
  all_insert (y ∷ xs) zero x h here = grind (arith, h, here)
  all_insert (y ∷ xs) (suc i) x h here = grind (arith, h, all_insert xs i x)

  pub all_more : (u : X → Bool) → ((x : X) → t x ≡ true → u x ≡ true) → (xs : List X) → list_all t xs ≡ true → list_all u xs ≡ true
  all_more u more [] h = refl
  all_more u more (x ∷ xs) h = grind (arith, h, more x, all_more u more xs)

  -- the same where what the second test lacks isn't there
  pub all_but : (u v : X → Bool) → ((x : X) → t x ≡ true → u x ≡ false → v x ≡ true) → (xs : List X) → list_all t xs ≡ true → count_by v xs ≡ 0 → list_all u xs ≡ true
  all_but u v lacks [] h none = refl
  all_but u v lacks (x ∷ xs) h none = by_test (v x) refl (λ k. all_but u v lacks xs (grind (arith, h)) k)
    where
      by_test : (b : Bool) → v x ≡ b → (count_by v xs ≡ 0 → list_all u xs ≡ true) → list_all u (x ∷ xs) ≡ true
      by_test true e more = absurd (let s = sum_by-cons (λ y. cond (v y) 1 0) x xs in grind (arith, s, e, none))
      by_test false e more =
          let s = sum_by-cons (λ y. cond (v y) 1 0) x xs in
          let k : count_by v xs ≡ 0 = grind (arith, s, e, none) in
          let there : t x ≡ true = grind (arith, h) in
          let here : u x ≡ true = in_both (u x) (v x) e (lacks x there) in
          grind (arith, here, more k)

  pub filter_all : (xs : List X) → list_all t xs ≡ true → filter t xs ≡ xs
  filter_all [] h = refl
  filter_all (x ∷ xs) h = grind (arith, h, filter_all xs)

-- ---- a list with its index

-- where each deadline is ahead, each lease stands
pub standing_clear : (now : ℕ) (expiries : BTreeSet Expiry) (ps : List Lease) → IsClear now expiries → covers expiries ps ≡ true → standing now ps ≡ ps
standing_clear now expiries ps clear h = filter_all (stands_at now) ps (all_more (is_expiry_in expiries) (stands_at now) (λ p has. let ahead = clear p.1 p.0 has in grind (arith, ahead)) ps h)

pub covers_more : (before after : BTreeSet Expiry) (ps : List Lease) → HasMore before after → covers before ps ≡ true → covers after ps ≡ true
covers_more before after ps more h = all_more (is_expiry_in before) (is_expiry_in after) more ps h

pub passed_more : (before after : BTreeSet Expiry) (o : Option (List Lease)) → HasMore before after → passed (covers before) o ≡ true → passed (covers after) o ≡ true
passed_more before after None more h = refl
passed_more before after (Some ps) more h = covers_more before after ps more h

pub both_more : (before after : BTreeSet Expiry) (s : Versions (List Lease)) → HasMore before after → BothPass (covers before) s → BothPass (covers after) s
both_more before after s more k = record { current = covers_more before after s.current more k.current; saved = passed_more before after s.saved more k.saved }

pub covers_put : (expiries : BTreeSet Expiry) (p : Lease) (ps : List Lease) → covers expiries ps ≡ true → is_expiry_in expiries p ≡ true → covers expiries (insert ps (rank_past (lease_cmp p) ps) p) ≡ true
covers_put expiries p ps h has = all_insert (is_expiry_in expiries) ps (rank_past (lease_cmp p) ps) p h has

pub steps_are : (s t : Versions (List Lease)) (ps : List Lease) → s.current ≡ ps → s.saved ≡ t.saved → s ≡ edited ps t
steps_are s t ps e f = ap₂ (λ a o. record { current = a; saved = o }) e f

-- ---- what is taken out

module _ {X : Type 0} (t : X → Bool) where
  pub filter_gone : (u : X → Bool) → ((x : X) → t x ≡ true → u x ≡ false) → (xs : List X) → filter u (remove_key t xs) ≡ filter u xs
  filter_gone u apart [] = refl
  filter_gone u apart (x ∷ xs) = grind (arith, apart x, filter_gone u apart xs)

  pub count_gone : (xs : List X) → 0 < count_by t xs → count_by t (remove_key t xs) + 1 ≡ count_by t xs
  count_gone [] h = absurd (omega (arith, h))
  count_gone (x ∷ xs) h = by_test (t x) refl (count_gone xs)
    where
      by_test : (b : Bool) → t x ≡ b → (0 < count_by t xs → count_by t (remove_key t xs) + 1 ≡ count_by t xs) → count_by t (remove_key t (x ∷ xs)) + 1 ≡ count_by t (x ∷ xs)
      by_test true e more = let s = sum_by-cons (λ y. cond (t y) 1 0) x xs in grind (arith, s, e)
      by_test false e more =
          let s = sum_by-cons (λ y. cond (t y) 1 0) x xs in
          let k = sum_by-cons (λ y. cond (t y) 1 0) x (remove_key t xs) in
          let some : 0 < count_by t xs = grind (arith, s, e, h) in
          let later = more some in
          grind (arith, s, k, e, later)

  pub none_left : (xs : List X) → list_any t xs ≡ false → count_by t xs ≡ 0
  none_left [] h = refl
  none_left (x ∷ xs) h = let s = sum_by-cons (λ y. cond (t y) 1 0) x xs in grind (arith, s, h, none_left xs)

  pub same_left : (xs : List X) → list_any t xs ≡ false → remove_key t xs ≡ xs
  same_left [] h = refl
  same_left (x ∷ xs) h = grind (arith, h, same_left xs)

  pub all_gone : (u : X → Bool) (xs : List X) → list_all u xs ≡ true → list_all u (remove_key t xs) ≡ true
  all_gone u [] h = refl
  all_gone u (x ∷ xs) h = grind (arith, h, all_gone u xs)

  pub count_same : (u : X → Bool) → ((x : X) → t x ≡ u x) → (xs : List X) → count_by t xs ≡ count_by u xs
  count_same u same [] = refl
  count_same u same (x ∷ xs) = let s = sum_by-cons (λ y. cond (t y) 1 0) x xs in let k = sum_by-cons (λ y. cond (u y) 1 0) x xs in grind (arith, s, k, same x, count_same u same xs)

pub without_none : (name : Bytes) (ps : List Lease) → count_by (names name) ps ≡ 0 → without name ps ≡ ps
without_none name ps h = filter_none (names name) ps h

-- the leases of the name that are over are gone, as its pair of the index is
pub covers_taken : (name : Bytes) (now : ℕ) (before after : BTreeSet Expiry) (ps qs : List Lease) → covers before ps ≡ true → TakesOver name now ps qs → DropsExpiry now name before after → covers after qs ≡ true
covers_taken name now before after ps qs h t drops = all_but (is_expiry_in before) (is_expiry_in after) (is_over name now) drops qs (t.covered before h) t.none
