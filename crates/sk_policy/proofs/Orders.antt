-- Shuffles, lots, and what stands first in a list.
use Rattle.std.proofs.Common.{◌≡◌, ◌∙◌, ◌+◌, ◌-◌, ◌%◌, ◌<◌, ◌≤◌, ◌==◌, ◌||◌, ℕ, zero, suc, take, get_or, Bool, true, false, not, cond, is_some, List, [], ◌∷◌, ◌++◌, length, filter, replicate, Option, All, refl, sym, ap, subst, arith, take_all, swap, add-zero, add-one, append-nil}
use Rattle.std.specs.List.{range_with_len, flat_map, list_any}
use Rattle.std.proofs.lemmas.List.Elements.{All-nil, All-cons, All-head, All-tail, All-append, All-filter, All-replicate, filter-append}
use Rattle.std.proofs.lemmas.Bool.{eqb-true, eq-eqb, ne_eqb, true≢false}
use Rattle.std.proofs.lemmas.List.{take_more}
use Rattle.std.proofs.lemmas.List.Concat.{flat_map-append}
use Rattle.sk_base.specs.Yields.{Yields, YieldsAll}
use Rattle.sk_policy.specs.Order.{Order, weight_at, lot, shuffled, firsts, draws, places}

-- one more word
pub YieldsAll-more : (before : Option (ℕ → ℕ)) (words : List ℕ) (mid : Option (ℕ → ℕ)) (word : ℕ) (after : Option (ℕ → ℕ)) →
    YieldsAll before words mid → Yields mid word after → YieldsAll before (words ++ word ∷ []) after
YieldsAll-more before [] mid word after all one = (after, subst (λ m. Yields m word after) all one, refl)
YieldsAll-more before (w ∷ words) mid word after all one = (all.0, all.1, YieldsAll-more all.0 words mid word after all.2 one)

pub shuffled-more : (i : ℕ) (words : List ℕ) (word : ℕ) (xs : List ℕ) (j : ℕ) → j + length words ≡ i →
    shuffled i (words ++ word ∷ []) xs ≡ swap (shuffled i words xs) j (word % (j + 1))
shuffled-more i [] word xs j e = let same : i ≡ j = omega arith in ap (λ k. swap xs k (word % (k + 1))) same
shuffled-more i (w ∷ words) word xs j e = shuffled-more (i - 1) words word (swap xs i (w % (i + 1))) j (omega arith)

-- ## What stands first

same_test : (a b : ℕ) → (a == b) ≡ true → (b == a) ≡ true
same_test a b e = eq-eqb b a (sym (eqb-true a b e))

other_test : (a b : ℕ) → (a == b) ≡ false → (b == a) ≡ false
other_test a b e = ne_eqb b a (λ h. true≢false (sym (eq-eqb a b (sym h)) ∙ e))

any-cons : (a x y : ℕ) (kept ys : List ℕ) → (a == x) ≡ false → list_any (λ z. z == x) kept ≡ list_any (λ z. z == x) ys → (b : Bool) → (y == a) ≡ b →
    list_any (λ z. z == x) (cond (not b) (y ∷ kept) kept) ≡ list_any (λ z. z == x) (y ∷ ys)
any-cons a x y kept ys ne same true e = same ∙ sym (ap (λ t. t || list_any (λ z. z == x) ys) (subst (λ k. (k == x) ≡ false) (sym (eqb-true y a e)) ne))
any-cons a x y kept ys ne same false e = ap (λ t. (y == x) || t) same

-- Another element than the one that is taken out is found as before.
any-filter : (a x : ℕ) → (a == x) ≡ false → (ys : List ℕ) → list_any (λ z. z == x) (filter (λ y. not (y == a)) ys) ≡ list_any (λ z. z == x) ys
any-filter a x ne [] = refl
any-filter a x ne (y ∷ ys) = any-cons a x y (filter (λ z. not (z == a)) ys) ys ne (any-filter a x ne ys) (y == a) refl

firsts-cons : (a x : ℕ) (kept : List ℕ) (b : Bool) → (a == x) ≡ b → (t : Bool) → list_any (λ y. y == x) kept ≡ t →
    a ∷ filter (λ y. not (y == a)) (cond t kept (kept ++ x ∷ []))
    ≡ cond (b || list_any (λ y. y == x) (filter (λ y. not (y == a)) kept)) (a ∷ filter (λ y. not (y == a)) kept) ((a ∷ filter (λ y. not (y == a)) kept) ++ x ∷ [])
firsts-cons a x kept true e true found = refl
firsts-cons a x kept true e false found = ap (λ zs. a ∷ zs) (filter-append (λ y. not (y == a)) kept (x ∷ [])
    ∙ (ap (λ t. filter (λ y. not (y == a)) kept ++ cond (not t) (x ∷ []) []) (same_test a x e) ∙ append-nil (filter (λ y. not (y == a)) kept)))
firsts-cons a x kept false e true found = sym (ap (λ t. cond t (a ∷ filter (λ y. not (y == a)) kept) ((a ∷ filter (λ y. not (y == a)) kept) ++ x ∷ [])) (any-filter a x e kept ∙ found))
firsts-cons a x kept false e false found = ap (λ zs. a ∷ zs) (filter-append (λ y. not (y == a)) kept (x ∷ [])
    ∙ ap (λ t. filter (λ y. not (y == a)) kept ++ cond (not t) (x ∷ []) []) (other_test a x e))
    ∙ sym (ap (λ t. cond t (a ∷ filter (λ y. not (y == a)) kept) ((a ∷ filter (λ y. not (y == a)) kept) ++ x ∷ [])) (any-filter a x e kept ∙ found))

-- One more element stands first where none before is it.
pub firsts-more : (xs : List ℕ) (x : ℕ) → firsts (xs ++ x ∷ []) ≡ cond (list_any (λ y. y == x) (firsts xs)) (firsts xs) (firsts xs ++ x ∷ [])
firsts-more [] x = refl
firsts-more (a ∷ xs) x = ap (λ zs. a ∷ filter (λ y. not (y == a)) zs) (firsts-more xs x) ∙ firsts-cons a x (firsts xs) (a == x) refl (list_any (λ y. y == x) (firsts xs)) refl

pub firsts-step : (lot : List ℕ) (k : ℕ) (olds news : List ℕ) → k < length lot → olds ≡ firsts (take k lot) →
    news ≡ cond (list_any (λ y. y == get_or lot k 0) olds) olds (olds ++ get_or lot k 0 ∷ []) → news ≡ firsts (take (k + 1) lot)
firsts-step lot k olds news h is grown = grown ∙ (ap (λ xs. cond (list_any (λ y. y == get_or lot k 0) xs) xs (xs ++ get_or lot k 0 ∷ [])) is
    ∙ (sym (firsts-more (take k lot) (get_or lot k 0)) ∙ ap firsts (sym (take_more lot k 0 h))))

pub All-firsts : (P : ℕ → Type 0) (xs : List ℕ) → All P xs → All P (firsts xs)
All-firsts P [] h = h
All-firsts P (x ∷ xs) h = All-cons P x _ (All-head P x xs h) (All-filter _ P (firsts xs) (All-firsts P xs (All-tail P x xs h)))

-- ## Lots

pub range-more : (a n : ℕ) → range_with_len a (n + 1) ≡ range_with_len a n ++ (a + n) ∷ []
range-more a zero = rw add-zero
range-more a (suc n) = rw (add-one (suc n)) (ap (λ xs. a ∷ xs) (subst (λ k. range_with_len (a + 1) k ≡ range_with_len (a + 1) n ++ (a + suc n) ∷ []) (add-one n)
    (subst (λ k. range_with_len (a + 1) (n + 1) ≡ range_with_len (a + 1) n ++ k ∷ []) (omega arith) (range-more (a + 1) n))))

-- one more place
pub lot-more : (order : Order) (place : ℕ) (olds news : List ℕ) (len had weight : ℕ) → len ≡ length olds → had ≡ length olds → weight ≡ weight_at order place →
    olds ≡ flat_map (λ p. replicate (weight_at order p) p) (range_with_len 0 place) →
    news ≡ take (len + weight) olds ++ replicate (len + weight - had) place →
    news ≡ flat_map (λ p. replicate (weight_at order p) p) (range_with_len 0 (place + 1))
lot-more order place olds news len had weight e same weighs is grown =
    let all : take (len + weight) olds ≡ olds = take_all (len + weight) olds (omega arith) in
    let count : len + weight - had ≡ weight_at order place = omega arith in
    let f : ℕ → List ℕ = λ p. replicate (weight_at order p) p in
    let last : 0 + place ≡ place = omega arith in
    grown ∙ (ap (λ xs. xs ++ replicate (len + weight - had) place) (all ∙ is)
    ∙ (ap (λ n. flat_map f (range_with_len 0 place) ++ replicate n place) count
    ∙ (sym (ap (λ xs. flat_map f (range_with_len 0 place) ++ xs) (append-nil (f place)))
    ∙ (sym (flat_map-append f (range_with_len 0 place) (place ∷ [])) ∙ ap (flat_map f) (sym (range-more 0 place ∙ ap (λ k. range_with_len 0 place ++ k ∷ []) last))))))

pub All-range : (a n m : ℕ) → a + n ≤ m → All (λ p. p < m) (range_with_len a n)
All-range a zero m h = All-nil _
All-range a (suc n) m h = All-cons (λ p. p < m) a _ (omega arith) (All-range (a + 1) n m (omega arith))

pub All-lot : (order : Order) (a n m : ℕ) → a + n ≤ m → All (λ p. p < m) (flat_map (λ place. replicate (weight_at order place) place) (range_with_len a n))
All-lot order a zero m h = All-nil _
All-lot order a (suc n) m h = All-append (λ p. p < m) (replicate (weight_at order a) a) _ (All-replicate (λ p. p < m) (weight_at order a) a (omega arith)) (All-lot order (a + 1) n m (omega arith))

-- ## Strict orders

pub no_draws : (order : Order) → is_some order.weights ≡ false → 0 ≡ draws order
no_draws order e = sym (ap (λ b. cond b (length (lot order) - 1) 0) e)

pub in_order : (order : Order) → is_some order.weights ≡ false → range_with_len 0 (length order.names) ≡ places order []
in_order order e = sym (ap (λ b. cond b (firsts (shuffled (length (lot order) - 1) [] (lot order))) (range_with_len 0 (length order.names))) e)
