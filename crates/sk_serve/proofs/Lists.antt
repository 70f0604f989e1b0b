-- Lists that are turned round, and connections that come one after another.
use Rattle.std.proofs.Common.{◌≡◌, ℕ, ◌+◌, List, [], ◌∷◌, ◌++◌, refl, sym, ap, ◌∙◌, ◌⊎◌, subst, arith, inl, inr, ◌<◌, length, slice_index_or, zero, suc, Bool, true, false}
use Rattle.std.specs.Prelude.{All, map, reverse}
use Rattle.std.specs.List.{AllByRecursion, AllWithin, Any, FoldsTo, HoldsAt, sum_by}
use Rattle.std.specs.Bool.{MatchBool}
use Rattle.std.proofs.lemmas.List.{append_assoc, append-nil, map_push, reverse-append}
use Rattle.std.proofs.lemmas.List.Elements.{All-nil, All-push}
use Rattle.std.proofs.lemmas.List.Sums.{sum_by-cons, sum_by_push}
use Rattle.sk_serve.specs.Visits.{Among, EndsUnserved, Visit}

-- ## One among several

pub among_first : {T : Type 0} (P : T → Type 0) (xs ys : List T) → Among P xs → Among P (xs ++ ys)
among_first P (x ∷ xs) ys (inl one) = inl one
among_first P (x ∷ xs) ys (inr more) = inr (among_first P xs ys more)
among_first P [] ys none = absurd none

pub among_later : {T : Type 0} (P : T → Type 0) (xs ys : List T) → Among P ys → Among P (xs ++ ys)
among_later P [] ys some = some
among_later P (x ∷ xs) ys some = inr (among_later P xs ys some)

pub among_either : {T : Type 0} (P : T → Type 0) (xs ys : List T) → Among P (xs ++ ys) → Among P xs ⊎ Among P ys
among_either P [] ys some = inr some
among_either P (x ∷ xs) ys (inl one) = inl (inl one)
among_either P (x ∷ xs) ys (inr more) = by_rest (among_either P xs ys more) where
  by_rest : Among P xs ⊎ Among P ys → Among P (x ∷ xs) ⊎ Among P ys
  by_rest (inl first) = inl (inr first)
  by_rest (inr later) = inr later

pub among_one : {T : Type 0} (P : T → Type 0) (x : T) → Among P (x ∷ []) → P x
among_one P x (inl one) = one
among_one P x (inr none) = absurd none

two_defaults : {T : Type 0} (xs : List T) (k : ℕ) (d e : T) → k < length xs → slice_index_or xs k d ≡ slice_index_or xs k e
two_defaults [] k d e less = absurd (omega (arith, less))
two_defaults (x ∷ xs) zero d e less = refl
two_defaults (x ∷ xs) (suc k) d e less = two_defaults xs k d e (omega (arith, less))

any_at : {T : Type 0} (P : T → Type 0) (xs : List T) (k : ℕ) → k < length xs → HoldsAt P xs k → Any P xs
any_at P [] k less holds = absurd (omega (arith, less))
any_at P (x ∷ xs) k less holds = (k, slice_index_or (x ∷ xs) k x, less, two_defaults (x ∷ xs) k (slice_index_or (x ∷ xs) k x) x less, holds x)

-- A test of each found one.
pub any_found : {T : Type 0} (P No : T → Type 0) (xs : List T) (found : Bool) → MatchBool found ((k : ℕ) × (k < length xs) × HoldsAt P xs k) (AllWithin No xs 0 (length xs)) → found ≡ true → Any P xs
any_found P No xs true (k, less, holds) is = any_at P xs k less holds
any_found P No xs false none is = absurd (cc is)

-- ## The other way round

turned : {T : Type 0} (x : T) (xs : List T) → reverse (x ∷ xs) ≡ reverse xs ++ x ∷ []
turned x xs = reverse-append (x ∷ []) xs

pub among_back : {T : Type 0} (P : T → Type 0) (xs : List T) → Among P xs → Among P (reverse xs)
among_back P (x ∷ xs) (inl one) = subst (Among P) (sym (turned x xs)) (among_later P (reverse xs) (x ∷ []) (inl one))
among_back P (x ∷ xs) (inr more) = subst (Among P) (sym (turned x xs)) (among_first P (reverse xs) (x ∷ []) (among_back P xs more))
among_back P [] none = absurd none

pub all_turned : {T : Type 0} (P : T → Type 0) (xs : List T) → AllByRecursion P xs → All P (reverse xs)
all_turned P [] all = All-nil P
all_turned P (x ∷ xs) all = subst (All P) (sym (turned x xs)) (All-push P (reverse xs) x (all_turned P xs all.1) all.0)

pub sum_turned : {T : Type 0} (f : T → ℕ) (xs : List T) → sum_by f (reverse xs) ≡ sum_by f xs
sum_turned f [] = refl
sum_turned f (x ∷ xs) = ap (sum_by f) (turned x xs) ∙ sum_by_push f (reverse xs) x ∙ omega (arith, sum_turned f xs, sum_by-cons f x xs)

pub map_turned : {S T : Type 0} (f : S → T) (xs : List S) → map f (reverse xs) ≡ reverse (map f xs)
map_turned f [] = refl
map_turned f (x ∷ xs) = ap (map f) (turned x xs) ∙ map_push f (reverse xs) x ∙ ap (λ z. z ++ f x ∷ []) (map_turned f xs) ∙ sym (turned (f x) (map f xs))

-- ## Sums

pub plus_none : (n : ℕ) → n ≡ n + 0
plus_none n = omega arith

pub plus_on : (a b c x y z : ℕ) → b ≡ a + x → c ≡ b + y → z ≡ x + y → c ≡ a + z
plus_on a b c x y z first then_ all = omega (arith, first, then_, all)

pub sums_same : {S T : Type 0} (f : S → ℕ) (g : T → ℕ) (x : S) (xs : List S) (y : T) (ys : List T) → f x ≡ g y → sum_by f xs ≡ sum_by g ys → sum_by f (x ∷ xs) ≡ sum_by g (y ∷ ys)
sums_same f g x xs y ys head rest = omega (arith, sum_by-cons f x xs, sum_by-cons g y ys, head, rest)

-- ## One after another

pub folds_on : {P A : Type 0} (R : P → A → P → Type 0) (p q r : P) (xs ys : List A) → FoldsTo R p xs q → FoldsTo R q ys r → FoldsTo R p (xs ++ ys) r
folds_on R p q r [] ys same rest = subst (λ s. FoldsTo R s ys r) (sym same) rest
folds_on R p q r (x ∷ xs) ys walk rest = (walk.0, walk.1, folds_on R walk.0 q r xs ys walk.2 rest)

pub unserved_first : {C : Type 0} (xs ys : List (Visit C)) → EndsUnserved xs → ys ≡ [] → EndsUnserved (xs ++ ys)
unserved_first xs ys (before, v, is, none) no_more = (before, v, ap (λ z. xs ++ z) no_more ∙ append-nil xs ∙ is, none)

pub unserved_later : {C : Type 0} (xs ys : List (Visit C)) → EndsUnserved ys → EndsUnserved (xs ++ ys)
unserved_later xs ys (before, v, is, none) = (xs ++ before, v, ap (λ z. xs ++ z) is ∙ sym (append_assoc xs before (v ∷ [])), none)
