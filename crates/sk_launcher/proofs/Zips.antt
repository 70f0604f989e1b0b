-- Lists side by side.
use Rattle.std.proofs.Common.{◌≡◌, ◌∙◌, ◌<◌, ◌++◌, ℕ, suc, List, [], ◌∷◌, map, length, slice_index_or, arith, ap, refl, subst}
use Rattle.std.specs.List.{AllByRecursion, AllZip}
use Rattle.sk_launcher.specs.Turning.{Advances}

pub all_on : {X : Type 0} (R : X → X → Type 0) → ((a b c : X) → R a b → R b c → R a c) → (xs ys zs : List X) → AllZip R xs ys → AllZip R ys zs → AllZip R xs zs
all_on R on [] [] [] p q = tt
all_on R on (x ∷ xs) (y ∷ ys) (z ∷ zs) p q = (on x y z p.0 q.0, all_on R on xs ys zs p.1 q.1)
all_on R on [] [] (z ∷ zs) p q = absurd q
all_on R on [] (y ∷ ys) zs p q = absurd p
all_on R on (x ∷ xs) [] zs p q = absurd p
all_on R on (x ∷ xs) (y ∷ ys) [] p q = absurd q

pub advances_on : {X : Type 0} (went_on : X → X → Type 0) (taken : X → ℕ) → ((a b c : X) → went_on a b → went_on b c → went_on a c) → (turns : ℕ) (a b c : X)
    → Advances went_on taken turns a b → Advances went_on taken turns b c → Advances went_on taken turns a c
advances_on went_on taken on turns a b c p q = record { goes_on = on a b c p.goes_on q.goes_on; most = λ le. q.most (p.most le) }

pub between : {A X : Type 0} (R : X → X → Type 0) (f : A → X) (x x' y y' : A) → x' ≡ x → y' ≡ y → R (f x') (f y') → R (f x) (f y)
between R f x x' y y' e d r = subst (λ z. R (f x) (f z)) d (subst (λ z. R (f z) (f y')) e r)

pub seen_by_place : {A X : Type 0} (R : X → X → Type 0) (f : A → X) (xs ys : List A) → length xs ≡ length ys
    → ((i : ℕ) (d : A) → i < length xs → R (f (slice_index_or xs i d)) (f (slice_index_or ys i d))) → AllZip R (map f xs) (map f ys)
seen_by_place R f [] [] same each = tt
seen_by_place R f (x ∷ xs) (y ∷ ys) same each =
    (each 0 x (omega arith), seen_by_place R f xs ys (omega (arith, same)) (λ i d less. each (suc i) d (omega (arith, less))))
seen_by_place R f [] (y ∷ ys) same each = absurd (omega (arith, same))
seen_by_place R f (x ∷ xs) [] same each = absurd (omega (arith, same))

pub zip_along : {A : Type 0} (R S : A → A → Type 0) → ((a b : A) → R a b → S a b) → (xs ys : List A) → AllZip R xs ys → AllZip S xs ys
zip_along R S f [] [] zip = tt
zip_along R S f (x ∷ xs) (y ∷ ys) zip = (f x y zip.0, zip_along R S f xs ys zip.1)
zip_along R S f [] (y ∷ ys) zip = absurd zip
zip_along R S f (x ∷ xs) [] zip = absurd zip

pub zip_if : {A : Type 0} (R S : A → A → Type 0) (Q : A → Type 0) → ((a b : A) → R a b → Q b → S a b) → (xs ys : List A) → AllZip R xs ys → AllByRecursion Q ys → AllZip S xs ys
zip_if R S Q f [] [] zip q = tt
zip_if R S Q f (x ∷ xs) (y ∷ ys) zip q = (f x y zip.0 q.0, zip_if R S Q f xs ys zip.1 q.1)
zip_if R S Q f [] (y ∷ ys) zip q = absurd zip
zip_if R S Q f (x ∷ xs) [] zip q = absurd zip

pub zip_by : {A B : Type 0} (R : B → B → Type 0) (f g : A → B) (xs : List A) → AllByRecursion (λ x. R (f x) (g x)) xs → AllZip R (map f xs) (map g xs)
zip_by R f g [] all = tt
zip_by R f g (x ∷ xs) all = (all.0, zip_by R f g xs all.1)

pub all_of : {A B : Type 0} (f : A → B) (P : B → Type 0) (xs : List A) → AllByRecursion (λ x. P (f x)) xs → AllByRecursion P (map f xs)
all_of f P [] all = tt
all_of f P (x ∷ xs) all = (all.0, all_of f P xs all.1)

pub all_alike : {A B : Type 0} (f g : A → B) (xs : List A) → AllByRecursion (λ x. g x ≡ f x) xs → map g xs ≡ map f xs
all_alike f g [] all = refl
all_alike f g (x ∷ xs) all = ap (λ y. y ∷ map g xs) all.0 ∙ ap (λ ys. f x ∷ ys) (all_alike f g xs all.1)

pub map_both : {A B : Type 0} (f : A → B) (xs ys : List A) → map f (xs ++ ys) ≡ map f xs ++ map f ys
map_both f [] ys = refl
map_both f (x ∷ xs) ys = ap (λ zs. f x ∷ zs) (map_both f xs ys)

pub zipped_same : {A X : Type 0} (R : X → X → Type 0) (f : A → X) (xs ys : List A) → AllZip R (map f xs) (map f ys) → length ys ≡ length xs
zipped_same R f [] [] zip = refl
zipped_same R f (x ∷ xs) (y ∷ ys) zip = ap suc (zipped_same R f xs ys zip.1)
zipped_same R f [] (y ∷ ys) zip = absurd zip
zipped_same R f (x ∷ xs) [] zip = absurd zip
