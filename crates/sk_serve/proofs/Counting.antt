-- Lists from whose end one is taken, and lists of pairs at each place.
use Rattle.std.proofs.Common.{◌≡◌, ℕ, ◌+◌, ◌*◌, ◌<◌, List, [], ◌∷◌, ◌++◌, length, refl, sym, ap, ◌∙◌, arith, mul-add, mul-one, slice_index_or, suc, ◌≤◌, ◌/◌, append_assoc, append-nil, map}
use Rattle.std.specs.Prelude.{reverse}
use Rattle.std.specs.List.{AllZip, sum_by}
use Rattle.std.proofs.lemmas.List.Sums.{sum_by_push}
use Rattle.std.proofs.lemmas.List.{map_push, reverse-append}
use Rattle.std.proofs.lemmas.Nat.{le-div}

-- one more
pub more : (n a b : ℕ) → a ≡ b + 1 → n * a ≡ n * b + n
more n a b is = ap (λ k. n * k) is ∙ mul-add n b 1 ∙ ap (λ z. n * b + z) (mul-one n)

-- what holds at each place holds of the lists
pub zipped : {X : Type 0} (R : X → X → Type 0) (xs ys : List X) → length ys ≡ length xs → ((i : ℕ) (d : X) → i < length xs → R (slice_index_or xs i d) (slice_index_or ys i d)) → AllZip R xs ys
zipped R [] [] same each = tt
zipped R (x ∷ xs) (y ∷ ys) same each = (each 0 x (omega arith), zipped R xs ys (omega (arith, same)) (λ i d less. each (suc i) d (omega (arith, less))))
zipped R [] (y ∷ ys) same each = absurd (omega (arith, same))
zipped R (x ∷ xs) [] same each = absurd (omega (arith, same))

-- a share of at least one for each
pub some_each : (n d : ℕ) → 0 < d → d ≤ n → 0 < n / d
some_each n d some few = omega (arith, le-div 1 n d some (omega (arith, few)))

-- parts that were given away and came back
pub all_back : (new mid old total n a b : ℕ) → new ≡ mid + 2 * (n * a) → mid + 2 * (n * b) ≡ old → a ≡ b → old ≡ total → new ≡ total
all_back new mid old total n a b back gave same all = omega (arith, back, gave, ap (λ k. n * k) same, all)

-- ## A list that is moved from its end to another

pub popped : {X : Type 0} (xs xs' : List X) (x : X) → xs ≡ xs' ++ x ∷ [] → reverse xs ≡ x ∷ reverse xs'
popped xs xs' x gone = ap reverse gone ∙ reverse-append xs' (x ∷ [])

pub popped_by : {X T : Type 0} (f : X → T) (xs xs' : List X) (x : X) → xs ≡ xs' ++ x ∷ [] → reverse (map f xs) ≡ f x ∷ reverse (map f xs')
popped_by f xs xs' x gone = ap (λ z. reverse (map f z)) gone ∙ ap reverse (map_push f xs' x) ∙ reverse-append (map f xs') (f x ∷ [])

pub pushed_by : {Y T : Type 0} (g : Y → T) (ys ys' : List Y) (y : Y) (t : T) → ys' ≡ ys ++ y ∷ [] → g y ≡ t → map g ys' ≡ map g ys ++ t ∷ []
pushed_by g ys ys' y t come same = ap (map g) come ∙ map_push g ys y ∙ ap (λ n. map g ys ++ n ∷ []) same

-- one more
pub moved : {T : Type 0} (front front' back back' : List T) (x : T) (all : List T) → back ≡ x ∷ back' → front' ≡ front ++ x ∷ [] → front ++ back ≡ all → front' ++ back' ≡ all
moved front front' back back' x all gone come was = ap (λ z. z ++ back') come ∙ append_assoc front (x ∷ []) back' ∙ sym (ap (λ z. front ++ z) gone) ∙ was

pub none_yet : {T : Type 0} (front all : List T) → length front ≡ 0 → front ++ all ≡ all
none_yet [] all none = refl
none_yet (t ∷ front) all none = absurd (omega (arith, none))

pub none_mapped : {Y T : Type 0} (g : Y → T) (ys : List Y) (all : List T) → length ys ≡ 0 → map g ys ++ all ≡ all
none_mapped g [] all none = refl
none_mapped g (y ∷ ys) all none = absurd (omega (arith, none))

pub all_moved : {T : Type 0} (front back all : List T) → length back ≡ 0 → front ++ reverse back ≡ all → front ≡ all
all_moved front [] all none is = sym (append-nil front) ∙ is
all_moved front (t ∷ back) all none is = absurd (omega (arith, none))

pub all_moved_by : {X T : Type 0} (f : X → T) (xs : List X) (front all : List T) → length xs ≡ 0 → front ++ reverse (map f xs) ≡ all → front ≡ all
all_moved_by f [] front all none is = sym (append-nil front) ∙ is
all_moved_by f (x ∷ xs) front all none is = absurd (omega (arith, none))

-- ## A sum over it

pub sum_popped : {X : Type 0} (f : X → ℕ) (xs xs' : List X) (x : X) → xs ≡ xs' ++ x ∷ [] → sum_by f xs ≡ sum_by f xs' + f x
sum_popped f xs xs' x gone = ap (sum_by f) gone ∙ sum_by_push f xs' x

pub sum_none : {X : Type 0} (f : X → ℕ) (xs : List X) → length xs ≡ 0 → sum_by f xs ≡ 0
sum_none f [] none = refl
sum_none f (x ∷ xs) none = absurd (omega (arith, none))
