-- Teams, rules and workers, side by side.
use Rattle.std.proofs.Common.{◌≡◌, ◌<◌, ◌+◌, ◌++◌, ◌∷◌, ◌∙◌, ℕ, suc, length-append, List, [], Option, Some, Result, Ok, Err, IfOk, IfSome, ap, append_assoc, arith, length, map, refl, slice_index_or, subst, sym}
use Rattle.std.proofs.lemmas.List.{append-nil, length-map, map-append}
use Rattle.std.proofs.lemmas.List.Elements.{length_all_zip}
use Rattle.std.specs.List.{AllZip, zip}
use Rattle.sk_drill.specs.Crews.{Assigned, AssignedSoFar}

pub all_by_place : {X : Type 0} (R : X → X → Type 0) (xs ys : List X) → length xs ≡ length ys
    → ((i : ℕ) (d : X) → i < length xs → R (slice_index_or xs i d) (slice_index_or ys i d)) → AllZip R xs ys
all_by_place R [] [] same each = tt
all_by_place R (x ∷ xs) (y ∷ ys) same each =
    (each 0 x (omega arith), all_by_place R xs ys (omega (arith, same)) (λ i d less. each (suc i) d (omega (arith, less))))
all_by_place R [] (y ∷ ys) same each = absurd (omega (arith, same))
all_by_place R (x ∷ xs) [] same each = absurd (omega (arith, same))

pub nothing_before : {X : Type 0} (xs ys zs : List X) → xs ≡ ys ++ zs → ys ≡ [] → xs ≡ zs
nothing_before xs ys zs is none = is ∙ ap (λ l. l ++ zs) none

pub between : {X : Type 0} (R : X → X → Type 0) (x x' y y' : X) → x' ≡ x → y' ≡ y → R x' y' → R x y
between R x x' y y' e d r = subst (λ z. R x z) d (subst (λ z. R z y') e r)

assigned_next : {T P X : Type 0} (Is : ℕ → T → P → X → Type 0) (n m : ℕ) (teams teams2 : List T) (rules rules2 : List P) (team : T) (rule : P) (x : X) (rest : List X) →
    teams ≡ team ∷ teams2 → rules ≡ rule ∷ rules2 → m ≡ n + 1 → Is n team rule x → Assigned Is m teams2 rules2 rest → Assigned Is n teams rules (x ∷ rest)
assigned_next Is n m teams teams2 rules rules2 team rule x rest teams_are rules_are is one more =
    rw (teams_are, rules_are) (one, subst (λ k. Assigned Is k teams2 rules2 rest) is more)

-- One more was assigned.
pub assigned_more : {T P X : Type 0} (Is : ℕ → T → P → X → Type 0) (n m : ℕ) (teams teams1 teams2 : List T) (rules rules1 rules2 : List P) (team : T) (rule : P)
    (x : X) (xs xs2 : List X) → AssignedSoFar Is teams rules xs n teams1 rules1 → teams1 ≡ team ∷ teams2 → rules1 ≡ rule ∷ rules2 → m ≡ n + 1 →
    Is n team rule x → xs2 ≡ xs ++ x ∷ [] → AssignedSoFar Is teams rules xs2 m teams2 rules2
assigned_more Is n m teams teams1 teams2 rules rules1 rules2 team rule x xs xs2 so teams_are rules_are is one xs_are = record {
  on = λ rest more. subst (λ l. Assigned Is 1 teams rules l) (sym (ap (λ l. l ++ rest) xs_are ∙ append_assoc xs (x ∷ []) rest))
      (so.on (x ∷ rest) (assigned_next Is n m teams1 teams2 rules1 rules2 team rule x rest teams_are rules_are is one more));
}

pub assigned_none : {T P X : Type 0} (Is : ℕ → T → P → X → Type 0) (teams : List T) (rules : List P) (xs : List X) → xs ≡ [] →
    AssignedSoFar Is teams rules xs 1 teams rules
assigned_none Is teams rules xs none = record { on = λ rest more. subst (λ l. Assigned Is 1 teams rules (l ++ rest)) (sym none) more }

none_left : {T P X : Type 0} (Is : ℕ → T → P → X → Type 0) (n : ℕ) (teams : List T) (rules : List P) → Assigned Is n teams rules []
none_left Is n [] rules = tt
none_left Is n (team ∷ teams) [] = tt
none_left Is n (team ∷ teams) (rule ∷ rules) = tt

pub all_assigned : {T P X : Type 0} (Is : ℕ → T → P → X → Type 0) (teams : List T) (rules : List P) (xs : List X) (n : ℕ) (teams1 : List T) (rules1 : List P) →
    AssignedSoFar Is teams rules xs n teams1 rules1 → Assigned Is 1 teams rules xs
all_assigned Is teams rules xs n teams1 rules1 so = subst (λ l. Assigned Is 1 teams rules l) (append-nil xs) (so.on [] (none_left Is n teams1 rules1))

pub teams_more : {T X : Type 0} (of : X → T) (xs xs2 : List X) (x : X) (team : T) (teams teams1 teams2 : List T) → map of xs ++ teams1 ≡ teams →
    teams1 ≡ team ∷ teams2 → of x ≡ team → xs2 ≡ xs ++ x ∷ [] → map of xs2 ++ teams2 ≡ teams
teams_more of xs xs2 x team teams teams1 teams2 was teams_are is xs_are =
    ap (λ l. map of l ++ teams2) xs_are ∙ ap (λ l. l ++ teams2) (map-append of xs (x ∷ [])) ∙ append_assoc (map of xs) (of x ∷ []) teams2
    ∙ ap (λ t. map of xs ++ t ∷ teams2) is ∙ ap (λ l. map of xs ++ l) (sym teams_are) ∙ was

-- ## Workers that are dismissed

pub back_more : {W X : Type 0} (of : W → X) (xs xs2 all : List X) (w : W) (before rest : List W) → xs ++ map of before ≡ all → before ≡ w ∷ rest →
    xs2 ≡ xs ++ of w ∷ [] → xs2 ++ map of rest ≡ all
back_more of xs xs2 all w before rest was is now =
    ap (λ l. l ++ map of rest) now ∙ append_assoc xs (of w ∷ []) (map of rest) ∙ ap (λ l. xs ++ map of l) (sym is) ∙ was

pub lanes_more : {W V : Type 0} (of : W → Option V) (all : List (Option V)) (ls ls2 : List V) (w : W) (lane : V) (before rest : List W) →
    all ≡ map Some ls ++ map of before → before ≡ w ∷ rest → of w ≡ Some lane → ls2 ≡ ls ++ lane ∷ [] → all ≡ map Some ls2 ++ map of rest
lanes_more of all ls ls2 w lane before rest was is one now =
    was ∙ ap (λ l. map Some ls ++ map of l) is ∙ ap (λ o. map Some ls ++ o ∷ map of rest) one
    ∙ sym (append_assoc (map Some ls) (Some lane ∷ []) (map of rest))
    ∙ ap (λ l. l ++ map of rest) (sym (map-append (λ v. Some v) ls (lane ∷ [])) ∙ ap (λ l. map Some l) (sym now))

pub classes_kept : {W T C : Type 0} (of : W → T) (classes : T → C) (Did : W → W → Type 0) → ((a b : W) → Did a b → classes (of b) ≡ classes (of a)) →
    (ws ws2 : List W) → AllZip Did ws ws2 → map classes (map of ws2) ≡ map classes (map of ws)
classes_kept of classes Did same [] [] z = refl
classes_kept of classes Did same [] (b ∷ ws2) z = absurd z
classes_kept of classes Did same (a ∷ ws) [] z = absurd z
classes_kept of classes Did same (a ∷ ws) (b ∷ ws2) z =
    ap (λ c. c ∷ map classes (map of ws2)) (same a b z.0) ∙ ap (λ l. classes (of a) ∷ l) (classes_kept of classes Did same ws ws2 z.1)

pub classes_back : {W T C : Type 0} (of : W → T) (classes : T → C) (Did : W → W → Type 0) → ((a b : W) → Did a b → classes (of b) ≡ classes (of a)) →
    (ws ws2 : List W) (back back2 : List T) → AllZip Did ws ws2 → back2 ≡ back ++ map of ws2 → map classes back2 ≡ map classes back ++ map classes (map of ws)
classes_back of classes Did same ws ws2 back back2 z is =
    ap (λ l. map classes l) is ∙ map-append classes back (map of ws2) ∙ ap (λ l. map classes back ++ l) (classes_kept of classes Did same ws ws2 z)

pub if_some : {X : Type 0} (P : X → Type 0) (o : Option X) (x : X) → o ≡ Some x → IfSome o P → P x
if_some P o x is h = subst (λ t. IfSome t P) is h

pub then_ok : {X E : Type 0} {P Q : X → Type 0} (r : Result X E) → IfOk r P → ((x : X) → P x → Q x) → IfOk r Q
then_ok (Ok x) h f = f x h
then_ok (Err e) h f = tt

pub back_len : {W T : Type 0} (of : W → T) (Did : W → W → Type 0) (ws ws2 : List W) (back back2 : List T) → AllZip Did ws ws2 → back2 ≡ back ++ map of ws2 →
    length back2 ≡ length back + length ws
back_len of Did ws ws2 back back2 z is =
    ap (λ l. length l) is ∙ omega (arith, length-append back (map of ws2), length-map ws2 of, length_all_zip Did ws ws2 z)

-- ## Stories of workers that were assigned

zip_none : {T X : Type 0} (ts : List T) → zip {K = T} {X = X} ts [] ≡ []
zip_none [] = refl
zip_none (t ∷ ts) = refl

-- Each of these has its stories, and is what it is to be.
pub all_lanes : {T P W V X : Type 0} (IsWorker : ℕ → T → P → W → Type 0) (Did : W → W → Type 0) (told : W → Option V) (items : V → X) (team_in : W → T)
    (IsTold : ℕ → T → P → T × X → Type 0) →
    ((n : ℕ) (team : T) (rule : P) (a b : W) (v : V) → IsWorker n team rule a → Did a b → told b ≡ Some v → IsTold n team rule (team_in b, items v)) →
    (n : ℕ) (teams : List T) (rules : List P) (ws ws2 : List W) (vs : List V) (left : List T) → Assigned IsWorker n teams rules ws → AllZip Did ws ws2 →
    map told ws2 ≡ map Some vs → Assigned IsTold n teams rules (zip (map team_in ws2 ++ left) (map items vs))
all_lanes IsWorker Did told items team_in IsTold one n teams rules [] [] [] left p z e =
    subst (λ l. Assigned IsTold n teams rules l) (sym (zip_none left)) (none_left IsTold n teams rules)
all_lanes IsWorker Did told items team_in IsTold one n teams rules [] [] (v ∷ vs) left p z e = absurd (omega (arith, ap (λ l. length l) e))
all_lanes IsWorker Did told items team_in IsTold one n teams rules [] (b ∷ ws2) vs left p z e = absurd z
all_lanes IsWorker Did told items team_in IsTold one n teams rules (a ∷ ws) [] vs left p z e = absurd z
all_lanes IsWorker Did told items team_in IsTold one n teams rules (a ∷ ws) (b ∷ ws2) [] left p z e = absurd (omega (arith, ap (λ l. length l) e))
all_lanes IsWorker Did told items team_in IsTold one n [] rules (a ∷ ws) (b ∷ ws2) (v ∷ vs) left p z e = absurd p
all_lanes IsWorker Did told items team_in IsTold one n (team ∷ teams) [] (a ∷ ws) (b ∷ ws2) (v ∷ vs) left p z e = absurd p
all_lanes IsWorker Did told items team_in IsTold one n (team ∷ teams) (rule ∷ rules) (a ∷ ws) (b ∷ ws2) (v ∷ vs) left p z e =
    let first : told b ≡ Some v = cc in
    let others : map told ws2 ≡ map Some vs = cc in
    (one n team rule a b v p.0 z.0 first, all_lanes IsWorker Did told items team_in IsTold one (n + 1) teams rules ws ws2 vs left p.1 z.1 others)

pub lanes_len : {W V X : Type 0} (Did : W → W → Type 0) (told : W → Option V) (items : V → X) (ws ws2 : List W) (vs : List V) → AllZip Did ws ws2 →
    map told ws2 ≡ map Some vs → length (map items vs) ≡ length ws
lanes_len Did told items ws ws2 vs z e =
    omega (arith, length-map vs items, ap (λ l. length l) e, length-map ws2 told, length-map vs (λ v. Some v), length_all_zip Did ws ws2 z)
