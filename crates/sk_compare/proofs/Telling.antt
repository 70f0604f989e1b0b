-- What is told, story by story.
use Rattle.std.proofs.Common.{◌≡◌, ◌≢◌, ◌==◌, ◌<◌, ◌+◌, Bool, true, false, arith, get_or-set_other, get_or-set_same, if◌then◌else◌, set, ◌++◌, ◌∷◌, ◌∙◌, ℕ, List, [], zero, suc, ap, get_or, length, map, refl, Result, Ok, Err, OnOk, sym, take}
use Rattle.std.proofs.lemmas.List.{append-nil, flat_map_more, get_or-map, length-map, map-append, map-set, take_more}
use Rattle.sk_compare.specs.Exchange.{Exchange}
use Rattle.sk_compare.specs.Alike.{told, told_by}
use Rattle.sk_lane.specs.declared.story.Story.{Story}

pub told_more : (stories : List Story) (i : ℕ) (story : Story) (s : ℕ) → i < length stories → story ≡ get_or stories i story →
    told (take i stories) s ++ told_by s story ≡ told (take (i + 1) stories) s
told_more stories i story s within is =
    flat_map_more (told_by s) [] (take i stories) story
    ∙ ap (λ l. told l s) (sym (take_more stories i story within ∙ ap (λ y. take i stories ++ y ∷ []) (sym is)))

pub empty_behind : (t : List (List Exchange)) (s : ℕ) → get_or (t ++ [] ∷ []) s [] ≡ get_or t s []
empty_behind [] zero = refl
empty_behind [] (suc s) = refl
empty_behind (x ∷ t) zero = refl
empty_behind (x ∷ t) (suc s) = empty_behind t s

-- One more list, without asks.
pub reached : {A : Type 0} (f : A → List Exchange) (t : List A) (x : A) (s : ℕ) → f x ≡ [] → get_or (map f (t ++ x ∷ [])) s [] ≡ get_or (map f t) s []
reached f t x s none = ap (λ l. get_or l s []) (map-append f t (x ∷ []) ∙ ap (λ y. map f t ++ y ∷ []) none) ∙ empty_behind (map f t) s

-- The asks of a story stand behind those of its seat.
pub added_at : (t : List (List Exchange)) (k s : ℕ) (xs : List Exchange) (b : Bool) → (k == s) ≡ b → k < length t →
    get_or (set t k (get_or t k [] ++ xs)) s [] ≡ get_or t s [] ++ (if b then xs else [])
added_at t k s xs true at within =
    let same : k ≡ s = grind (arith, at) in
    ap (λ i. get_or (set t k (get_or t k [] ++ xs)) i []) (sym same) ∙ get_or-set_same t k (get_or t k [] ++ xs) [] within ∙ ap (λ i. get_or t i [] ++ xs) same
added_at t k s xs false at within =
    let other : s ≢ k = grind (arith, at) in
    get_or-set_other t k s (get_or t k [] ++ xs) [] other ∙ sym (append-nil (get_or t s []))

-- A list of asks grew by those of a story.
pub told_added : {A : Type 0} (f : A → List Exchange) (items : List A) (k : ℕ) (own own2 : A) (xs : List Exchange) → k < length items →
    own ≡ get_or items k own → f own2 ≡ f own ++ xs → (s : ℕ) → get_or (map f (set items k own2)) s [] ≡ get_or (map f items) s [] ++ (if k == s then xs else [])
told_added f items k own own2 xs within is grown s =
    let t = map f items in
    let old : get_or t k [] ≡ f own = get_or-map f items k own [] within ∙ ap (λ o. f o) (sym is) in
    let new : f own2 ≡ get_or t k [] ++ xs = grown ∙ ap (λ l. l ++ xs) (sym old) in
    ap (λ l. get_or l s []) (map-set f items k own2 ∙ ap (λ y. set t k y) new)
    ∙ added_at t k s xs (k == s) refl (omega (arith, within, length-map items f))

pub when_ok : {X E : Type 0} {P Q : Type 0} (r : Result X E) → OnOk r P → (P → Q) → OnOk r Q
when_ok (Ok x) h f = f h
when_ok (Err e) h f = tt
