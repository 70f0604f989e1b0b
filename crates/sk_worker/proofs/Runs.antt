-- What the jobs of a registry tell after one of them ran.
use Rattle.std.proofs.Common.{◌≡◌, ◌≢◌, ◌<◌, ◌==◌, ◌++◌, append_assoc, inl, inr, ℕ, false, cond, List, [], ◌∷◌, map, length, get_or, set, refl, sym, subst, ap, ◌∙◌, Option, Some, None, unwrap_or, option_map, append-nil, eq-eqb}
use Rattle.std.proofs.lemmas.List.{get_or-set_same, get_or-set_other, get_or-map, map-set, length-map}
use Rattle.std.proofs.lemmas.Bool.Decides.{eqb_tells}
use Rattle.std.proofs.lemmas.List.Elements.{filter-append}
use Rattle.std.proofs.lemmas.Bool.{cond-true, cond-false, ne_eqb}
use Rattle.sk_base.specs.Outside.{Takes}
use Rattle.sk_resp.specs.Spelling.{Bytes}
use Rattle.sk_worker.specs.Run.{Run, RunsTold, runs_at, place_of}

-- nothing more is told of what stays as it is
pub takes-none : {A : Type 0} (told : Option (List A)) → Takes told [] told
takes-none None = tt
takes-none (Some told) = (told, refl, sym (append-nil told))

pub RunsTold-none : (classes : List Bytes) (told : List (Option (List Run))) → RunsTold classes [] told told
RunsTold-none classes told = record { each = λ i. takes-none (get_or told i None) }

-- what is told first, and then more
pub takes-more : {A : Type 0} (before mid after : Option (List A)) (first more : List A) → Takes before first mid → Takes mid more after → Takes before (first ++ more) after
takes-more before mid None first more p q = tt
takes-more before mid (Some after) first more p (told, is, grown) =
    let (begun, was, first_is) = subst (λ o. Takes before first o) is p in
    (begun, was, grown ∙ ap (λ xs. xs ++ more) first_is ∙ append_assoc begun first more)

pub RunsTold-more : (classes : List Bytes) (first more : List Run) (before mid after : List (Option (List Run))) → RunsTold classes first before mid →
    RunsTold classes more mid after → RunsTold classes (first ++ more) before after
RunsTold-more classes first more before mid after p q = record {
  each = λ i. subst (λ runs. Takes (get_or before i None) runs (get_or after i None)) (sym (filter-append _ first more))
      (takes-more (get_or before i None) (get_or mid i None) (get_or after i None) (runs_at classes i first) (runs_at classes i more) (p.each i) (q.each i));
}

-- the place is that of the run's class, or another
one_run : (classes : List Bytes) (run : Run) (k i : ℕ) → place_of classes run.head.class ≡ Some k → runs_at classes i (run ∷ []) ≡ cond (k == i) (run ∷ []) []
one_run classes run k i e = ap (λ place. cond (unwrap_or (option_map (λ j. j == i) place) false) (run ∷ []) []) e

at_other : (before after : List (Option (List Run))) (more : List Run) (i : ℕ) → more ≡ [] → get_or after i None ≡ get_or before i None → Takes (get_or before i None) more (get_or after i None)
at_other before after more i none same = subst (λ xs. Takes (get_or before i None) xs (get_or after i None)) (sym none) (subst (λ o. Takes (get_or before i None) [] o) (sym same) (takes-none (get_or before i None)))

-- One slot was changed: its job told these runs, which are those of its class.
pub told_one : {X : Type 0} (tells : X → Option (List Run)) (xs : List X) (classes : List Bytes) (runs : List Run) (k : ℕ) (d y : X) →
    k < length xs → ((i : ℕ) → i ≢ k → runs_at classes i runs ≡ []) → runs_at classes k runs ≡ runs →
    Takes (tells (get_or xs k d)) runs (tells y) → RunsTold classes runs (map tells xs) (map tells (set xs k y))
told_one tells xs classes runs k d y lt others mine adds = record {
  each = λ i. elim (eqb_tells i k) [
    | inl h ↦
        let here : get_or (map tells xs) k None ≡ tells (get_or xs k d) = get_or-map tells xs k d None lt in
        let there : get_or (map tells (set xs k y)) k None ≡ tells y = ap (λ l. get_or l k None) (map-set tells xs k y) ∙ get_or-set_same (map tells xs) k (tells y) None (subst (λ n. k < n) (sym (length-map xs tells)) lt) in
        subst (λ j. Takes (get_or (map tells xs) j None) (runs_at classes j runs) (get_or (map tells (set xs k y)) j None)) (sym h.1)
        (subst (λ o. Takes o (runs_at classes k runs) (get_or (map tells (set xs k y)) k None)) (sym here)
        (subst (λ rs. Takes (tells (get_or xs k d)) rs (get_or (map tells (set xs k y)) k None)) (sym mine)
        (subst (λ o. Takes (tells (get_or xs k d)) runs o) (sym there) adds)))
    | inr h ↦ at_other (map tells xs) (map tells (set xs k y)) (runs_at classes i runs) i (others i h.1)
        (ap (λ l. get_or l i None) (map-set tells xs k y) ∙ get_or-set_other (map tells xs) k i (tells y) None h.1)
  ];
}

pub told_run : {X : Type 0} (tells : X → Option (List Run)) (xs : List X) (classes : List Bytes) (run : Run) (k : ℕ) (d y : X) →
    k < length xs → place_of classes run.head.class ≡ Some k →
    Takes (tells (get_or xs k d)) (run ∷ []) (tells y) → RunsTold classes (run ∷ []) (map tells xs) (map tells (set xs k y))
told_run tells xs classes run k d y lt place adds = told_one tells xs classes (run ∷ []) k d y lt
    (λ i ne. one_run classes run k i place ∙ cond-false (k == i) (run ∷ []) [] (ne_eqb k i (λ e. ne (sym e))))
    (one_run classes run k k place ∙ cond-true (k == k) (run ∷ []) [] (eq-eqb k k refl)) adds

pub told_no_run : {X : Type 0} (tells : X → Option (List Run)) (xs : List X) (classes : List Bytes) (k : ℕ) (d y : X) →
    k < length xs → Takes (tells (get_or xs k d)) [] (tells y) → RunsTold classes [] (map tells xs) (map tells (set xs k y))
told_no_run tells xs classes k d y lt adds = told_one tells xs classes [] k d y lt (λ i ne. refl) refl adds

pub RunsTold-nothing : (classes : List Bytes) (runs : List Run) (before after : List (Option (List Run))) → runs ≡ [] →
    RunsTold classes [] before after → RunsTold classes runs before after
RunsTold-nothing classes runs before after e told = subst (λ rs. RunsTold classes rs before after) (sym e) told

pub RunsTold-first : (classes : List Bytes) (run : Run) (runs : List Run) (before after : List (Option (List Run))) → runs ≡ [] →
    RunsTold classes (run ∷ []) before after → RunsTold classes (run ∷ runs) before after
RunsTold-first classes run runs before after e told = subst (λ rs. RunsTold classes (run ∷ rs) before after) (sym e) told
