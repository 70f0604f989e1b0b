-- How a draft goes through the functions of a chain, one after another.
use Rattle.std.proofs.Common.{◌≡◌, ◌<◌, ◌≤◌, ◌+◌, ℕ, arith, get_or, List, [], ◌∷◌, ◌++◌, length, take, drop, refl, sym, subst, ap, ◌∙◌, Option, Some, None, Bool, IsTrue, ◌↔◌, ◌||◌, map, bytes_eq}
use Rattle.std.specs.List.{FoldsTo, list_any, Contains, AllByRecursion}
use Rattle.std.proofs.lemmas.List.{append_assoc, take_more, take_all, take-append-drop, length-take}
use Rattle.std.proofs.lemmas.List.Elements.{All-contains, All-map, All-from_recursion}
use Rattle.std.proofs.lemmas.Map.Views.{Contains-from_any, list_any-from_Contains}
use Rattle.std.proofs.lemmas.Cmp.{nat_list_eq_equiv}
use Rattle.std.proofs.lemmas.Slice.Eq.{bytes_eq-Decides}
use Rattle.sk_resp.specs.Spelling.{Bytes}
use Rattle.sk_payload.specs.declared.draft.JobDraft.{JobDraft}
use Rattle.sk_middle.specs.Chain.{Passes, StopsAt}
use Rattle.sk_middle.specs.Identity.{KeepsIdentity}

-- ## Names

list_any-names : {S : Type 0} (f : S → Bytes) (q : Bytes) (xs : List S) → list_any (λ s. bytes_eq q (f s)) xs ≡ list_any (bytes_eq q) (map f xs)
list_any-names f q [] = refl
list_any-names f q (x ∷ xs) = ap (λ b. bytes_eq q (f x) || b) (list_any-names f q xs)

-- A test for the name finds it exactly where it is there.
pub is_there : {S : Type 0} (f : S → Bytes) (q : Bytes) (xs : List S) (found : Bool) → found ≡ list_any (λ s. bytes_eq q (f s)) xs → IsTrue found ↔ Contains (map f xs) q
is_there f q xs found e = (
  λ t. Contains-from_any (λ a b h. (bytes_eq-Decides a b).0 h) q (map f xs) (sym (list_any-names f q xs) ∙ sym e ∙ t),
  λ c. e ∙ list_any-names f q xs ∙ list_any-from_Contains nat_list_eq_equiv q (map f xs) c,
)

everywhere : {S : Type 0} (P : S → Type 0) → ((s : S) → P s) → (xs : List S) → AllByRecursion P xs
everywhere P every [] = tt
everywhere P every (x ∷ xs) = (every x, everywhere P every xs)

-- What holds of every name of a list holds of one that is in it.
pub of_names : {S : Type 0} (f : S → Bytes) (P : Bytes → Type 0) (xs : List S) (q : Bytes) → ((s : S) → P (f s)) → Contains (map f xs) q → P q
of_names f P xs q every c = All-contains P (map f xs) q (All-map P f xs (All-from_recursion (λ s. P (f s)) xs (everywhere (λ s. P (f s)) every xs))) c

-- ## Drafts

-- one more item at the end
pub FoldsTo-append_one : {P A : Type 0} (R : P → A → P → Type 0) (p q r : P) (xs : List A) (x : A) → FoldsTo R p xs q → R q x r → FoldsTo R p (xs ++ x ∷ []) r
FoldsTo-append_one R p q r [] x e step = (r, subst (λ s. R s x r) (sym e) step, refl)
FoldsTo-append_one R p q r (y ∷ ys) x walk step = (walk.0, walk.1, FoldsTo-append_one R walk.0 q r ys x walk.2 step)

pub KeepsIdentity-refl : (d : JobDraft) → KeepsIdentity d d
KeepsIdentity-refl d = record { jid = refl; class = refl; bid = refl }

pub KeepsIdentity-trans : (d e f : JobDraft) → KeepsIdentity d e → KeepsIdentity e f → KeepsIdentity d f
KeepsIdentity-trans d e f p q = record { jid = q.jid ∙ p.jid; class = q.class ∙ p.class; bid = q.bid ∙ p.bid }

-- ## The loop over the functions

-- The function at this place is the next one.
module _ {S : Type 0} (Answers : S → JobDraft → Option JobDraft → Type 0) (steps items : List S) (same : items ≡ steps) (place : ℕ) (step : S) (draft last : JobDraft) where
  until : place < length items → step ≡ get_or items place step → take (place + 1) steps ≡ take place steps ++ step ∷ []
  until lt is =
      take_more steps place step (subst (λ xs. place < length xs) same lt)
      ∙ ap (λ s. take place steps ++ s ∷ []) (sym (subst (λ xs. step ≡ get_or xs place step) same is))

  pub Passes-next : (next : JobDraft) → place < length items → step ≡ get_or items place step → Passes Answers (take place steps) draft last → Answers step last (Some next) →
      Passes Answers (take (place + 1) steps) draft next
  Passes-next next lt is passes answered =
      subst (λ xs. Passes Answers xs draft next) (sym (until lt is))
      (FoldsTo-append_one (λ d s e. Answers s d (Some e)) draft last next (take place steps) step passes answered)

  pub StopsAt-next : place < length items → step ≡ get_or items place step → Passes Answers (take place steps) draft last → Answers step last None →
      StopsAt Answers steps draft place
  StopsAt-next lt is passes stopped =
      let within : place < length steps = subst (λ xs. place < length xs) same lt in
      record {
        before = take place steps;
        step = step;
        behind = drop (place + 1) steps;
        last = last;
        is = sym (take-append-drop (place + 1) steps) ∙ ap (λ xs. xs ++ drop (place + 1) steps) (until lt is) ∙ append_assoc (take place steps) (step ∷ []) (drop (place + 1) steps);
        many = length-take place steps ∙ omega arith;
        passes = passes;
        stops = stopped;
      }

-- No function is left.
pub Passes-all : {S : Type 0} (Answers : S → JobDraft → Option JobDraft → Type 0) (steps items : List S) → items ≡ steps → (place : ℕ) (draft last : JobDraft) →
    length items ≤ place → Passes Answers (take place steps) draft last → Passes Answers steps draft last
Passes-all Answers steps items same place draft last ge passes =
    subst (λ xs. Passes Answers xs draft last) (take_all place steps (subst (λ xs. length xs ≤ place) same ge)) passes
