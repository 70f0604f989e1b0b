-- The numbers of a field, with one more part.
use Rattle.std.specs.Prelude.{cond}
use Rattle.std.proofs.Math.Decide.{ℕ_discrete}
use Rattle.std.proofs.Math.Seq.{get_or-append_seam}
use Rattle.std.proofs.Common.{subst, zero, suc, rules, arith, ◌≡◌, ◌≢◌, ◌<◌, ◌≤◌, ◌+◌, ◌++◌, ◌∷◌, ◌∙◌, [], List, ℕ, Bool, true, false, not, ◌&&◌, ◌||◌, get_or, set, length, nat_lt, nat_le, refl, sym, ap, ◌⊎◌, inl, inr}
use Rattle.std.proofs.lemmas.Grind.{common_steps}
use Rattle.std.proofs.lemmas.List.{get_or-set_same, get_or-set_other, get_or-append_right, get_or_append_left}
use Rattle.std.proofs.lemmas.List.Folds.{list_any-append}
use Rattle.sk_cron.specs.declared.bounds.Bounds.{Bounds}
use Rattle.sk_cron.specs.declared.part.Part.{Part}
use Rattle.sk_cron.specs.declared.part.Part.TheVariants as part
use Rattle.sk_cron.specs.Times.{has, has_any, is_restricted}
use Rattle.sk_cron.specs.CronText.{five, minutes}
use Rattle.sk_cron.specs.Read.{AllHold, Holds, is_empty, no_field}
use Rattle.sk_cron.specs.declared.field.Field.{Field}

-- the part's numbers below k are put in
abbrev pub Marked : List Bool → Bounds → Part → ℕ → List Bool → Type 0
Marked old b p k numbers = (n : ℕ) → n < 60 → get_or numbers n false ≡ (get_or old n false || (nat_lt n k && has b p n))

pub marked_none : (old : List Bool) (b : Bounds) (p : Part) → Marked old b p 0 old
marked_none old b p n lt = grind (arith, common_steps)

pub marked_next : (old : List Bool) (b : Bounds) (p : Part) (k : ℕ) (numbers : List Bool) (d : Bool) → Marked old b p k numbers → k < length numbers → Marked old b p (k + 1) (set numbers k (get_or numbers k d || has b p k))
marked_next old b p k numbers d m within n lt = grind (arith, common_steps, m n lt)

pub marked_all : (old : List Bool) (b : Bounds) (p : Part) (k : ℕ) (numbers : List Bool) → Marked old b p k numbers → 60 ≤ k → (n : ℕ) → n < 60 → get_or numbers n false ≡ (get_or old n false || has b p n)
marked_all old b p k numbers m end n lt = grind (arith, common_steps, m n lt)

-- ## A part more

-- whether the part is `*`
pub is_star : Part → Bool
is_star part.Star = true
is_star p = false

pub restricted_more : (parts : List Part) (p : Part) → is_restricted (parts ++ p ∷ []) ≡ not (is_empty parts && is_star p)
unfolding is_star
restricted_more [] part.Star = refl
restricted_more [] (part.Number n) = refl
restricted_more [] (part.Range a b c) = refl
restricted_more [] (part.StarStep n) = refl
restricted_more (q ∷ []) p = by q
  where
    by : (q : Part) → is_restricted (q ∷ p ∷ []) ≡ true
    by part.Star = refl
    by (part.Number n) = refl
    by (part.Range a b c) = refl
    by (part.StarStep n) = refl
restricted_more (q ∷ r ∷ parts) p = by q
  where
    by : (q : Part) → is_restricted (q ∷ r ∷ parts ++ p ∷ []) ≡ true
    by part.Star = refl
    by (part.Number n) = refl
    by (part.Range a b c) = refl
    by (part.StarStep n) = refl

pub empty_more : (parts : List Part) (p : Part) → is_empty (parts ++ p ∷ []) ≡ false
empty_more [] p = refl
empty_more (q ∷ parts) p = refl

pub numbers_more : (b : Bounds) (parts : List Part) (p : Part) (n : ℕ) → has_any b (parts ++ p ∷ []) n ≡ (has_any b parts n || has b p n)
numbers_more b parts p n = grind (arith, common_steps, list_any-append (λ q. has b q n) parts (p ∷ []))

pub added : (b : Bounds) (parts : List Part) (p : Part) (old new : Field) → Holds b parts old → ((n : ℕ) → n < 60 → get_or new.numbers n false ≡ (get_or old.numbers n false || has b p n)) → new.is_empty ≡ false
    → new.is_restricted ≡ not (old.is_empty && is_star p) → Holds b (parts ++ p ∷ []) new
added b parts p old new h numbers empty restricted = record {
  numbers = λ n lt. numbers n lt ∙ ap (λ t. t || has b p n) (h.numbers n lt) ∙ sym (numbers_more b parts p n);
  empty = empty ∙ sym (empty_more parts p);
  restricted = restricted ∙ ap (λ t. not (t && is_star p)) h.empty ∙ sym (restricted_more parts p);
}

-- ## The five fields

hold_as : (b : Bounds) (ps qs : List Part) (f g : Field) → ps ≡ qs → f ≡ g → Holds b ps f → Holds b qs g
hold_as b ps qs f g e d h = subst (λ x. Holds b qs x) d (subst (λ x. Holds b x f) e h)

-- the field at the end of the lists has one more part
pub all_added : (done : List (List Part)) (parts : List Part) (p : Part) (fields : List Field) (at : ℕ) (f : Field) → length done ≡ at → at < length fields → AllHold (done ++ parts ∷ []) fields
    → (Holds (get_or five at minutes) parts (get_or fields at no_field) → Holds (get_or five at minutes) (parts ++ p ∷ []) f) → AllHold (done ++ (parts ++ p ∷ []) ∷ []) (set fields at f)
all_added done parts p fields at f here within h more i lt = by (ℕ_discrete i at)
  where
    at_end : (ps : List Part) → get_or (done ++ ps ∷ []) at [] ≡ ps
    at_end ps = subst (λ k. get_or (done ++ ps ∷ []) k [] ≡ ps) here (get_or-append_seam done ps [] [])

    apart : (ps : List Part) → i ≢ at → get_or (done ++ ps ∷ []) i [] ≡ get_or done i []
    apart ps other = grind (arith, common_steps, here, other)

    here_holds : at < 5 → Holds (get_or five at minutes) parts (get_or fields at no_field)
    here_holds few = hold_as _ _ _ _ _ (at_end parts) refl (h at few)

    by : Dec (i ≡ at) → Holds (get_or five i minutes) (get_or (done ++ (parts ++ p ∷ []) ∷ []) i []) (get_or (set fields at f) i no_field)
    by (yes e) = subst (λ k. Holds (get_or five k minutes) (get_or (done ++ (parts ++ p ∷ []) ∷ []) k []) (get_or (set fields at f) k no_field)) (sym e)
        (hold_as _ _ _ _ _ (sym (at_end (parts ++ p ∷ []))) (sym (get_or-set_same fields at f no_field within)) (more (here_holds (subst (λ k. k < 5) e lt))))
    by (no other) = hold_as _ _ _ _ _ (apart parts other ∙ sym (apart (parts ++ p ∷ []) other)) (sym (get_or-set_other fields at i f no_field other)) (h i lt)

-- another one begins
pub all_opened : (lists : List (List Part)) (fields : List Field) → AllHold lists fields → AllHold (lists ++ [] ∷ []) fields
all_opened lists fields h i lt = subst (λ ps. Holds (get_or five i minutes) ps (get_or fields i no_field)) (sym (open_list lists i)) (h i lt)
  where
    open_list : (lists : List (List Part)) (i : ℕ) → get_or (lists ++ [] ∷ []) i [] ≡ get_or lists i []
    open_list lists i = grind (arith, common_steps)

-- none is read
pub all_empty : (f : Field) → ((b : Bounds) → Holds b [] f) → AllHold ([] ∷ []) (f ∷ f ∷ f ∷ f ∷ f ∷ [])
all_empty f h zero lt = h _
all_empty f h (suc zero) lt = h _
all_empty f h (suc (suc zero)) lt = h _
all_empty f h (suc (suc (suc zero))) lt = h _
all_empty f h (suc (suc (suc (suc zero)))) lt = h _
all_empty f h (suc (suc (suc (suc (suc i))))) lt = absurd (omega (arith, lt))
