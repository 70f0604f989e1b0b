-- Bodies behind bodies.
use Rattle.std.proofs.Common.{inl, inr, refl, sym, ◌∙◌, ap, subst, ℕ, List, [], ◌∷◌, ◌++◌, append_assoc}
use Rattle.std.proofs.lemmas.List.{append-nil}
use Rattle.sk_disk.specs.Images.{Images, Narrows}
use Rattle.sk_disk.proofs.Moments.{joins, started, weakens}
use Rattle.sk_log.specs.File.{Body, IsAt, Stood, StoodOrMore}
use Rattle.sk_log.specs.Appending.{Adds, AddsOrKeeps}
use Rattle.sk_aof.specs.Appends.{Appends, LeavesFront, StoodFront}

one_or_none : (events : List Body) (body : Body) (c : List ℕ) → StoodOrMore events (body ∷ []) c → StoodFront events (body ∷ []) c
one_or_none events body c (inl s) = record { done = []; more = body ∷ []; is = refl; stood = subst (λ (bodies : List Body). Stood bodies c) (sym (append-nil events)) s }
one_or_none events body c (inr s) = record { done = body ∷ []; more = []; is = sym (append-nil (body ∷ [])); stood = s }

module _ {D : Type 0} (may_leave : D → Images) (moment : D → ℕ) (left_since : D → ℕ → Images) where
  -- nothing was written
  pub none_appended : (gate : ℕ) (disk : D) → Narrows (may_leave disk) (left_since disk (moment disk)) → Appends may_leave moment left_since [] gate disk gate disk
  none_appended gate disk only = record {
    moments = λ events at. started moment left_since disk (StoodFront events [])
        (λ c left. record { done = []; more = []; is = refl; stood = subst (λ (bodies : List Body). Stood bodies c) (sym (append-nil events)) (at.stood c (only c left)) });
    added = λ events at. subst (λ (bodies : List Body). IsAt bodies gate (may_leave disk)) (sym (append-nil events)) at;
  }

  pub one_left : (body : Body) (gate : ℕ) (old new : D) → AddsOrKeeps may_leave moment left_since (body ∷ []) gate old new → LeavesFront may_leave moment left_since (body ∷ []) gate old new
  one_left body gate old new adds = λ events at. weakens moment left_since old new (StoodOrMore events (body ∷ [])) (StoodFront events (body ∷ [])) (adds events at) (one_or_none events body)

  pub one_appended : (body : Body) (before : ℕ) (old : D) (gate : ℕ) (new : D) → AddsOrKeeps may_leave moment left_since (body ∷ []) before old new → Adds (body ∷ []) before (may_leave old) gate (may_leave new)
      → Appends may_leave moment left_since (body ∷ []) before old gate new
  one_appended body before old gate new keeps adds = record { moments = one_left body before old new keeps; added = adds }

  module _ (first more : List Body) (before : ℕ) (old : D) (gate : ℕ) (mid : D) (done : Appends may_leave moment left_since first before old gate mid) where
    pub more_left : (new : D) → LeavesFront may_leave moment left_since more gate mid new → LeavesFront may_leave moment left_since (first ++ more) before old new
    more_left new then = λ events at.
        let of_first = weakens moment left_since old mid (StoodFront events first) (StoodFront events (first ++ more)) (done.moments events at)
        (λ c s. record { done = s.done; more = s.more ++ more; is = ap (λ (l : List Body). l ++ more) s.is ∙ append_assoc s.done s.more more; stood = s.stood }) in
        let of_more = weakens moment left_since mid new (StoodFront (events ++ first) more) (StoodFront events (first ++ more)) (then (events ++ first) (done.added events at))
        (λ c s. record {
          done = first ++ s.done;
          more = s.more;
          is = ap (λ (l : List Body). first ++ l) s.is ∙ sym (append_assoc first s.done s.more);
          stood = subst (λ (bodies : List Body). Stood bodies c) (append_assoc events first s.done) s.stood;
        }) in
        joins moment left_since old mid new (StoodFront events (first ++ more)) of_first of_more

    pub more_appended : (last : ℕ) (new : D) → Appends may_leave moment left_since more gate mid last new → Appends may_leave moment left_since (first ++ more) before old last new
    more_appended last new then = record {
      moments = more_left new then.moments;
      added = λ events at. subst (λ (bodies : List Body). IsAt bodies last (may_leave new)) (append_assoc events first more) (then.added (events ++ first) (done.added events at));
    }
