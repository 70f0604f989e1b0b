-- What a leader took comes next, where as many records are stored as stand before it.
use Rattle.std.proofs.Common.{◌≡◌, ◌⊎◌, ◌<◌, ◌≤◌, ◌+◌, ◌^◌, ℕ, List, [], ◌∷◌, ◌++◌, length, inl, inr, sym, ap, subst, ◌∙◌, arith, append_assoc, length-append}
use Rattle.std.proofs.lemmas.List.{append-nil}
use mathlib.Core.List.{IsPrefix}
use Rattle.sk_disk.specs.Images.{Images, LeavesOnly, Narrows}
use Rattle.sk_log.specs.File.{Body, IsAt, Stood, StoodOrMore, records}
use Rattle.sk_commit.specs.Shared.{HasBehind, IsWaiting, LeavesSome, Overflows, StoodSome}
use Rattle.sk_commit.proofs.Prefixes.{prefix_shorter, prefix_trans, prefix_whole}

-- what is stored stands before what was taken
pub stored_before : (stored history both : List Body) (count : ℕ) (group : List ℕ) (w : IsWaiting history count group) → count ≡ length stored → IsPrefix stored both → IsPrefix history both → stored ≡ w.before
stored_before stored history both count group w counted p q =
    let before_all : IsPrefix w.before both = prefix_trans w.before history both (w.waiting, sym w.whole) q in
    let shorter : IsPrefix stored w.before = prefix_shorter stored w.before both p before_all (omega (arith, counted, w.counted)) in
    prefix_whole stored w.before shorter (omega (arith, counted, w.counted))

-- and begins with it the history up to its end
pub goes_on : (stored history : List Body) (count : ℕ) (group : List ℕ) (w : IsWaiting history count group) → stored ≡ w.before → IsPrefix stored history
goes_on stored history count group w same = (w.waiting, ap (λ (l : List Body). l ++ w.waiting) same ∙ sym w.whole)

-- which stands behind whatever the file was a log of
pub comes_next : (events stored history : List Body) (count : ℕ) (group : List ℕ) (w : IsWaiting history count group) → stored ≡ w.before → (events ++ stored) ++ w.waiting ≡ events ++ history
comes_next events stored history count group w same =
    append_assoc events stored w.waiting ∙ ap (λ (l : List Body). events ++ (l ++ w.waiting)) same ∙ ap (λ (l : List Body). events ++ l) (sym w.whole)

-- ## At each crash

module _ {D : Type 0} (moment : D → ℕ) (left_since : D → ℕ → Images) (Holds : List Body → Type 0) (since : ℕ) (events : List Body) where
  -- A file that was just handed over is a log of what it was.
  pub leaves_first : (may_leave : D → Images) (gate : ℕ) (disk : D) → moment disk ≡ since → Narrows (may_leave disk) (left_since disk (moment disk)) → IsAt events gate (may_leave disk) → Holds []
      → LeavesSome moment left_since events Holds since disk
  leaves_first may_leave gate disk now only at holds = record {
    later = omega (arith, now);
    each = λ c left. record {
      bodies = [];
      holds = holds;
      stood = subst (λ (l : List Body). Stood l c) (sym (append-nil events)) (at.stood c (only c (subst (λ (t : ℕ). left_since disk t c) (sym now) left)));
    };
  }

  module _ (stored next group : List Body) (holds : Holds stored) (holds_next : Holds next) (whole : (events ++ stored) ++ group ≡ events ++ next) where
    by_log : (c : List ℕ) → StoodOrMore (events ++ stored) group c → StoodSome events Holds c
    by_log c (inl stood) = record { bodies = stored; holds = holds; stood = stood }
    by_log c (inr stood) = record { bodies = next; holds = holds_next; stood = subst (λ (l : List Body). Stood l c) whole stood }

    -- While a group is appended a crash leaves what was stored, or that and all of the group.
    pub leaves_on : (old new : D) → LeavesSome moment left_since events Holds since old → LeavesOnly moment left_since old new (StoodOrMore (events ++ stored) group)
        → LeavesSome moment left_since events Holds since new
    leaves_on old new was only = record { later = omega (arith, was.later, only.later); each = λ c left. by_moment c (only.before since c was.later left) } where
      by_moment : (c : List ℕ) → left_since old since c ⊎ StoodOrMore (events ++ stored) group c → StoodSome events Holds c
      by_moment c (inl before) = was.each c before
      by_moment c (inr now) = by_log c now

-- ## A full file

-- What was taken is too long for the file.
pub overflows : (starts Holds : List Body → Type 0) (stored history : List Body) (count : ℕ) (group : List ℕ) (gate : ℕ) (may_leave : Images) (w : IsWaiting history count group) → stored ≡ w.before
    → HasBehind starts stored gate may_leave → Holds history → 2 ^ 50 < gate + length group → Overflows starts Holds
overflows starts Holds stored history count group gate may_leave w same behind holds long = record {
  stored = stored;
  next = w.waiting;
  holds = subst Holds (w.whole ∙ ap (λ (l : List Body). l ++ w.waiting) (sym same)) holds;
  gate = gate;
  gate_is = λ events start. (behind events start).gate_is;
  too_long = omega (arith, long, ap length w.is.is, length-append (records w.waiting) (0 ∷ []));
}
