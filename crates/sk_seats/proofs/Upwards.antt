-- The first listed seat that isn't Plain is the least.
use Rattle.std.proofs.Common.{◌≡◌, ℕ, ◌≤◌, [], ◌∷◌, refl, sym, ap, ◌∙◌, arith, Bool, true, false}
use Rattle.std.specs.Prelude.{Option, Some, None, filter}
use Rattle.std.specs.Map.{keys_of}
use Rattle.std.specs.BTreeMap.Range.{entries_between, range_contains}
use Rattle.std.specs.Ordering.{nat_cmp}
use Rattle.std.specs.declared.cmp.Ordering.{Ordering}
use Rattle.std.specs.declared.cmp.Ordering.TheVariants.{Less, Equal, Greater}
use Rattle.std.specs.declared.ops.Bound.TheVariants.{Excluded, Unbounded}
use Rattle.std.proofs.lemmas.Map.Keys.{sorted_head, sorted_tail}
use Rattle.std.proofs.lemmas.Map.Lookups.{exact_unsigned}
use Rattle.sk_seats.specs.declared.phase.Phase.{Phase}
use Rattle.sk_seats.specs.Phases.{Phases, is_plain, or_plain, phase_in}
use Rattle.sk_seats.specs.Next.{IsAbove, IsNext, first_joined}
use Rattle.sk_seats.specs.Order.{InOrder}
use Rattle.sk_seats.proofs.Seating.{AreBehind, further, none_found}

-- the least seat that passes the test and isn't Plain
abbrev pub IsLeast : (ℕ → Bool) → Phases → Option ℕ → Type 0
IsLeast test phases None = (seat : ℕ) → test seat ≡ true → is_plain (phase_in phases seat) ≡ true
IsLeast test phases (Some next) = (test next ≡ true) × (is_plain (phase_in phases next) ≡ false) × ((seat : ℕ) → test seat ≡ true → is_plain (phase_in phases seat) ≡ false → next ≤ seat)

-- no seat is listed before the first one
none_before : (seat : ℕ) (p : ℕ × Phase) (phases : Phases) → AreBehind p.0 phases → nat_cmp seat p.0 ≡ Less → is_plain (phase_in (p ∷ phases) seat) ≡ true
none_before seat p phases behind before = rw (before, none_found seat phases (further seat p.0 phases before behind)) refl

-- a seat that is listed behind the first one
listed_behind : (seat : ℕ) (p : ℕ × Phase) (phases : Phases) → AreBehind p.0 phases → is_plain (phase_in phases seat) ≡ false → phase_in (p ∷ phases) seat ≡ phase_in phases seat
listed_behind seat p phases behind joined = by_order (nat_cmp seat p.0) refl where
  by_order : (r : Ordering) → nat_cmp seat p.0 ≡ r → phase_in (p ∷ phases) seat ≡ phase_in phases seat
  by_order Less r = rw r refl
  by_order Equal r = absurd (cc (sym joined ∙ ap (λ s. is_plain (phase_in phases s)) (exact_unsigned seat p.0 r) ∙ ap (λ o. is_plain (or_plain o)) (none_found p.0 phases behind)))
  by_order Greater r = rw r refl

-- the first one is the least
chosen : (test : ℕ → Bool) (p : ℕ × Phase) (phases : Phases) → AreBehind p.0 phases → test p.0 ≡ true → is_plain p.1 ≡ false → IsLeast test (p ∷ phases) (Some p.0)
chosen test p phases behind passes joined = (passes, rw (same p.0) joined, least) where
  same : (seat : ℕ) → nat_cmp seat seat ≡ Equal
  same seat = grind arith

  least : (seat : ℕ) → test seat ≡ true → is_plain (phase_in (p ∷ phases) seat) ≡ false → p.0 ≤ seat
  least seat is other = by_order (nat_cmp seat p.0) refl where
    by_order : (r : Ordering) → nat_cmp seat p.0 ≡ r → p.0 ≤ seat
    by_order Less r = absurd (cc (sym (none_before seat p phases behind r) ∙ other))
    by_order Equal r = grind (arith, r)
    by_order Greater r = grind (arith, r)

-- the first one isn't meant
skipped : (test : ℕ → Bool) (p : ℕ × Phase) (phases : Phases) (next : Option ℕ) → AreBehind p.0 phases → (test p.0 ≡ true → is_plain p.1 ≡ true) → IsLeast test phases next → IsLeast test (p ∷ phases) next
skipped test p phases next behind plain least = by_next next least where
  more : (seat : ℕ) → test seat ≡ true → (is_plain (phase_in phases seat) ≡ true) → is_plain (phase_in (p ∷ phases) seat) ≡ true
  more seat is rest = by_order (nat_cmp seat p.0) refl where
    by_order : (r : Ordering) → nat_cmp seat p.0 ≡ r → is_plain (phase_in (p ∷ phases) seat) ≡ true
    by_order Less r = rw r rest
    by_order Equal r = rw r (plain (ap test (sym (exact_unsigned seat p.0 r)) ∙ is))
    by_order Greater r = rw r rest

  by_next : (o : Option ℕ) → IsLeast test phases o → IsLeast test (p ∷ phases) o
  by_next None none = λ seat is. more seat is (none seat is)
  by_next (Some next) (passes, joined, le) = (passes, ap is_plain (listed_behind next p phases behind joined) ∙ joined, λ seat is other. by_rest seat is other (is_plain (phase_in phases seat)) refl) where
    by_rest : (seat : ℕ) → test seat ≡ true → is_plain (phase_in (p ∷ phases) seat) ≡ false → (b : Bool) → is_plain (phase_in phases seat) ≡ b → next ≤ seat
    by_rest seat is other true rest = absurd (cc (sym (more seat is rest) ∙ other))
    by_rest seat is other false rest = le seat is rest

-- the first that passes and isn't Plain is the least
least_of : (test : ℕ → Bool) (phases : Phases) → InOrder phases → IsLeast test phases (first_joined (filter (λ p. test p.0) phases))
least_of test [] ordered = λ seat is. refl
least_of test (p ∷ phases) ordered =
    by_test (test p.0) refl (is_plain p.1) refl (sorted_head nat_cmp p.0 (keys_of phases) ordered) (least_of test phases (sorted_tail nat_cmp p.0 (keys_of phases) ordered)) where
      by_test : (b : Bool) → test p.0 ≡ b → (plain : Bool) → is_plain p.1 ≡ plain → AreBehind p.0 phases → IsLeast test phases (first_joined (filter (λ p. test p.0) phases))
          → IsLeast test (p ∷ phases) (first_joined (filter (λ p. test p.0) (p ∷ phases)))
      by_test true b true plain behind least = rw (b, plain) (skipped test p phases (first_joined (filter (λ p. test p.0) phases)) behind (λ is. plain) least)
      by_test true b false joined behind least = rw (b, joined) (chosen test p phases behind b joined)
      by_test false b plain e behind least = rw b (skipped test p phases (first_joined (filter (λ p. test p.0) phases)) behind (λ is. absurd (cc (sym b ∙ is))) least)

-- as a call is told
pub least_is_next : (after : Option ℕ) (test : ℕ → Bool) (phases : Phases) (next : Option ℕ) → ((seat : ℕ) → IsAbove after seat → test seat ≡ true) → ((seat : ℕ) → test seat ≡ true → IsAbove after seat)
    → IsLeast test phases next → IsNext phases after next
least_is_next after test phases None forth back none = λ seat above. none seat (forth seat above)
least_is_next after test phases (Some next) forth back (passes, joined, le) =
    (record { above = back next passes; joined = joined }, λ seat other. le seat (forth seat other.above) other.joined)

pub next_of_all : (phases : Phases) → InOrder phases → IsNext phases None (first_joined (entries_between nat_cmp Unbounded Unbounded phases))
next_of_all phases ordered =
    let test : ℕ → Bool = range_contains nat_cmp Unbounded Unbounded in
    least_is_next None test phases (first_joined (filter (λ p. test p.0) phases)) (λ seat above. refl) (λ seat is. tt) (least_of test phases ordered)

pub next_above : (after : ℕ) (phases : Phases) → InOrder phases → IsNext phases (Some after) (first_joined (entries_between nat_cmp (Excluded after) Unbounded phases))
next_above after phases ordered =
    let test : ℕ → Bool = range_contains nat_cmp (Excluded after) Unbounded in
    least_is_next (Some after) test phases (first_joined (filter (λ p. test p.0) phases)) (λ seat above. grind (arith, above)) (λ seat is. grind (arith, is)) (least_of test phases ordered)
