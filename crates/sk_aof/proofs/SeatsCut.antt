-- Seats that are cut off, one after another.
use Rattle.std.proofs.Common.{◌≡◌, ◌≤◌, ◌<◌, ◌⊎◌, inl, inr, ◌-◌, ◌+◌, ◌^◌, ℕ, List, [], ◌∷◌, ◌++◌, refl, sym, ap, ◌∙◌, Bool, true, false, arith, cond, is_eq}
use Rattle.std.specs.Prelude.{Option, Some, None}
use Rattle.std.specs.Ordering.{nat_cmp}
use Rattle.std.proofs.Math.Nat.{eq-or-lt_of_le}
use Rattle.std.specs.Cmp.{nat_cmp_is}
use Rattle.std.specs.declared.cmp.Ordering.TheVariants.{Equal}
use Rattle.sk_resp.proofs.Decide.{le_or_lt}
use Rattle.sk_seats.specs.Phases.{Phases, is_plain, phase_in, turned}
use Rattle.sk_seats.specs.declared.phase.Phase.{Phase}
use Rattle.sk_seats.specs.declared.phase.Phase.TheVariants.{Plain}
use Rattle.sk_model.specs.World.{World}
use Rattle.sk_model.specs.Change.{perform}
use Rattle.sk_model.specs.Event.{Cut, after, world_after}
use Rattle.sk_model.specs.Step.{cut}
use Rattle.sk_model.proofs.Changes.Phases.{phase_turned}
use Rattle.sk_aof.specs.Cuts.{cut_bodies, cut_steps}
use Rattle.sk_seats.specs.Next.{IsAbove, IsNext}

-- not above this seat, of the seats that were looked at
abbrev pub IsUpTo : Option ℕ → ℕ → Type 0
IsUpTo None seat = ⊥
IsUpTo (Some last) seat = seat ≤ last

-- how many seats are left to look at, at most
abbrev pub left : Option ℕ → ℕ
left None = 2 ^ 32 + 1
left (Some last) = 2 ^ 32 - last

pub fewer_left : (last : Option ℕ) (next : ℕ) → next < 2 ^ 32 → IsAbove last next → left (Some next) < left last
fewer_left None next small above = omega arith
fewer_left (Some last) next small above = omega (arith, above)

pub world_cut : (w : World) (seats : List ℕ) (seat : ℕ) → perform (world_after w (cut_steps seats)) (cut seat).changes ≡ world_after w (cut_steps (seats ++ seat ∷ []))
world_cut w [] seat = refl
world_cut w (first ∷ seats) seat = world_cut (after w (record { event = Cut first; outcome = cut first })) seats seat

pub bodies_cut : (seats : List ℕ) (seat : ℕ) → cut_bodies (seats ++ seat ∷ []) ≡ cut_bodies seats ++ cut_bodies (seat ∷ [])
bodies_cut [] seat = refl
bodies_cut (first ∷ seats) seat = ap (λ l. cut_bodies (first ∷ []) ++ l) (bodies_cut seats seat)

plain_either : (b : Bool) (phase : Phase) → (b ≡ false → is_plain phase ≡ true) → is_plain (cond b Plain phase) ≡ true
plain_either true phase plain = refl
plain_either false phase plain = plain refl

-- the seat is Plain once it is cut off, and each that was Plain stays so
pub plain_on : (phases : Phases) (seat other : ℕ) → (is_eq (nat_cmp other seat) ≡ false → is_plain (phase_in phases other) ≡ true) → is_plain (phase_in (turned seat Plain phases) other) ≡ true
plain_on phases seat other plain = ap is_plain (phase_turned phases seat other Plain) ∙ plain_either (is_eq (nat_cmp other seat)) (phase_in phases other) plain

-- A seat that is below the next one, or at most the last one that was looked at, is Plain.
pub least_plain : (phases : Phases) (last : Option ℕ) (seat other : ℕ) → IsNext phases last (Some seat) → ((s : ℕ) → IsUpTo last s → is_plain (phase_in phases s) ≡ true) → other ≤ seat → is_eq (nat_cmp other seat) ≡ false
    → is_plain (phase_in phases other) ≡ true
least_plain phases last seat other next plain le apart = by_phase (is_plain (phase_in phases other)) refl where
  same : other ≡ seat → ⊥
  same e = cc (apart, ap is_eq (sym (nat_cmp_is other seat Equal e)))

  below : other < seat
  below = by_order (eq-or-lt_of_le le) where
    by_order : (other ≡ seat) ⊎ (other < seat) → other < seat
    by_order (inl e) = absurd (same e)
    by_order (inr h) = h

  by_last : (last : Option ℕ) → IsNext phases last (Some seat) → ((s : ℕ) → IsUpTo last s → is_plain (phase_in phases s) ≡ true) → is_plain (phase_in phases other) ≡ false → ⊥
  by_last None next plain joined = omega (arith, below, next.1 other (record { above = tt; joined = joined }))
  by_last (Some n) next plain joined = by_order (le_or_lt other n) where
    by_order : (other ≤ n) ⊎ (n < other) → ⊥
    by_order (inl h) = cc (joined, plain other h)
    by_order (inr h) = omega (arith, below, next.1 other (record { above = h; joined = joined }))

  by_phase : (b : Bool) → is_plain (phase_in phases other) ≡ b → is_plain (phase_in phases other) ≡ true
  by_phase true e = e
  by_phase false e = absurd (by_last last next plain e)
