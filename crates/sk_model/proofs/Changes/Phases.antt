-- What the seats do once one of them turns to a phase.
use Rattle.std.proofs.Common.{◌≡◌, ℕ, [], ◌∷◌, refl, ap, ◌∙◌, arith, Bool, true, false, cond, not, Option, Some, None}
use Rattle.std.specs.Prelude.{filter}
use Rattle.std.specs.Map.{keys_of, lookup, remove_entry}
use Rattle.std.specs.List.Sorted.{IsStrictlySortedBy}
use Rattle.std.specs.List.{AllByRecursion}
use Rattle.std.specs.declared.cmp.Ordering.TheVariants.{Less}
use Rattle.std.proofs.lemmas.Bool.Decides.{nat_tests}
use Rattle.std.specs.BTreeMap.{is_at, insert_entry}
use Rattle.std.specs.Ordering.{nat_cmp, is_eq}
use Rattle.sk_resp.specs.Spelling.{Bytes}
use Rattle.sk_seats.specs.declared.phase.Phase.{Phase}
use Rattle.sk_seats.specs.declared.phase.Phase.TheVariants.{Plain, Joined}
use Rattle.sk_seats.specs.Phases.{Phases, phase_in, or_plain, turned, has, some_has}

-- a seat's payload is seen among all
pub has_some : (phases : Phases) (seat : ℕ) (jid : Bytes) → has jid (phase_in phases seat) ≡ true → some_has jid phases ≡ true
has_some [] seat jid h = h
has_some (p ∷ phases) seat jid h = grind (arith, has_some phases seat jid)

dropped : (phases : Phases) (seat other : ℕ) → lookup (is_at (nat_cmp other)) (filter (λ p. not (is_at (nat_cmp seat) p.0)) phases) ≡ cond (is_eq (nat_cmp other seat)) None (lookup (is_at (nat_cmp other)) phases)
dropped [] seat other = grind arith
dropped (p ∷ phases) seat other = grind (arith, dropped phases seat other)

put_in : (phases : Phases) (seat other : ℕ) (phase : Phase) → lookup (is_at (nat_cmp other)) (insert_entry nat_cmp phases seat phase) ≡ cond (is_eq (nat_cmp other seat)) (Some phase) (lookup (is_at (nat_cmp other)) phases)
put_in [] seat other phase = grind arith
put_in (p ∷ phases) seat other phase = grind (arith, put_in phases seat other phase)

either : (b : Bool) (some : Option Phase) (phase : Phase) (found : Option Phase) → or_plain some ≡ phase → or_plain (cond b some found) ≡ cond b phase (or_plain found)
either true some phase found e = e
either false some phase found e = refl

inserted : (phases : Phases) (seat other : ℕ) (phase : Phase) → or_plain (lookup (is_at (nat_cmp other)) (insert_entry nat_cmp phases seat phase)) ≡ cond (is_eq (nat_cmp other seat)) phase (phase_in phases other)
inserted phases seat other phase = ap or_plain (put_in phases seat other phase) ∙ either (is_eq (nat_cmp other seat)) (Some phase) phase (lookup (is_at (nat_cmp other)) phases) refl

-- the seat that turned has its new phase, and every other seat its own
pub phase_turned : (phases : Phases) (seat other : ℕ) (phase : Phase) → phase_in (turned seat phase phases) other ≡ cond (is_eq (nat_cmp other seat)) phase (phase_in phases other)
phase_turned phases seat other Plain = ap or_plain (dropped phases seat other) ∙ either (is_eq (nat_cmp other seat)) None Plain (lookup (is_at (nat_cmp other)) phases) refl
phase_turned phases seat other (Joined ident works) = inserted phases seat other (Joined ident works)

-- ## Seats in order

-- no seat behind one of a greater number is it
none_behind : (phases : Phases) (seat : ℕ) (first : ℕ) → is_eq (nat_cmp seat first) ≡ true → AllByRecursion (λ other. nat_cmp first other ≡ Less) (keys_of phases) → filter (λ p. not (is_at (nat_cmp seat) p.0)) phases ≡ phases
none_behind [] seat first same above = refl
none_behind (p ∷ phases) seat first same above = let less = above.0 in grind (arith, nat_tests, same, less, none_behind phases seat first same above.1)

-- where the seats are in order, what a map leaves without one is what is left of them once it is Plain
pub turned_plain : (phases : Phases) (seat : ℕ) → IsStrictlySortedBy nat_cmp (keys_of phases) → turned seat Plain phases ≡ remove_entry (is_at (nat_cmp seat)) phases
unfolding IsStrictlySortedBy
turned_plain [] seat sorted = refl
turned_plain (p ∷ phases) seat sorted = by_first (is_eq (nat_cmp seat p.0)) refl (turned_plain phases seat sorted.1) where
  by_first : (at : Bool) → is_eq (nat_cmp seat p.0) ≡ at → turned seat Plain phases ≡ remove_entry (is_at (nat_cmp seat)) phases
      → cond (not at) (p ∷ filter (λ q. not (is_at (nat_cmp seat) q.0)) phases) (filter (λ q. not (is_at (nat_cmp seat) q.0)) phases) ≡ cond at phases (p ∷ remove_entry (is_at (nat_cmp seat)) phases)
  by_first true e more = none_behind phases seat p.0 e sorted.0
  by_first false e more = ap (λ rest. p ∷ rest) more
