-- The order of leases, and which of them a part of a name's leases matches.
use Rattle.std.proofs.Common.{◌≡◌, ℕ, Bool, true, false, not, ◌&&◌, cond, List, [], ◌∷◌, nat_lt, refl, sym, arith, ap, ◌∙◌}
use Rattle.std.specs.Cmp.{IsTotalOrder}
use Rattle.std.specs.Cmp.Lexicographic.{slice_cmp}
use Rattle.std.specs.Ordering.{is_eq, is_le, nat_cmp, ordering_reverse, ordering_then}
use Rattle.std.specs.declared.cmp.Ordering.{Ordering}
use Rattle.std.specs.declared.cmp.Ordering.TheVariants.{Less, Equal, Greater}
use Rattle.std.proofs.lemmas.Cmp.{then_total, on_total, nat_cmp_total, nat_list_cmp_total}
use Rattle.std.proofs.lemmas.Map.Text.{is_eq-slice_cmp}
use Rattle.sk_undo.specs.Partitioned.{all_pass}
use Rattle.sk_undo.specs.Sorted as keys
use Rattle.sk_resp.specs.Spelling.{Bytes}
use Rattle.sk_leases.specs.Lease.{Lease, lease_cmp, names, precedes, stands_at}
use Rattle.sk_leases.specs.Order.{is_first, is_ordered}
use Rattle.sk_leases.specs.Parts.{is_over, lease_order}
use Rattle.sk_leases.specs.declared.part.Part.TheVariants.{All, Over, Standing}

lease_total : IsTotalOrder lease_cmp
lease_total = then_total (on_total (λ p. p.0) nat_list_cmp_total) (on_total (λ p. p.1) nat_cmp_total)

not_behind : (p q : Lease) → is_le (lease_cmp p q) ≡ true → precedes q p ≡ false
not_behind p q h = let a = lease_total.antisymm p q in grind (arith, a, h)

first_from : (p : Lease) (ps : List Lease) → all_pass (λ q. is_le (lease_cmp p q)) ps ≡ true → is_first p ps ≡ true
first_from p [] h = refl
first_from p (q ∷ ps) h = grind (arith, h, not_behind p q, first_from p ps)

pub ordered_leases : (ps : List Lease) → keys.is_ordered lease_cmp ps ≡ true → is_ordered ps ≡ true
ordered_leases [] h = refl
ordered_leases (p ∷ ps) h = grind (arith, h, first_from p ps, ordered_leases ps)

-- ## Which leases a part matches

turned : (o : Ordering) → is_eq (ordering_reverse o) ≡ is_eq o
turned Less = refl
turned Equal = refl
turned Greater = refl

pub named : (name : Bytes) (p : Lease) → is_eq (slice_cmp nat_cmp name p.0) ≡ names name p
named name p = ap is_eq (nat_list_cmp_total.antisymm name p.0) ∙ turned (slice_cmp nat_cmp p.0 name) ∙ is_eq-slice_cmp p.0 name

all_at : (o : Ordering) → is_eq (ordering_then o Equal) ≡ is_eq o
all_at Less = refl
all_at Equal = refl
all_at Greater = refl

over_at : (o : Ordering) (b : Bool) → is_eq (ordering_then o (cond b Less Equal)) ≡ (is_eq o && not b)
over_at Less b = refl
over_at Equal true = refl
over_at Equal false = refl
over_at Greater b = refl

standing_at : (o : Ordering) (b : Bool) → is_eq (ordering_then o (cond b Equal Greater)) ≡ (is_eq o && b)
standing_at Less b = refl
standing_at Equal true = refl
standing_at Equal false = refl
standing_at Greater b = refl

pub all_is : (name : Bytes) (p : Lease) → is_eq (lease_order name All p) ≡ names name p
all_is name p = all_at (slice_cmp nat_cmp name p.0) ∙ named name p

pub over_is : (name : Bytes) (now : ℕ) (p : Lease) → is_eq (lease_order name (Over now) p) ≡ is_over name now p
over_is name now p = over_at (slice_cmp nat_cmp name p.0) (nat_lt now p.1) ∙ ap (λ b. b && not (nat_lt now p.1)) (named name p)

pub standing_is : (name : Bytes) (now : ℕ) (p : Lease) → is_eq (lease_order name (Standing now) p) ≡ (names name p && stands_at now p)
standing_is name now p = standing_at (slice_cmp nat_cmp name p.0) (nat_lt now p.1) ∙ ap (λ b. b && nat_lt now p.1) (named name p)

both_second : (a b : Bool) → (a && not b) ≡ true → b ≡ false
both_second true true h = sym h
both_second true false h = refl
both_second false b h = absurd (cc)

-- what is over doesn't stand
pub over_stands : (name : Bytes) (now : ℕ) (p : Lease) → is_eq (lease_order name (Over now) p) ≡ true → stands_at now p ≡ false
over_stands name now p h = both_second (names name p) (stands_at now p) (sym (over_is name now p) ∙ h)
