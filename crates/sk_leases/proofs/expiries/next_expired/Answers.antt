use Rattle.std.proofs.Common.{◌≡◌, ◌&&◌, ◌==◌, arith, ℕ, nat_lt, false, true, not, cond, Bool, refl, bytes_eq, sym, ap, ◌∙◌}
use Rattle.std.specs.BTreeMap.{is_at}
use Rattle.std.specs.Cmp.Lexicographic.{slice_cmp}
use Rattle.std.specs.Ordering.{nat_cmp}
use Rattle.std.proofs.lemmas.Map.Text.{is_eq-slice_cmp}
use Rattle.std.proofs.lemmas.Slice.Eq.{bytes_eq-Decides}
use Rattle.sk_resp.specs.Spelling.{Bytes}
use Rattle.sk_leases.specs.Index.{expiry_cmp, is_first_over}
use Rattle.sk_leases.specs.Lease.{Lease}
use Rattle.sk_leases.specs.Parts.{is_over}
use Rattle.sk_leases.proofs.expiries.next_expired.Goals as goal

-- only the pair that was taken out is gone
gone : (was left at : Bool) → left ≡ cond at false was → was ≡ true → left ≡ false → at ≡ true
gone true left true e h f = refl
gone true left false e h f = grind (arith, e, f)
gone false left at e h f = grind (arith, h)

expiry_at : (deadline moment : ℕ) (name other : Bytes) → is_at (expiry_cmp (deadline, name)) (moment, other) ≡ (is_at (slice_cmp nat_cmp name) other && (deadline == moment))
expiry_at deadline moment name other = grind arith

over : (deadline now : ℕ) (name : Bytes) (p : Lease) → is_at (expiry_cmp (deadline, name)) (p.1, p.0) ≡ true → not (nat_lt now deadline) ≡ true → is_over name now p ≡ true
over deadline now name p h reached =
    let both : (is_at (slice_cmp nat_cmp name) p.0 && (deadline == p.1)) ≡ true = sym (expiry_at deadline p.1 name p.0) ∙ h in
    let at : is_at (slice_cmp nat_cmp name) p.0 ≡ true = grind (arith, both) in
    let same : name ≡ p.0 = (bytes_eq-Decides name p.0).0 (sym (is_eq-slice_cmp name p.0) ∙ at) in
    let named : bytes_eq p.0 name ≡ true = (bytes_eq-Decides p.0 name).1 (sym same) in
    grind (arith, both, named, reached)

pub returns-in-Some-clause-taken : goal.returns-in-Some-clause-taken
returns-in-Some-clause-taken c = λ p had lost.
    let reached : not (nat_lt c.args.now c.in-Some.field-0-0) ≡ true = sym (ap (is_first_over c.args.now) c.in-Some.ensures.removal) ∙ sym c.if-not-has_expired.ensures.first in
    over c.in-Some.field-0-0 c.args.now c.in-Some.name p (gone _ _ _ (c.in-Some.ensures.updates.0 (p.1, p.0)) had lost) reached
