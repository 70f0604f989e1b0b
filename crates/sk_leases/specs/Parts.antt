-- What is looked for among leases in order: those of a name, all of them or by their deadlines.
use Rattle.std.specs.Prelude.{◌≡◌, ℕ, Bool, true, false, not, ◌&&◌, cond, nat_lt, refl}
use Rattle.std.proofs.Common.{sym, ap, true≢false}
use Rattle.std.proofs.lemmas.Cmp.{nat_cmp_total, nat_list_cmp_total}
use Rattle.std.specs.Cmp.Lexicographic.{slice_cmp}
use Rattle.std.specs.Ordering.{is_le, is_lt, nat_cmp, ordering_then}
use Rattle.std.specs.declared.cmp.Ordering.{Ordering}
use Rattle.std.specs.declared.cmp.Ordering.TheVariants.{Less, Equal, Greater}
use Rattle.sk_resp.specs.Spelling.{Bytes}
use Rattle.sk_undo.specs.Pairs.{pair_query}
use Rattle.sk_undo.specs.Queries.{lt_le}
use Rattle.sk_undo.specs.Sorted.{IsQuery}
use Rattle.sk_leases.specs.Lease.{Lease, lease_cmp, names, stands_at}
use Rattle.sk_leases.specs.declared.part.Part.{Part}
use Rattle.sk_leases.specs.declared.part.Part.TheVariants.{All, Over, Standing}

-- a lease of the name whose deadline the moment has reached
abbrev pub is_over : Bytes → ℕ → Lease → Bool
is_over name now p = names name p && not (stands_at now p)

-- how a part compares with a deadline
abbrev pub part_order : Part → ℕ → Ordering
part_order All deadline = Equal
part_order (Over now) deadline = cond (nat_lt now deadline) Less Equal
part_order (Standing now) deadline = cond (nat_lt now deadline) Equal Greater

-- how a part of a name's leases compares with a lease
abbrev pub lease_order : Bytes → Part → Lease → Ordering
lease_order name part p = ordering_then (slice_cmp nat_cmp name p.0) (part_order part p.1)

-- ## The laws of what is looked for

less_from : (b : Bool) (o : Ordering) → b ≡ true → is_lt (cond b Less o) ≡ true
less_from b o h = ap (λ c. is_lt (cond c Less o)) h

less_or : (b c : Bool) → is_lt (cond b Less (cond c Equal Greater)) ≡ true → b ≡ true
less_or true c h = refl
less_or false true h = h
less_or false false h = h

later : (now x y : ℕ) → nat_lt now x ≡ true → is_le (nat_cmp x y) ≡ true → nat_lt now y ≡ true
later now x y h k = less_or (nat_lt now y) _ (lt_le nat_cmp_total now x y (less_from (nat_lt now x) _ h) k)

over_le : (b : Bool) → is_le (cond b Less Equal) ≡ true
over_le true = refl
over_le false = refl

over_lt : (b : Bool) → is_lt (cond b Less Equal) ≡ true → b ≡ true
over_lt true h = refl
over_lt false h = h

standing_le : (b : Bool) → is_le (cond b Equal Greater) ≡ true → b ≡ true
standing_le true h = refl
standing_le false h = h

no_lt : (b c : Bool) → is_lt (cond b Equal Greater) ≡ true → is_lt (cond c Equal Greater) ≡ true
no_lt true c h = absurd (true≢false (sym h))
no_lt false c h = absurd (true≢false (sym h))

part_query : (part : Part) → IsQuery nat_cmp (part_order part)
part_query All = record { le = λ x y h k. refl; lt = λ x y h k. h }
part_query (Over now) = record {
  le = λ x y h k. over_le (nat_lt now y);
  lt = λ x y h k. ap (λ b. is_lt (cond b Less Equal)) (later now x y (over_lt (nat_lt now x) h) k);
}
part_query (Standing now) = record {
  le = λ x y h k. ap (λ b. is_le (cond b Equal Greater)) (later now x y (standing_le (nat_lt now x) h) k);
  lt = λ x y h k. no_lt (nat_lt now x) (nat_lt now y) h;
}

pub lease_query : (name : Bytes) (part : Part) → IsQuery lease_cmp (lease_order name part)
lease_query name part = pair_query nat_list_cmp_total name (part_query part)
