-- Whether a process is alive, and whether it is one of those that are.
use Rattle.std.proofs.Common.{◌≡◌, ◌+◌, ◌&&◌, ℕ, Bool, true, false, nat_lt, List, [], ◌∷◌, refl, arith}
use Rattle.std.specs.Prelude.{Ok}
use Rattle.std.proofs.lemmas.Bool.Decides.{nat_tests}
use Rattle.std.proofs.lemmas.List.Sums.{sum_by-cons}
use Rattle.sk_resp.specs.Spelling.{Bytes}
use Rattle.sk_resp.specs.WordOrder.{is_member}
use Rattle.sk_leases.specs.Lease.{Lease, names, stands_at}
use Rattle.sk_leases.specs.Lists.{count_standing, names_of, standing}
use Rattle.sk_model.specs.Held.{if_any}
use Rattle.sk_places.specs.LiveJobs.{one_if as one_of}
use Rattle.sk_places.proofs.Indexed.{same_jid}
use Rattle.sk_value.specs.Answer.{one_if}
use Rattle.sk_value.specs.Values.{look_at}
use Rattle.sk_value.specs.declared.read_op.ReadOp.TheVariants.{Sismember}
use Rattle.sk_value.specs.declared.value.Value.TheVariants.{Set}

pub alive_is : (ident : Bytes) (now : ℕ) (beats : List Lease) → nat_lt 0 (count_standing ident now beats) ≡ is_member ident (names_of (standing now beats))
alive_is ident now [] = refl
alive_is ident now (beat ∷ beats) = cases (names ident beat) (stands_at now beat) refl refl (alive_is ident now beats)
  where
    more : count_standing ident now (beat ∷ beats) ≡ one_of (names ident beat && stands_at now beat) + count_standing ident now beats
    more = sum_by-cons (λ (b : Lease). one_of (names ident b && stands_at now b)) beat beats

    cases : (a b : Bool) → names ident beat ≡ a → stands_at now beat ≡ b → nat_lt 0 (count_standing ident now beats) ≡ is_member ident (names_of (standing now beats)) → nat_lt 0 (count_standing ident now (beat ∷ beats)) ≡ is_member ident (names_of (standing now (beat ∷ beats)))
    cases true true e f again = let m = more in let s = same_jid ident beat.0 in grind (arith, nat_tests, e, f, m, s)
    cases true false e f again = let m = more in grind (arith, nat_tests, e, f, m, again)
    cases false true e f again = let m = more in let s = same_jid ident beat.0 in grind (arith, nat_tests, e, f, m, s, again)
    cases false false e f again = let m = more in grind (arith, nat_tests, e, f, m, again)

pub among_answer : (now : ℕ) (text : Bytes) (words : List Bytes) → look_at now (Sismember text) (if_any Set words) ≡ Ok (one_if (is_member text words))
among_answer now text [] = refl
among_answer now text (word ∷ words) = refl
