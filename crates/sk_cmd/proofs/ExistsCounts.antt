-- Any number of words fits, or is a fault.
use Rattle.std.proofs.Common.{inl, inr, [], ◌∷◌, refl, Bool, true, false, Err, arith}
use Rattle.sk_resp.specs.Request.{Command as Words}
use Rattle.sk_resp.specs.declared.name.Name.{Name}
use Rattle.sk_cmd.specs.declared.cmd_fault.CmdFault.TheVariants as fault
use Rattle.sk_cmd.specs.Reading.{Read}
use Rattle.sk_cmd.specs.Counts.{IsZero, IsOne, IsTwo, IsThree, IsFour, IsSome, IsOneAnd, IsTwoAnd, IsThreeAnd, IsFiveAnd}
use Rattle.sk_cmd.proofs.Exists.{Exists, value_exists, fault_exists}

-- a wrong number of words is a fault
wrong_count : {A : Type 0} {R : Read A → Type 0} (name : Name) → R (Err (fault.Arity name)) → Exists R
wrong_count name p = fault_exists (fault.Arity name) (λ e. cc e) p

pub zero_exists : (name : Name) (words : Words) → Exists (IsZero name words)
zero_exists name [] = value_exists tt refl
zero_exists name (a ∷ words) = wrong_count name (refl, λ e. omega (arith, e))

pub one_exists : (name : Name) (words : Words) → Exists (IsOne name words)
one_exists name [] = wrong_count name (refl, λ e. omega (arith, e))
one_exists name (a ∷ []) = value_exists a refl
one_exists name (a ∷ b ∷ words) = wrong_count name (refl, λ e. omega (arith, e))

pub two_exists : (name : Name) (words : Words) → Exists (IsTwo name words)
two_exists name [] = wrong_count name (refl, λ e. omega (arith, e))
two_exists name (a ∷ []) = wrong_count name (refl, λ e. omega (arith, e))
two_exists name (a ∷ b ∷ []) = value_exists (a, b) refl
two_exists name (a ∷ b ∷ c ∷ words) = wrong_count name (refl, λ e. omega (arith, e))

pub three_exists : (name : Name) (words : Words) → Exists (IsThree name words)
three_exists name [] = wrong_count name (refl, λ e. omega (arith, e))
three_exists name (a ∷ []) = wrong_count name (refl, λ e. omega (arith, e))
three_exists name (a ∷ b ∷ []) = wrong_count name (refl, λ e. omega (arith, e))
three_exists name (a ∷ b ∷ c ∷ []) = value_exists (a, b, c) refl
three_exists name (a ∷ b ∷ c ∷ d ∷ words) = wrong_count name (refl, λ e. omega (arith, e))

pub four_exists : (name : Name) (words : Words) → Exists (IsFour name words)
four_exists name [] = wrong_count name (refl, λ e. omega (arith, e))
four_exists name (a ∷ []) = wrong_count name (refl, λ e. omega (arith, e))
four_exists name (a ∷ b ∷ []) = wrong_count name (refl, λ e. omega (arith, e))
four_exists name (a ∷ b ∷ c ∷ []) = wrong_count name (refl, λ e. omega (arith, e))
four_exists name (a ∷ b ∷ c ∷ d ∷ []) = value_exists (a, b, c, d) refl
four_exists name (a ∷ b ∷ c ∷ d ∷ e ∷ words) = wrong_count name (refl, λ e. omega (arith, e))

pub some_exists : (name : Name) (words : Words) → Exists (IsSome name words)
some_exists name [] = wrong_count name (refl, omega arith)
some_exists name (a ∷ words) = value_exists (a ∷ words) (refl, omega arith)

pub one_and_exists : (name : Name) (fits : Bool) (words : Words) → Exists (IsOneAnd name fits words)
one_and_exists name fits [] = wrong_count name (refl, inl (omega arith))
one_and_exists name true (a ∷ words) = value_exists (a, words) (refl, refl)
one_and_exists name false (a ∷ words) = wrong_count name (refl, inr refl)

pub two_and_exists : (name : Name) (fits : Bool) (words : Words) → Exists (IsTwoAnd name fits words)
two_and_exists name fits [] = wrong_count name (refl, inl (omega arith))
two_and_exists name fits (a ∷ []) = wrong_count name (refl, inl (omega arith))
two_and_exists name true (a ∷ b ∷ words) = value_exists (a, b, words) (refl, refl)
two_and_exists name false (a ∷ b ∷ words) = wrong_count name (refl, inr refl)

pub three_and_exists : (name : Name) (fits : Bool) (words : Words) → Exists (IsThreeAnd name fits words)
three_and_exists name fits [] = wrong_count name (refl, inl (omega arith))
three_and_exists name fits (a ∷ []) = wrong_count name (refl, inl (omega arith))
three_and_exists name fits (a ∷ b ∷ []) = wrong_count name (refl, inl (omega arith))
three_and_exists name true (a ∷ b ∷ c ∷ words) = value_exists (a, b, c, words) (refl, refl)
three_and_exists name false (a ∷ b ∷ c ∷ words) = wrong_count name (refl, inr refl)

pub five_and_exists : (name : Name) (words : Words) → Exists (IsFiveAnd name words)
five_and_exists name [] = wrong_count name (refl, omega arith)
five_and_exists name (a ∷ []) = wrong_count name (refl, omega arith)
five_and_exists name (a ∷ b ∷ []) = wrong_count name (refl, omega arith)
five_and_exists name (a ∷ b ∷ c ∷ []) = wrong_count name (refl, omega arith)
five_and_exists name (a ∷ b ∷ c ∷ d ∷ []) = wrong_count name (refl, omega arith)
five_and_exists name (a ∷ b ∷ c ∷ d ∷ e ∷ words) = value_exists (a, b, c, d, e, words) refl
