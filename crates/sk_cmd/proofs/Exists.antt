-- Readings that are there, and aren't want of memory; and how they are put together.
use Rattle.std.proofs.Common.{◌≡◌, ◌≢◌, ◌⊎◌, inl, inr, refl, ap, Bool, true, false, Option, Some, None, Result, Ok, Err}
use Rattle.std.specs.Prelude.{MatchResult, MatchOption}
use Rattle.std.specs.Bool.{MatchBool, Decides}
use Rattle.sk_cmd.specs.declared.cmd_fault.CmdFault.{CmdFault}
use Rattle.sk_cmd.specs.declared.cmd_fault.CmdFault.TheVariants as fault
use Rattle.sk_cmd.specs.Reading.{Read, Then, OrMemory}

abbrev pub Exists : {A : Type 0} → (Read A → Type 0) → Type 0
Exists {A} R = (out : Read A) × R out × (out ≢ Err fault.Memory)

-- what a test decides is so, or isn't
pub tested : {P : Type 0} (test : Bool) → Decides test P → P ⊎ (P → ⊥)
tested true d = inl (d.0 refl)
tested false d = inr (λ p. cc (d.1 p))

pub value_exists : {A : Type 0} {R : Read A → Type 0} (x : A) → R (Ok x) → Exists R
value_exists x p = (Ok x, p, λ e. cc e)

pub fault_exists : {A : Type 0} {R : Read A → Type 0} (e : CmdFault) → e ≢ fault.Memory → R (Err e) → Exists R
fault_exists e n p = (Err e, p, λ q. n (cc q))

pub ok_exists : {A : Type 0} (x : A) → Exists {A = A} (λ out. out ≡ Ok x)
ok_exists x = value_exists x refl

pub err_exists : {A : Type 0} (e : CmdFault) → e ≢ fault.Memory → Exists {A = A} (λ out. out ≡ Err e)
err_exists e n = fault_exists e n refl

pub bool_exists : {A : Type 0} (t : Bool) {P Q : Read A → Type 0} → Exists P → Exists Q → Exists (λ out. MatchBool t (P out) (Q out))
bool_exists true p q = p
bool_exists false p q = q

pub memory_exists : {A : Type 0} {P : Read A → Type 0} → Exists P → Exists (OrMemory P)
memory_exists (out, p, n) = (out, inr p, n)

pub then_exists : {A B : Type 0} {F : Read A → Type 0} {G : A → Read B → Type 0} → Exists F → ((x : A) → Exists (G x)) → Exists (λ out. Then F out (λ x. G x out))
then_exists (Ok x, p, n) g = let next = g x in (next.0, (Ok x, p, next.1), next.2)
then_exists (Err e, p, n) g = (Err e, (Err e, p, refl), λ q. n (ap Err (cc q)))

-- what follows from a value that is there
pub follows_exists : {A V : Type 0} {F : V → Type 0} {G : V → Read A → Type 0} → (v : V) × F v → ((v : V) → Exists (G v)) → Exists (λ out. (v : V) × F v × G v out)
follows_exists (v, p) g = let next = g v in (next.0, (v, p, next.1), next.2)

pub option_exists : {A V : Type 0} {P : Read A → Type 0} {G : V → Read A → Type 0} (o : Option V) → Exists P → ((v : V) → Exists (G v)) → Exists (λ out. MatchOption o (P out) (λ v. G v out))
option_exists None p g = p
option_exists (Some v) p g = g v

pub result_exists : {A V E : Type 0} {G : V → Read A → Type 0} {H : E → Read A → Type 0} (r : Result V E) → ((v : V) → Exists (G v)) → ((e : E) → Exists (H e)) → Exists (λ out. MatchResult r (λ v. G v out) (λ e. H e out))
result_exists (Ok v) g h = g v
result_exists (Err e) g h = h e
