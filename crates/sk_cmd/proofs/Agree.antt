-- Readings that answer one thing, want of memory aside; and how they are put together.
use Rattle.std.proofs.Common.{◌≡◌, ◌≢◌, inl, inr, sym, ap, subst, ◌∙◌, Bool, true, false, Option, Some, None, Result, Ok, Err}
use Rattle.std.specs.Prelude.{MatchResult, MatchOption}
use Rattle.std.specs.Bool.{MatchBool}
use Rattle.sk_cmd.specs.declared.cmd_fault.CmdFault.{CmdFault}
use Rattle.sk_cmd.specs.declared.cmd_fault.CmdFault.TheVariants as fault
use Rattle.sk_cmd.specs.Reading.{Read, Then, OrMemory}

abbrev pub Agree : {A : Type 0} → (Read A → Type 0) → Type 0
Agree {A} R = (a b : Read A) → R a → R b → a ≢ Err fault.Memory → b ≢ Err fault.Memory → a ≡ b

pub is_agrees : {A : Type 0} (v : Read A) → Agree (λ out. out ≡ v)
is_agrees v a b p q na nb = p ∙ sym q

pub bool_agrees : {A : Type 0} (t : Bool) {P Q : Read A → Type 0} → Agree P → Agree Q → Agree (λ out. MatchBool t (P out) (Q out))
bool_agrees true f g = f
bool_agrees false f g = g

pub memory_agrees : {A : Type 0} {P : Read A → Type 0} → Agree P → Agree (OrMemory P)
memory_agrees f a b (inl p) q na nb = absurd (na p)
memory_agrees f a b (inr p) (inl q) na nb = absurd (nb q)
memory_agrees f a b (inr p) (inr q) na nb = f a b p q na nb

fault_of : {A : Type 0} → Read A → CmdFault
fault_of (Ok x) = fault.Unknown
fault_of (Err e) = e

abbrev failed : {A : Type 0} → CmdFault → Read A
failed e = Err e

abbrev good : {A : Type 0} → A → Read A
good x = Ok x

err_same : {A B : Type 0} (e : CmdFault) (b : Read B) → b ≡ Err e → b ≢ Err fault.Memory → failed {A = A} e ≢ Err fault.Memory
err_same e b p n q = n (p ∙ ap Err (cc q))

ok_no_memory : {A : Type 0} (x : A) → good x ≢ Err fault.Memory
ok_no_memory x e = cc e

ok_same : {A : Type 0} (x y : A) → good {A = A} x ≡ good y → x ≡ y
ok_same x y e = cc e

pub then_agrees : {A B : Type 0} {F : Read A → Type 0} {G : A → Read B → Type 0} → Agree F → ((x : A) → Agree (G x)) → Agree (λ out. Then F out (λ x. G x out))
then_agrees {F} {G} f g a b (Ok x, p, m) (Ok y, q, n) na nb =
    let same : x ≡ y = ok_same x y (f (Ok x) (Ok y) p q (ok_no_memory x) (ok_no_memory y)) in
    g x a b m (subst (λ z. G z b) (sym same) n) na nb
then_agrees f g a b (Ok x, p, m) (Err e, q, n) na nb = absurd (cc (f (Ok x) (Err e) p q (ok_no_memory x) (err_same e b n nb)))
then_agrees f g a b (Err e, p, m) (Ok y, q, n) na nb = absurd (cc (f (Err e) (Ok y) p q (err_same e a m na) (ok_no_memory y)))
then_agrees f g a b (Err e, p, m) (Err e', q, n) na nb = m ∙ ap Err (cc (f (Err e) (Err e') p q (err_same e a m na) (err_same e' b n nb))) ∙ sym n

-- what follows from one value, and that value is one
pub follows_agrees : {A V : Type 0} {F : V → Type 0} {G : V → Read A → Type 0} → ((u v : V) → F u → F v → u ≡ v) → ((v : V) → Agree (G v)) → Agree (λ out. (v : V) × F v × G v out)
follows_agrees {G} f g a b (u, p, m) (v, q, n) na nb = g u a b m (subst (λ z. G z b) (sym (f u v p q)) n) na nb

pub option_agrees : {A V : Type 0} {P : Read A → Type 0} {G : V → Read A → Type 0} (o : Option V) → Agree P → ((v : V) → Agree (G v)) → Agree (λ out. MatchOption o (P out) (λ v. G v out))
option_agrees None f g = f
option_agrees (Some v) f g = g v

pub result_agrees : {A V E : Type 0} {G : V → Read A → Type 0} {H : E → Read A → Type 0} (r : Result V E) → ((v : V) → Agree (G v)) → ((e : E) → Agree (H e)) → Agree (λ out. MatchResult r (λ v. G v out) (λ e. H e out))
result_agrees (Ok v) g h = g v
result_agrees (Err e) g h = h e
