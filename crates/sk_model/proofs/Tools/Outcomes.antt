-- Outcomes that come about: a refusal, and one that is the same as another.
use Rattle.std.proofs.Common.{◌≡◌, refl, sym, subst}
use Rattle.std.specs.Prelude.{IfOk, OnErr, OnOk, Result, Ok, Err}
use Rattle.sk_resp.specs.declared.reply.Reply.{Reply}
use Rattle.sk_resp.specs.declared.reply.Reply.TheVariants as reply
use Rattle.sk_resp.specs.declared.say.Say.TheVariants as say
use Rattle.sk_resp.specs.declared.refusal.Refusal.{Refusal}
use Rattle.sk_model.specs.Outcome.{Realizes, Outcome, refuses}
use Rattle.sk_model.specs.World.{World}

-- what follows for a result that is there
pub if_ok : {A E : Type 0} (P Q : A → Type 0) (r : Result A E) → ((x : A) → P x → Q x) → IfOk r P → IfOk r Q
if_ok P Q (Ok x) f p = f x p
if_ok P Q (Err e) f p = tt

-- what follows where the same result is there twice
pub both_ok : {A E P Q R : Type 0} (r s : Result A E) → r ≡ s → (P → Q → R) → OnOk r P → OnOk s Q → OnOk r R
both_ok (Ok x) (Ok y) e f p q = f p q
both_ok (Ok x) (Err m) e f p q = absurd (cc e)
both_ok (Err m) s e f p q = tt

-- what holds anyway holds where there is an error
pub on_err : {A E P : Type 0} (r : Result A E) → P → OnErr r P
on_err (Ok x) p = tt
on_err (Err e) p = p

pub refusal_comes : (w : World) (o : Outcome) (refusal : Refusal) → o ≡ refuses refusal → Realizes w o (reply.Say (say.Refused refusal)) w
refusal_comes w o refusal e = subst (λ p. Realizes w p (reply.Say (say.Refused refusal)) w) (sym e) (record { reply_is = refl; new_is = refl })

-- an outcome that is the same in each world comes about as well
pub same_comes : {E : Type 0} (before after : World → World) (o p : World → Outcome) (r : Result Reply E) → ((w : World) → p w ≡ o w) → IfOk r (λ reply. (w : World) → Realizes (before w) (o w) reply (after w)) → IfOk r (λ reply. (w : World) → Realizes (before w) (p w) reply (after w))
same_comes before after o p (Ok reply) same comes = λ w. subst (λ q. Realizes (before w) q reply (after w)) (sym (same w)) (comes w)
same_comes before after o p (Err e) same comes = tt
