-- What the trait asks of a link over a desk: two runs of calls, one after another, are one; and a link has ended where a call was lost.
use Rattle.std.specs.Prelude.{◌≡◌, ◌++◌, Bool, true, false, ◌||◌, refl, List, [], ◌∷◌, Result, Ok, Err}
use Rattle.std.specs.Result.{is_err}
use Rattle.std.proofs.Common.{sym, ap, subst, ◌∙◌}
use Rattle.std.proofs.Math.Bool.{or-true}
use Rattle.sk_resp.specs.declared.reply.Reply.{Reply}
use Rattle.sk_link.specs.Call.{Call, has_lost}
use Rattle.sk_link.specs.declared.link.LinkFault.{LinkFault}
use Rattle.sk_link.specs.declared.link.LinkFault.TheVariants.{Failed, Unreadable, Ended, Memory}
use Rattle.sk_lane.specs.Carrying.{Carries, LinkState}
use Rattle.sk_lane.specs.Drawing.{Passes, drew, undrawn, DrawsFor, is_off}
use Rattle.sk_lane.specs.declared.crashes.Drawing.{Drawing}

pub carries_more : (a b c : LinkState) (xs ys : List Call) → Carries a b xs → Carries b c ys → Carries a c (xs ++ ys)
carries_more a b c [] ys p q = subst (λ s. Carries s c ys) p q
carries_more a b c (x ∷ xs) ys p q = (p.0, p.1, carries_more p.0 b c xs ys p.2 q)

or-false : (b : Bool) → b ≡ (b || false)
or-false true = refl
or-false false = refl

-- A call goes on where the link is on, and it stays on.
pub passed_on : (a b : Drawing) → Passes a b → is_off a ≡ false
passed_on a b (drew _ _ on may word now) = on
passed_on a b (undrawn _ _ on why now) = on

pub passes_on : (a b : Drawing) → Passes a b → is_off b ≡ false
passes_on a b (drew _ _ on may word now) = ap (λ (d : Drawing). is_off d) now ∙ on
passes_on a b (undrawn _ _ on why now) = ap (λ (d : Drawing). is_off d) now ∙ on

-- after one call
one_ends : (a b : Drawing) (came : Result Reply LinkFault) → DrawsFor a came b → is_off b ≡ (is_off a || is_err came)
one_ends a b (Ok answer) p = passes_on a b p.0 ∙ sym (ap (λ off. off || false) (passed_on a b p.0))
one_ends a b (Err Failed) p = ap (λ (d : Drawing). is_off d) p.now ∙ sym (or-true (is_off a))
one_ends a b (Err (Unreadable text)) p = absurd p
one_ends a b (Err Ended) p = ap (λ (d : Drawing). is_off d) p.same ∙ (p.off ∙ sym (or-true (is_off a)))
one_ends a b (Err Memory) p = ap (λ (d : Drawing). is_off d) p.now ∙ (or-true p.mid.crashed ∙ sym (or-true (is_off a)))

or_later : (a b c : Bool) → ((a || b) || c) ≡ (a || (b || c))
or_later true b c = refl
or_later false b c = refl

pub carries_ends : (a b : LinkState) (calls : List Call) → Carries a b calls → is_off b.drawing ≡ (is_off a.drawing || has_lost calls)
carries_ends a b [] p = ap (λ (s : LinkState). is_off s.drawing) p ∙ or-false (is_off a.drawing)
carries_ends a b (call ∷ calls) p = carries_ends p.0 b calls p.2
    ∙ (ap (λ off. off || has_lost calls) (one_ends a.drawing p.0.drawing call.reply p.1.drawn) ∙ or_later (is_off a.drawing) (is_err call.reply) (has_lost calls))
