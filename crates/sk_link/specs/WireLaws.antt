-- What the trait asks of a link over a connection: two runs of calls, one after another, are one; and a link has ended where a call was lost.
use Rattle.std.specs.Prelude.{◌≡◌, ◌++◌, Bool, true, false, ◌||◌, refl, List, [], ◌∷◌, Result, Ok, Err}
use Rattle.std.specs.Result.{is_err}
use Rattle.std.proofs.Common.{sym, ap, subst, ◌∙◌}
use Rattle.std.proofs.Math.Bool.{or-true}
use Rattle.sk_resp.specs.Spelling.{Bytes}
use Rattle.sk_resp.specs.declared.reply.Reply.{Reply}
use Rattle.sk_link.specs.Call.{Call, has_lost}
use Rattle.sk_link.specs.Wire.{Carries, Comes, WireTells}
use Rattle.sk_link.specs.declared.link.LinkFault.{LinkFault}

pub carries_more : (a b c : WireTells) (xs ys : List Call) → Carries a b xs → Carries b c ys → Carries a c (xs ++ ys)
carries_more a b c [] ys p q = subst (λ s. Carries s c ys) p q
carries_more a b c (x ∷ xs) ys p q = (p.0, p.1, carries_more p.0 b c xs ys p.2 q)

or-false : (b : Bool) → b ≡ (b || false)
or-false true = refl
or-false false = refl

-- behind one call, by whether it was lost
ends_after : (a next b : WireTells) (request : List Bytes) (reply : Result Reply LinkFault) (lost : Bool) → Comes a request reply next → b.ended ≡ (next.ended || lost) →
    b.ended ≡ (a.ended || (is_err reply || lost))
ends_after a next b request (Ok reply) lost came ends = ends ∙ ap (λ e. e || lost) (came.is ∙ sym came.was)
ends_after a next b request (Err fault) lost came ends = ends ∙ ap (λ e. e || lost) came.is ∙ sym (or-true a.ended)

pub carries_ends : (a b : WireTells) (calls : List Call) → Carries a b calls → b.ended ≡ (a.ended || has_lost calls)
carries_ends a b [] p = ap (λ (s : WireTells). s.ended) p ∙ or-false a.ended
carries_ends a b (call ∷ calls) p = ends_after a p.0 b call.request call.reply (has_lost calls) p.1 (carries_ends p.0 b calls p.2)
