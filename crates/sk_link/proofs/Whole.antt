-- What a link over a connection carried, told of its first state and its last.
use Rattle.std.proofs.Common.{◌≡◌, ◌≤◌, ◌++◌, ◌||◌, true, false, List, [], ◌∷◌, Option, Some, None, refl, sym, ap, subst, ◌∙◌, append_assoc, Result, Ok, Err, arith}
use Rattle.std.specs.Prelude.{IfSome}
use Rattle.std.proofs.lemmas.Bool.{true≢false}
use Rattle.sk_base.specs.Outside.{Rose, Takes, Gives}
use Rattle.sk_base.proofs.OutsideLaws.{takes_more, takes_nothing, gives_more, gives_nothing}
use Rattle.sk_resp.specs.Spelling.{Bytes}
use Rattle.sk_resp.specs.Reply.{wire}
use Rattle.sk_resp.specs.Request.{array}
use Rattle.sk_resp.specs.declared.reply.Reply.{Reply}
use Rattle.sk_link.specs.Call.{Call, answered, has_lost, lost}
use Rattle.sk_link.specs.Fault.{IsUnreadable}
use Rattle.sk_link.specs.Wire.{Carries, Comes, IsAnswered, IsLost, WantsMemory, WireTells, for_reply, for_request}
use Rattle.sk_link.specs.WireLaws.{carries_ends}
use Rattle.sk_link.specs.WireWhole.{CarriesAll, IsFirstCause, first_fault, replies_text, reply_text, request_text, requests_text}
use Rattle.sk_link.specs.declared.link.LinkFault.{LinkFault}
use Rattle.sk_link.specs.declared.link.LinkFault.TheVariants.{Failed, Unreadable, Ended, Memory}

-- ## A link that has ended

-- Nothing was taken, and nothing given.
record Rests (a b : WireTells) (calls : List Call) : Type 0 where
  is : b ≡ a
  requests : requests_text calls ≡ []
  replies : replies_text calls ≡ []

rests_more : (a next b : WireTells) (call : Call) (reply : Result Reply LinkFault) (calls : List Call) → call.reply ≡ reply → a.ended ≡ true → Comes a call.request reply next →
    Rests next b calls → Rests a b (call ∷ calls)
rests_more a next b call (Ok reply) calls e ended came rest = absurd (true≢false (sym ended ∙ came.was))
rests_more a next b call (Err Failed) calls e ended came rest = absurd (true≢false (sym ended ∙ came.was))
rests_more a next b call (Err (Unreadable kept)) calls e ended came rest = absurd (true≢false (sym ended ∙ came.was))
rests_more a next b call (Err Memory) calls e ended came rest = absurd (true≢false (sym ended ∙ came.was))
rests_more a next b call (Err Ended) calls e ended came rest = record {
  is = rest.is ∙ came.cause;
  requests = ap (λ r. request_text call.request r ++ requests_text calls) e ∙ rest.requests;
  replies = ap (λ r. reply_text r ++ replies_text calls) e ∙ rest.replies;
}

rests : (a b : WireTells) (calls : List Call) → a.ended ≡ true → Carries a b calls → Rests a b calls
rests a b [] ended p = record { is = p; requests = refl; replies = refl }
rests a b (call ∷ calls) ended p =
    let next_ended : p.0.ended ≡ true = carries_ends a p.0 (call ∷ []) (p.0, p.1, refl) ∙ ap (λ e. e || has_lost (call ∷ [])) ended in
    rests_more a p.0 b call call.reply calls refl ended p.1 (rests p.0 b calls next_ended p.2)

-- ## One call more, in front

none : (a : WireTells) → CarriesAll a a []
none a = record {
  front = [];
  of_lost = ([], refl);
  sent = takes_nothing a.taken;
  given = gives_nothing a.unread;
  later = omega arith;
  cause = tt;
  ended = carries_ends a a [] refl;
}

-- the cause of a fault behind a call that was answered
cause_behind : (a next b : WireTells) (f : LinkFault) → next.faults ≡ a.faults → next.ended ≡ false → IsFirstCause next b f → IsFirstCause a b f
cause_behind a next b Failed same goes_on rose = subst (λ n. Rose n b.faults) same rose
cause_behind a next b (Unreadable kept) same goes_on h = h
cause_behind a next b Ended same goes_on was = absurd (true≢false (sym was ∙ goes_on))
cause_behind a next b Memory same goes_on h = h ∙ same

causes_behind : (a next b : WireTells) (o : Option LinkFault) → next.faults ≡ a.faults → next.ended ≡ false →
    IfSome o (IsFirstCause next b) → IfSome o (IsFirstCause a b)
causes_behind a next b None same goes_on h = tt
causes_behind a next b (Some f) same goes_on h = cause_behind a next b f same goes_on h

no_fault : (a next : WireTells) (request : List Bytes) → WantsMemory a next request → next.faults ≡ a.faults
no_fault a next request (for_request same taken) = same
no_fault a next request (for_reply same sent) = same

-- the cause of the fault of the first call
first_cause : (a next b : WireTells) (request : List Bytes) (f : LinkFault) → b ≡ next → IsLost a next request f → IsFirstCause a b f
first_cause a next b request Failed same lost = subst (λ (s : WireTells). Rose a.faults s.faults) (sym same) lost.cause
first_cause a next b request (Unreadable kept) same lost = subst (λ (s : WireTells). IfSome s.unread (IsUnreadable kept)) (sym same) lost.cause
first_cause a next b request Ended same lost = lost.was
first_cause a next b request Memory same lost = ap (λ (s : WireTells). s.faults) same ∙ no_fault a next request lost.cause

answered_first : (a next b : WireTells) (request : List Bytes) (r : Reply) (calls : List Call) → IsAnswered a next request r → CarriesAll next b calls →
    b.ended ≡ (a.ended || has_lost calls) → CarriesAll a b (answered request r ∷ calls)
answered_first a next b request r calls came rest ends = record {
  front = rest.front;
  of_lost = rest.of_lost;
  sent = subst (λ t. Takes a.taken t b.taken) (sym (append_assoc (array request) (requests_text calls) rest.front))
      (takes_more a.taken (array request) next.taken (requests_text calls ++ rest.front) b.taken came.sent rest.sent);
  given = gives_more a.unread (wire r) next.unread (replies_text calls) b.unread came.given rest.given;
  later = omega (arith, came.same, rest.later);
  cause = causes_behind a next b (first_fault calls) came.same came.is rest.cause;
  ended = ends;
}

lost_first : (a next b : WireTells) (request : List Bytes) (f : LinkFault) (calls : List Call) → IsLost a next request f → Rests next b calls →
    b.ended ≡ (a.ended || true) → CarriesAll a b (lost request f ∷ calls)
lost_first a next b request f calls came rest ends = record {
  front = came.sent.0;
  of_lost = came.sent.1;
  sent = subst (λ t. Takes a.taken (t ++ came.sent.0) b.taken) (sym rest.requests) (subst (λ (s : WireTells). Takes a.taken came.sent.0 s.taken) (sym rest.is) came.sent.2);
  given = subst (λ t. Gives a.unread t b.unread) (sym rest.replies)
      (subst (λ (s : WireTells). Gives a.unread [] s.unread) (sym rest.is) (subst (λ u. Gives a.unread [] u) (sym came.kept) (gives_nothing a.unread)));
  later = subst (λ (s : WireTells). a.faults ≤ s.faults) (sym rest.is) came.later;
  cause = first_cause a next b request f rest.is came;
  ended = ends;
}

first_and_rest : (a next b : WireTells) (request : List Bytes) (reply : Result Reply LinkFault) (calls : List Call) → Comes a request reply next → Carries next b calls →
    CarriesAll next b calls → CarriesAll a b (record { request = request; reply = reply } ∷ calls)
first_and_rest a next b request (Ok r) calls came carried rest =
    answered_first a next b request r calls came rest (carries_ends a b (answered request r ∷ calls) (next, came, carried))
first_and_rest a next b request (Err f) calls came carried rest =
    lost_first a next b request f calls came (rests next b calls came.is carried) (carries_ends a b (lost request f ∷ calls) (next, came, carried))

pub told_at_once : (a b : WireTells) (calls : List Call) → Carries a b calls → CarriesAll a b calls
told_at_once a b [] p = subst (λ s. CarriesAll a s []) (sym p) (none a)
told_at_once a b (call ∷ calls) p = first_and_rest a p.0 b call.request call.reply calls p.1 p.2 (told_at_once p.0 b calls p.2)
