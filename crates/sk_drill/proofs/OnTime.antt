-- The moments at which the threads of a drill ask.
use Rattle.std.proofs.Common.{◌≡◌, ◌+◌, ◌++◌, ◌∷◌, ◌∙◌, ℕ, List, [], Option, Some, None, Result, Ok, Err, IsOk, ap, arith, length, refl, subst, sym}
use Rattle.std.specs.Prelude.{IsSomeAnd}
use Rattle.std.specs.List.{AllByRecursion}
use Rattle.std.proofs.lemmas.List.{length_push}
use Rattle.sk_base.specs.Yields.{Yields}
use Rattle.sk_base.specs.declared.clock.StepClock.{StepClock}
use Rattle.sk_desk.specs.declared.entry.Ask.{Ask}
use Rattle.sk_lane.specs.Asks.{answered_ask}
use Rattle.sk_lane.specs.Carrying.{Carries, CarriesCall, LinkState}
use Rattle.sk_lane.specs.declared.seat_link.SeatLink.{SeatLink}
use Rattle.sk_link.specs.Call.{Call}
use Rattle.sk_link.specs.declared.link.LinkFault.{LinkFault}
use Rattle.sk_resp.specs.declared.reply.Reply.{Reply}
use Rattle.sk_drill.specs.Telling.{AskedAt, OnTime, push_moment, ticks}

asked_more : (moment : ℕ → ℕ) (n : ℕ) (asks : List Ask) (ask : Ask) → AskedAt moment n asks → ask.now ≡ moment (n + length asks) → AskedAt moment n (asks ++ ask ∷ [])
asked_more moment n [] ask all one = (one ∙ ap (λ k. moment k) (omega arith), tt)
asked_more moment n (first ∷ asks) ask all one = (all.0, asked_more moment (n + 1) asks ask all.1 (one ∙ ap (λ k. moment k) (omega arith)))

-- Each was asked at its moment, and what is told of the clock goes on with those behind them.
pub record StateOnTime (moment : ℕ → ℕ) (asks : List Ask) (told : Option (ℕ → ℕ)) : Type 0 where
  pub asked : AskedAt moment 0 asks
  pub next : IsSomeAnd told (λ later. (n : ℕ) → later n ≡ moment (length asks + n))

-- one more ask, at the next moment
one_asked : (moment : ℕ → ℕ) (now : ℕ) (asks after : List Ask) (ask : Ask) (told later : Option (ℕ → ℕ)) → StateOnTime moment asks told → Yields told now later → ask.now ≡ now →
    after ≡ asks ++ ask ∷ [] → StateOnTime moment after later
one_asked moment now asks after ask None later s y is are = absurd s.next
one_asked moment now asks after ask (Some next) (Some later) s y is are = record {
  asked = subst (AskedAt moment 0) (sym are) (asked_more moment 0 asks ask s.asked (is ∙ (y.0 ∙ s.next 0) ∙ ap (λ k. moment k) (omega arith)));
  next = λ n. y.1 n ∙ s.next (n + 1) ∙ ap (λ k. moment k) (omega (arith, ap (λ l. length l) are, length_push asks ask));
}
one_asked moment now asks after ask (Some next) None s y is are = absurd y.1

one_call : (moment : ℕ → ℕ) (a : LinkState) (request : List (List ℕ)) (reply : Result Reply LinkFault) (b : LinkState) → CarriesCall a (record { request = request; reply = reply }) b →
    IsOk reply → StateOnTime moment a.asks a.moments → StateOnTime moment b.asks b.moments
one_call moment a request (Ok answer) b p ok s = one_asked moment p.kept.now a.asks b.asks (answered_ask p.kept.now request answer) a.moments b.moments s p.kept.at refl p.kept.kept
one_call moment a request (Err f) b p ok s = absurd (cc ok)

-- A link whose calls were all answered stays on time.
pub stays_on_time : (moment : ℕ → ℕ) (a b : LinkState) (cs : List Call) → Carries a b cs → AllByRecursion (λ call. IsOk call.reply) cs →
    StateOnTime moment a.asks a.moments → StateOnTime moment b.asks b.moments
stays_on_time moment a b [] p ok s = subst (λ (t : LinkState). StateOnTime moment t.asks t.moments) (sym p) s
stays_on_time moment a b (call ∷ cs) p ok s = stays_on_time moment p.0 b cs p.2 ok.1 (one_call moment a call.request call.reply p.0 p.1 ok.0 s)

-- ## Where a thread begins

first_tick : (now step : ℕ) (moment : ℕ → ℕ) (clock : StepClock) → clock ≡ record { now = now; step = step } → ((n : ℕ) → ticks (record { now = now; step = step }) n ≡ moment n) →
    (n : ℕ) → ticks clock n ≡ moment n
first_tick now step moment clock is each n = ap (λ (c : StepClock). ticks c n) is ∙ each n

pub on_time : {D : Type 0} (now step : ℕ) (moment : ℕ → ℕ) (link : SeatLink D StepClock) → link.asks.items ≡ [] → link.clock ≡ record { now = now; step = step } →
    ((n : ℕ) → ticks (record { now = now; step = step }) n ≡ moment n) → OnTime moment link
on_time now step moment link empty is each = record {
  asked = subst (AskedAt moment 0) (sym empty) tt;
  next = λ n. first_tick now step moment link.clock is each n ∙ ap (λ k. moment k) (omega (arith, ap (λ l. length l) empty));
}

pub push_ticks : (n : ℕ) → ticks (record { now = 1700000000000; step = 0 }) n ≡ push_moment n
push_ticks n = omega arith
