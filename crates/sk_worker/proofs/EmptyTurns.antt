-- A turn that found no job.
use Rattle.std.proofs.Common.{◌≡◌, ◌∙◌, ◌≤◌, ℕ, Bool, true, false, cond, List, [], ◌∷◌, ◌++◌, length, map, refl, sym, subst, ap, arith}
use Rattle.std.specs.Prelude.{nat_le}
use Rattle.std.proofs.lemmas.Bool.{true≢false, leb-true}
use Rattle.sk_resp.specs.Spelling.{Bytes}
use Rattle.sk_resp.specs.declared.reply.Reply.{Reply}
use Rattle.sk_resp.specs.declared.reply.Reply.TheVariants as reply
use Rattle.sk_link.specs.Asking.{answers}
use Rattle.sk_link.specs.declared.asking.Answer.TheVariants as answer
use Rattle.sk_policy.specs.Order.{queues_in}
use Rattle.sk_worker.specs.Event.{Event, ordered}
use Rattle.sk_worker.specs.Fetching.{FetchStage, FetchStep, begins, asking, fetched, fetch, orders, fetches, next_queue, after_reply, fetch_start}
use Rattle.sk_worker.specs.Forms.{EmptyForm, call}
use Rattle.sk_worker.specs.Request.{fetch_words}
use Rattle.sk_worker.specs.Stage.{Settings}
use Rattle.sk_link.specs.Walk.{Walk}

-- ## What is held doesn't go while a worker fetches

abbrev some : List Bytes → Bool
some [] = false
some (c ∷ payloads) = true

abbrev holds : FetchStage → Bool
holds (begins payloads) = some payloads
holds (asking queue queues payloads) = some payloads
holds (fetched payloads) = some payloads

some-push : (payloads : List Bytes) (c : Bytes) → some (payloads ++ c ∷ []) ≡ true
some-push [] c = refl
some-push (d ∷ payloads) c = refl

holds-next : (queues payloads : List Bytes) → holds (next_queue queues payloads) ≡ some payloads
holds-next [] payloads = refl
holds-next (queue ∷ queues) payloads = refl

holds-cond : (full : Bool) (queue : Bytes) (queues payloads : List Bytes) → holds (cond full (fetched payloads) (asking queue queues payloads)) ≡ some payloads
holds-cond true queue queues payloads = refl
holds-cond false queue queues payloads = refl

holds-bulk : (prefetch : ℕ) (queue : Bytes) (queues payloads : List Bytes) (c : Bytes) → holds (after_reply prefetch queue queues payloads (reply.Bulk c)) ≡ true
holds-bulk prefetch queue queues payloads c = holds-cond (nat_le prefetch (length (payloads ++ c ∷ []))) queue queues (payloads ++ c ∷ []) ∙ some-push payloads c

holds-reply : (prefetch : ℕ) (queue : Bytes) (queues payloads : List Bytes) (r : Reply) → some payloads ≡ true → holds (after_reply prefetch queue queues payloads r) ≡ true
holds-reply prefetch queue queues payloads (reply.Bulk c) h = holds-bulk prefetch queue queues payloads c
holds-reply prefetch queue queues payloads r h = holds-next queues payloads ∙ h

holds-step : (w : Settings) (from : FetchStage) (event : Event) (next : FetchStage) → FetchStep w from event next → holds from ≡ true → holds next ≡ true
holds-step w from event next (orders words payloads drawn) h = holds-next (queues_in w.order words) payloads ∙ h
holds-step w from event next (fetches from_ request wanted nexts r (fetch queue queues payloads) ok) h = holds-reply w.prefetch queue queues payloads r h

holds-walk : (w : Settings) (from to : FetchStage) (events : List Event) → Walk (FetchStep w) from events to → holds from ≡ true → holds to ≡ true
holds-walk w from to [] p h = ap holds p ∙ h
holds-walk w from to (event ∷ events) p h = holds-walk w p.0 to events p.2 (holds-step w from event p.0 p.1 h)

-- ## Where fetching ends

abbrev is_fetched : FetchStage → Bool
is_fetched (fetched payloads) = true
is_fetched stage = false

abbrev payloads_of : FetchStage → List Bytes
payloads_of (begins payloads) = payloads
payloads_of (asking queue queues payloads) = payloads
payloads_of (fetched payloads) = payloads

ended : (w : Settings) (payloads : List Bytes) (event : Event) (next : FetchStage) → FetchStep w (fetched payloads) event next → ⊥
ended w payloads event next (fetches from request wanted nexts r line ok) = elim line [ ]

after_fetched : (w : Settings) (payloads left : List Bytes) (events : List Event) → Walk (FetchStep w) (fetched payloads) events (fetched left) → (events ≡ []) × (left ≡ payloads)
after_fetched w payloads left [] p = (refl, ap payloads_of p)
after_fetched w payloads left (event ∷ events) p = absurd (ended w payloads event p.0 p.1)

-- ## A walk that ends with none

nulls : Settings → List Bytes → List Event
nulls w queues = map (λ queue. call (fetch_words w.ident queue) reply.Null) queues

of_reply : (w : Settings) (queue : Bytes) (queues : List Bytes) (events : List Event) (r : Reply) → answers answer.Popped r ≡ true →
    Walk (FetchStep w) (after_reply w.prefetch queue queues [] r) events (fetched []) →
    (call (fetch_words w.ident queue) r ≡ call (fetch_words w.ident queue) reply.Null) × (after_reply w.prefetch queue queues [] r ≡ next_queue queues [])
of_reply w queue queues events reply.Null ok walk = (refl, refl)
of_reply w queue queues events (reply.Bulk c) ok walk = absurd (true≢false (sym (holds-walk w _ (fetched []) events walk (holds-bulk w.prefetch queue queues [] c))))
of_reply w queue queues events r ok walk = absurd (true≢false (sym ok))

of_step : (w : Settings) (queue : Bytes) (queues : List Bytes) (event : Event) (next : FetchStage) (events : List Event) → FetchStep w (asking queue queues []) event next →
    Walk (FetchStep w) next events (fetched []) → (event ≡ call (fetch_words w.ident queue) reply.Null) × (next ≡ next_queue queues [])
of_step w queue queues event next events (fetches from request wanted nexts r (fetch queue0 queues0 payloads0) ok) walk = of_reply w queue queues events r ok walk

of_queues : (w : Settings) (queues : List Bytes) (events : List Event) → Walk (FetchStep w) (next_queue queues []) events (fetched []) → events ≡ nulls w queues
unfolding nulls
of_queues w [] events walk = (after_fetched w [] [] events walk).0
of_queues w (queue ∷ queues) [] walk = absurd (true≢false (ap is_fetched walk))
of_queues w (queue ∷ queues) (event ∷ events) walk =
    let one = of_step w queue queues event walk.0 events walk.1 walk.2 in
    ap (λ e. e ∷ events) one.0 ∙ ap (λ es. call (fetch_words w.ident queue) reply.Null ∷ es)
    (of_queues w queues events (subst (λ stage. Walk (FetchStep w) stage events (fetched [])) one.1 walk.2))

none_of : (payloads : List Bytes) → (some payloads ≡ true → ⊥) → payloads ≡ []
none_of [] h = refl
none_of (c ∷ payloads) h = absurd (h refl)

of_begins_step : (w : Settings) (before : List Bytes) (event : Event) (next : FetchStage) (events : List Event) → before ≡ [] → FetchStep w (begins before) event next →
    Walk (FetchStep w) next events (fetched []) → EmptyForm w before (event ∷ events)
unfolding nulls
of_begins_step w before event next events none (orders words payloads drawn) walk = record {
  none = none;
  words = words;
  drawn = drawn;
  are = ap (λ es. ordered words ∷ es)
      (of_queues w (queues_in w.order words) events (subst (λ held. Walk (FetchStep w) (next_queue (queues_in w.order words) held) events (fetched [])) none walk));
}
of_begins_step w before event next events none (fetches from request wanted nexts r line ok) walk = elim line [ ]

of_begins : (w : Settings) (before : List Bytes) (events : List Event) → Walk (FetchStep w) (begins before) events (fetched []) → EmptyForm w before events
of_begins w before [] walk = absurd (true≢false (ap is_fetched walk))
of_begins w before (event ∷ events) walk =
    of_begins_step w before event walk.0 events (none_of before (λ h. true≢false (sym (holds-walk w (begins before) (fetched []) (event ∷ events) walk h)))) walk.1 walk.2

of_start : (w : Settings) (before : List Bytes) (events : List Event) (full : Bool) → 1 ≤ w.prefetch → nat_le w.prefetch (length before) ≡ full →
    Walk (FetchStep w) (cond full (fetched before) (begins before)) events (fetched []) → EmptyForm w before events
of_start w before events true some_ is walk =
    let none : [] ≡ before = (after_fetched w before [] events walk).1 in
    let no : ⊥ = omega (arith, leb-true w.prefetch (length before) is, ap (λ payloads. length payloads) none) in absurd no
of_start w before events false some_ is walk = of_begins w before events walk

pub an_empty_turn : (w : Settings) (before : List Bytes) (events : List Event) → 1 ≤ w.prefetch → Walk (FetchStep w) (fetch_start w before) events (fetched []) → EmptyForm w before events
an_empty_turn w before events some_ walk = of_start w before events (nat_le w.prefetch (length before)) some_ refl walk
