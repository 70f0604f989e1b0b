-- A turn is empty exactly where it held nothing and found each queue empty.
use Rattle.std.proofs.Common.{◌≡◌, ◌∙◌, ◌⊎◌, inl, inr, ◌&&◌, Bool, true, false, List, [], ◌∷◌, ◌++◌, ℕ, map, refl, sym, ap, Result, Ok, Err, IfOk}
use Rattle.std.proofs.lemmas.Bool.{true≢false}
use Rattle.sk_resp.specs.Spelling.{Bytes}
use Rattle.sk_resp.specs.declared.reply.Reply.{Reply}
use Rattle.sk_resp.specs.declared.reply.Reply.TheVariants as reply
use Rattle.sk_link.specs.Asking.{answers}
use Rattle.sk_link.specs.Walk.{Walk}
use Rattle.sk_link.specs.declared.asking.Answer.{Answer}
use Rattle.sk_link.specs.declared.link.LinkFault.{LinkFault}
use Rattle.sk_policy.specs.Order.{queues_in}
use Rattle.sk_worker.specs.Broken.{Broken, Unanswered}
use Rattle.sk_worker.specs.Event.{Event, asked, ordered, ran, chose}
use Rattle.sk_worker.specs.Fetching.{FetchStage, FetchLine, FetchStep, fetch, fetch_start, fetched, fetches, in_hand, after_reply, next_queue, orders}
use Rattle.sk_worker.specs.Forms
use Rattle.sk_worker.specs.Forms.{EmptyForm, Form, Failing, Fate, call}
use Rattle.sk_worker.specs.Request.{fetch_words}
use Rattle.sk_worker.specs.Stage.{Settings}
use Rattle.sk_worker.specs.Turn.{TurnTranscript, unfetched, empty, job}
use Rattle.sk_payload.specs.declared.head.Head.{Head}
use Rattle.sk_policy.specs.declared.decision.Decision.{Decision}
use Rattle.sk_worker.specs.declared.job.Raised.{Raised}
use Rattle.sk_worker.specs.declared.turn.Turn.{Turn}
use Rattle.sk_worker.specs.declared.turn.Turn.TheVariants as turn
use Rattle.sk_worker.specs.declared.turn.WorkFault.{WorkFault}
use Rattle.sk_worker.specs.declared.turn.WorkFault.TheVariants as fault
use Rattle.sk_worker.proofs.Fetches.{hand_start}
use Rattle.sk_worker.proofs.Forms.{four_forms}
use Rattle.sk_worker.specs.Forms.{IsEmptyOrMemory}

-- ## Requests that were answered by null

abbrev is_null : Result Reply LinkFault → Bool
is_null (Ok reply.Null) = true
is_null came = false

-- each request among them was answered by null
abbrev quiet : List Event → Bool
quiet [] = true
quiet (asked call ∷ events) = is_null call.reply && quiet events
quiet (ordered words ∷ events) = quiet events
quiet (ran run ∷ events) = quiet events
quiet (chose choice ∷ events) = quiet events

both : (a b : Bool) → (a && b) ≡ true → (a ≡ true) × (b ≡ true)
both true b h = (refl, h)
both false b h = absurd (true≢false (sym h))

quiet_front : (xs ys : List Event) → quiet (xs ++ ys) ≡ true → (quiet xs ≡ true) × (quiet ys ≡ true)
quiet_front [] ys h = (refl, h)
quiet_front (asked call ∷ xs) ys h =
    let b = both (is_null call.reply) (quiet (xs ++ ys)) h in
    let r = quiet_front xs ys b.1 in (ap (λ t. t && quiet xs) b.0 ∙ r.0, r.1)
quiet_front (ordered words ∷ xs) ys h = quiet_front xs ys h
quiet_front (ran run ∷ xs) ys h = quiet_front xs ys h
quiet_front (chose choice ∷ xs) ys h = quiet_front xs ys h

quiet_nulls : (w : Settings) (queues : List Bytes) → quiet (map (λ queue. call (fetch_words w.ident queue) reply.Null) queues) ≡ true
quiet_nulls w [] = refl
quiet_nulls w (queue ∷ queues) = quiet_nulls w queues

pub quiet_form : (w : Settings) (before : List Bytes) (events : List Event) → EmptyForm w before events → quiet events ≡ true
quiet_form w before events form = ap quiet form.are ∙ quiet_nulls w (queues_in w.order form.words)

-- ## What is in hand stays

hand_next : (queues payloads : List Bytes) → in_hand (next_queue queues payloads) ≡ payloads
hand_next [] payloads = refl
hand_next (queue ∷ queues) payloads = refl

null_is : (came : Result Reply LinkFault) (r : Reply) → came ≡ Ok r → is_null came ≡ true → r ≡ reply.Null
null_is came reply.Null e h = refl
null_is came r e h = absurd (true≢false (sym (sym (ap is_null e) ∙ h)))

hand_step : (w : Settings) (from next : FetchStage) (event : Event) → FetchStep w from event next → quiet (event ∷ []) ≡ true → in_hand next ≡ in_hand from
hand_step w from next event (orders words payloads drawn) h = hand_next _ payloads
hand_step w from next event (fetches from0 request wanted nexts r (fetch queue queues payloads) ok) h =
    ap (λ r. in_hand (after_reply w.prefetch queue queues payloads r)) (null_is (Ok r) r refl (both (is_null (Ok r)) true h).0) ∙ hand_next queues payloads

hand_walk : (w : Settings) (from to : FetchStage) (events : List Event) → Walk (FetchStep w) from events to → quiet events ≡ true → in_hand to ≡ in_hand from
hand_walk w from to [] walk h = ap in_hand walk
hand_walk w from to (event ∷ events) walk h =
    let b = quiet_front (event ∷ []) events h in
    hand_walk w walk.0 to events walk.2 b.1 ∙ hand_step w from walk.0 event walk.1 b.0

-- ## A quiet turn that isn't empty

-- a request of a fetch that is answered by null is answered as wanted
wanted_null : (w : Settings) (stage : FetchStage) (request : List Bytes) (wanted : Answer) (next : Reply → FetchStage) (came : Result Reply LinkFault) →
    FetchLine w stage request wanted next → IfOk came (λ r. answers wanted r ≡ false) → is_null came ≡ true → ⊥
wanted_null w stage request wanted next (Ok reply.Null) (fetch queue queues payloads) unwanted h = true≢false unwanted
wanted_null w stage request wanted next (Ok r) line unwanted h = true≢false (sym h)
wanted_null w stage request wanted next (Err l) line unwanted h = true≢false (sym h)

no_unanswered : (w : Settings) (from stage : FetchStage) (events : List Event) (came : Result Reply LinkFault) → quiet events ≡ true →
    Unanswered (FetchLine w) (FetchStep w) from events stage came → ⊥
no_unanswered w from stage events came h u =
    let last = (quiet_front u.done (asked (record { request = u.request; reply = came }) ∷ []) (sym (ap quiet u.are) ∙ h)).1 in
    wanted_null w stage u.request u.wanted u.next came u.line u.unwanted (both (is_null came) true last).0

only_memory : (w : Settings) (from stage : FetchStage) (events : List Event) (f : WorkFault) → quiet events ≡ true →
    Broken (FetchLine w) (FetchStep w) (λ _. ⊥) from events stage f → f ≡ fault.Memory
only_memory w from stage events (fault.Link l) h u = absurd (no_unanswered w from stage events (Err l) h u)
only_memory w from stage events (fault.Refused r) h u = absurd (no_unanswered w from stage events (Ok r) h u)
only_memory w from stage events fault.GenLimit h u = absurd u.1
only_memory w from stage events fault.Ended h u = absurd u
only_memory w from stage events fault.Memory h u = refl

abbrev some : List Bytes → Bool
some [] = false
some (c ∷ payloads) = true

not_nothing : (c : Bytes) (others : List Bytes) → c ∷ others ≡ [] → ⊥
not_nothing c others e = true≢false (ap some e)

pub quiet_turn : (w : Settings) (before : List Bytes) (events : List Event) (after : List Bytes) (result : Result Turn WorkFault) → TurnTranscript w before events after result →
    EmptyForm w before events → (result ≡ Ok turn.Empty) ⊎ (result ≡ Err fault.Memory)
quiet_turn w before events after result (unfetched events0 after0 f told) form =
    inr (ap Err (only_memory w (fetch_start w before) told.0 events f (quiet_form w before events form) told.1))
quiet_turn w before events after result (empty events0 form0) form = inl refl
quiet_turn w before events after result (job first rest c others after0 result0 fetching working is) form =
    absurd (not_nothing c others (hand_walk w (fetch_start w before) (fetched (c ∷ others)) first fetching (quiet_front first rest (quiet_form w before (first ++ rest) form)).0
    ∙ (hand_start w before ∙ form.none)))

-- ## An empty turn

never_empty_fate : (c : Bytes) (r : Raised) (now : ℕ) (d : Decision) (request : List Bytes) → Fate c r now d request turn.Empty → ⊥
never_empty_fate c r now d request fate = elim fate [ ]

never_empty_failing : (w : Settings) (c : Bytes) (h : Head) (r : Raised) (events : List Event) → Failing w c h r events turn.Empty → ⊥
never_empty_failing w c h r events (Forms.failing now word delay request t fail put release fate) = never_empty_fate c r now _ request fate

never_empty : (w : Settings) (c : Bytes) (events : List Event) → Form w c events turn.Empty → ⊥
never_empty w c events (Forms.raised h r start rest t is there failing) = never_empty_failing w c h r rest failing
never_empty w c events (Forms.unregistered h start rest t is none failing) = never_empty_failing w c h _ rest failing

pub empty_turn : (w : Settings) (before : List Bytes) (events : List Event) (after : List Bytes) → TurnTranscript w before events after (Ok turn.Empty) → EmptyForm w before events
empty_turn w before events after (empty events0 form) = form
empty_turn w before events after (job first rest c others after0 result0 fetching working is) = absurd (never_empty w c rest (four_forms w c turn.Empty rest working))
