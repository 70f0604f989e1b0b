-- What the threads of a drill tell.
use Rattle.std.proofs.Common.{◌≡◌, ◌+◌, ◌++◌, ◌∷◌, ◌∙◌, ℕ, List, [], ap, append_assoc, arith, codes, length, length-append, map, refl, subst, sym, Result, Ok, Err, IfOk, OnOk}
use Rattle.std.specs.Prelude.{ℤ, pos, Some, IsSomeAnd}
use Rattle.sk_base.specs.Yields.{YieldsAll}
use Rattle.sk_base.specs.declared.clock.StepClock.{StepClock}
use Rattle.sk_poller.specs.declared.poller.Loop.{Loop}
use Rattle.std.specs.List.{AllByRecursion}
use Rattle.std.proofs.lemmas.List.{append-nil, flat_map_more, length-map, length_push, map-append}
use Rattle.sk_compare.specs.Exchange.{Exchange, exchange_of}
use Rattle.sk_desk.specs.declared.entry.Ask.{Ask}
use Rattle.sk_lane.specs.Carrying.{Carries, CarriesCall, LinkState}
use Rattle.sk_link.specs.Call.{Call}
use Rattle.sk_link.specs.declared.link.LinkFault.{LinkFault}
use Rattle.sk_link.specs.declared.link.LinkFault.TheVariants.{Failed, Unreadable, Ended, Memory}
use Rattle.sk_poller.specs.Event.{Event, asked, calls, drew, moments, read as reading, slot}
use Rattle.sk_poller.specs.Stage.{PollTranscript, resting}
use Rattle.sk_poller.specs.declared.report.PollFault.{PollFault}
use Rattle.sk_poller.specs.declared.report.PollFault.TheVariants as fault
use Rattle.sk_poller.specs.declared.report.PollReport.{PollReport}
use Rattle.sk_resp.specs.declared.reply.Reply.{Reply}
use Rattle.sk_drill.specs.Requests.{push}
use Rattle.sk_drill.specs.Telling.{CallServed, GoesOn, HasEnded, IsPoll, IsServed, Polled, Pushed, PushesOne, ReadClock, exchange, exchanges, poll_moment, pushes_from, ticks, turn_asks, turn_marks, turns_asks, watch, with_answer}

all_more : {X : Type 0} (P : X → Type 0) (xs : List X) (x : X) → AllByRecursion P xs → P x → AllByRecursion P (xs ++ x ∷ [])
all_more P [] x all one = (one, tt)
all_more P (y ∷ xs) x all one = (all.0, all_more P xs x all.1 one)

-- ## Calls

one_kept : (a : LinkState) (request : List (List ℕ)) (reply : Result Reply LinkFault) (b : LinkState) → CarriesCall a (record { request = request; reply = reply }) b →
    map exchange_of b.asks ≡ map exchange_of a.asks ++ with_answer request reply []
one_kept a request (Ok answer) b p = ap (λ l. map exchange_of l) p.kept.kept ∙ map-append exchange_of a.asks _
one_kept a request (Err Failed) b p = ap (λ l. map exchange_of l) p.kept.1 ∙ sym (append-nil (map exchange_of a.asks))
one_kept a request (Err (Unreadable text)) b p = ap (λ l. map exchange_of l) p.kept.1 ∙ sym (append-nil (map exchange_of a.asks))
one_kept a request (Err Ended) b p = ap (λ l. map exchange_of l) p.kept.1 ∙ sym (append-nil (map exchange_of a.asks))
one_kept a request (Err Memory) b p = ap (λ l. map exchange_of l) p.kept.1 ∙ sym (append-nil (map exchange_of a.asks))

with_more : (request : List (List ℕ)) (reply : Result Reply LinkFault) (later : List Exchange) → with_answer request reply [] ++ later ≡ with_answer request reply later
with_more request (Ok answer) later = refl
with_more request (Err f) later = refl

-- A link keeps the calls that it carried and that were answered.
pub kept : (a b : LinkState) (cs : List Call) → Carries a b cs → map exchange_of b.asks ≡ map exchange_of a.asks ++ exchanges cs
kept a b [] p = ap (λ (s : LinkState). map exchange_of s.asks) p ∙ sym (append-nil (map exchange_of a.asks))
kept a b (call ∷ cs) p =
    kept p.0 b cs p.2 ∙ ap (λ l. l ++ exchanges cs) (one_kept a call.request call.reply p.0 p.1)
    ∙ append_assoc (map exchange_of a.asks) (with_answer call.request call.reply []) (exchanges cs)
    ∙ ap (λ l. map exchange_of a.asks ++ l) (with_more call.request call.reply (exchanges cs))

one_served : (a : LinkState) (request : List (List ℕ)) (reply : Result Reply LinkFault) (b : LinkState) → CarriesCall a (record { request = request; reply = reply }) b →
    IfOk reply IsServed
one_served a request (Ok answer) b p = p.drawn.1
one_served a request (Err f) b p = tt

-- No call that a link carried was answered `-OOM`.
pub all_served : (a b : LinkState) (cs : List Call) → Carries a b cs → AllByRecursion CallServed cs
all_served a b [] p = tt
all_served a b (call ∷ cs) p = (one_served a call.request call.reply p.0 p.1, all_served p.0 b cs p.2)

-- ## Pushes

pushes_more : (k m : ℕ) (answers : List Reply) (answer : Reply) → m ≡ k + length answers →
    pushes_from k (answers ++ answer ∷ []) ≡ pushes_from k answers ++ exchange (push m (codes "default")) answer ∷ []
pushes_more k m [] answer is = ap (λ n. exchange (push n (codes "default")) answer ∷ []) (omega (arith, is))
pushes_more k m (first ∷ answers) answer is =
    ap (λ l. exchange (push k (codes "default")) first ∷ l) (pushes_more (k + 1) m answers answer (omega (arith, is)))

pub pushed_none : (asks : List Ask) → asks ≡ [] → Pushed 0 (map exchange_of asks)
pushed_none asks none = record { answers = []; count = refl; served = tt; are = ap (λ l. map exchange_of l) none }

-- One more job was pushed.
pub pushed_more : (k m : ℕ) (asks asks2 : List Exchange) → Pushed k asks → m ≡ k + 1 → PushesOne m asks asks2 → Pushed m asks2
pushed_more k m asks asks2 was is one = let answer = one.answer in record {
  answers = was.answers ++ answer ∷ [];
  count = length_push was.answers answer ∙ omega (arith, was.count, is);
  served = all_more IsServed was.answers answer was.served one.served;
  are = one.are ∙ ap (λ l. l ++ exchange (push m (codes "default")) answer ∷ []) was.are
      ∙ sym (pushes_more 1 m was.answers answer (omega (arith, was.count, is)));
}

-- ## Turns of the poller

calls-last : (done : List Event) (call : Call) → AllByRecursion CallServed (calls (done ++ asked call ∷ [])) → CallServed call
calls-last [] call all = all.0
calls-last (reading now ∷ done) call all = calls-last done call all
calls-last (asked other ∷ done) call all = calls-last done call all.1
calls-last (slot last ∷ done) call all = calls-last done call all
calls-last (drew first second ∷ done) call all = calls-last done call all

-- Where no call was answered `-OOM`, the turn doesn't end at that.
pub goes_on : (events : List Event) (result : Result PollReport PollFault) → PollTranscript watch resting events result → AllByRecursion CallServed (calls events) →
    HasEnded result → GoesOn result
goes_on events (Ok report) told served ended = tt
goes_on events (Err (fault.Refused answer)) told served ended =
    calls-last told.done (record { request = told.request; reply = Ok answer }) (subst (λ es. AllByRecursion CallServed (calls es)) told.are served)
goes_on events (Err (fault.Link f)) told served ended = ended
goes_on events (Err fault.Memory) told served ended = ended

marks_more : (n : ℕ) (turns : List (List Event)) (turn : List Event) →
    turn_marks n (turns ++ turn ∷ []) ≡ turn_marks n turns ++ (n + length (turns_asks turns)) ∷ []
marks_more n [] turn = ap (λ k. k ∷ []) (omega arith)
marks_more n (first ∷ turns) turn =
    ap (λ l. n ∷ l) (marks_more (n + length (turn_asks first)) turns turn
    ∙ ap (λ k. turn_marks (n + length (turn_asks first)) turns ++ k ∷ []) (omega (arith, length-append (turn_asks first) (turns_asks turns))))

clock_more : (n : ℕ) (turns : List (List Event)) (turn : List Event) → ReadClock n turns → moments turn ≡ poll_moment (n + length turns) ∷ [] → ReadClock n (turns ++ turn ∷ [])
clock_more n [] turn all one = (one ∙ ap (λ k. poll_moment k ∷ []) (omega arith), tt)
clock_more n (first ∷ turns) turn all one = (all.0, clock_more (n + 1) turns turn all.1 (one ∙ ap (λ k. poll_moment k ∷ []) (omega arith)))

-- A clock that was read once.
pub read_now : (f g : ℕ → ℕ) (ms : List ℕ) (m : ℕ) → YieldsAll (Some f) ms (Some g) → ms ≡ m ∷ [] → (ms ≡ f 0 ∷ []) × ((n : ℕ) → g n ≡ f (n + 1))
read_now f g ms m y is =
    let one = subst (λ l. YieldsAll (Some f) l (Some g)) is y in
    let later = subst (λ o. IsSomeAnd o (λ h. (n : ℕ) → h n ≡ f (n + 1))) (sym one.2) one.1.1 in
    (is ∙ ap (λ k. k ∷ []) one.1.0, later)

-- The poller's clock, where it begins, and behind a turn.
pub clock_first : (clock : StepClock) → clock ≡ record { now = 1700000000000; step = 1000 } → (n : ℕ) → ticks clock n ≡ poll_moment (0 + n)
clock_first clock is n = ap (λ (c : StepClock). ticks c n) is ∙ ap (λ k. poll_moment k) (omega arith)

pub clock_next : (k m : ℕ) (clock clock2 : StepClock) → ((n : ℕ) → ticks clock n ≡ poll_moment (k + n)) → ((n : ℕ) → ticks clock2 n ≡ ticks clock (n + 1)) → m ≡ k + 1 →
    (n : ℕ) → ticks clock2 n ≡ poll_moment (m + n)
clock_next k m clock clock2 was later is n = later n ∙ was (n + 1) ∙ ap (λ i. poll_moment i) (omega (arith, is))

pub polled_none : (asks : List Ask) (marks : List ℕ) → asks ≡ [] → marks ≡ [] → Polled 0 (map exchange_of asks) marks
polled_none asks marks none unmarked = record { turns = []; count_is = refl; polls = tt; clock_read = tt; are = ap (λ l. map exchange_of l) none; marked = unmarked }

-- One more turn was taken, and marked.
pub polled_more : (k m mark : ℕ) (marks marks2 : List ℕ) (asks : List Ask) (asks2 : List Exchange) (events : List Event) → Polled k (map exchange_of asks) marks →
    m ≡ k + 1 → mark ≡ length asks → marks2 ≡ marks ++ mark ∷ [] → IsPoll events → moments events ≡ poll_moment k ∷ [] →
    asks2 ≡ map exchange_of asks ++ turn_asks events → Polled m asks2 marks2
polled_more k m mark marks marks2 asks asks2 events was is mark_is marked poll read now =
    let turns = was.turns in
    let before : mark ≡ 0 + length (turns_asks turns) = omega (arith, mark_is, length-map asks exchange_of, ap (λ l. length l) was.are) in
    record {
      turns = turns ++ events ∷ [];
      count_is = length_push turns events ∙ omega (arith, was.count_is, is);
      polls = all_more IsPoll turns events was.polls poll;
      clock_read = clock_more 0 turns events was.clock_read (read ∙ ap (λ i. poll_moment i ∷ []) (omega (arith, was.count_is)));
      are = now ∙ ap (λ l. l ++ turn_asks events) was.are ∙ flat_map_more turn_asks [] turns events;
      marked = marked ∙ ap (λ l. l ++ mark ∷ []) was.marked ∙ ap (λ n. turn_marks 0 turns ++ n ∷ []) before ∙ sym (marks_more 0 turns events);
    }

pub when_ok : {X E P Q : Type 0} (r : Result X E) → OnOk r P → (P → Q) → OnOk r Q
when_ok (Ok x) h f = f h
when_ok (Err e) h f = tt

pub watch_is : (i : List ℕ) (ls : List Loop) (o : ℤ) → i ≡ codes "w:0:d" → ls ≡ [] → o ≡ pos 0 → record { ident = i; loops = ls; offset = o } ≡ watch
watch_is i ls o a b e = cc
