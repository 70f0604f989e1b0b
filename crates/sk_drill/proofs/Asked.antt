-- What the threads of a drill ask: each ask of the one that pushes pushes a job, and no ask of the others pushes anything.
use denote.Param.Members.{Mut}
use Rattle.std.proofs.Common.{◌≡◌, ◌≤◌, ◌<◌, ◌+◌, ◌++◌, ◌∷◌, ◌∙◌, ℕ, List, [], Option, Some, None, IfSome, IsSome, IsOk, ◌⊎◌, inl, inr, ap, arith, codes, length, map, refl, subst, sym, zip, flat_map, Result, Ok, Err}
use Rattle.std.specs.List.{AllByRecursion}
use Rattle.std.proofs.lemmas.List.{length-map}
use Rattle.sk_link.specs.Call.{Call}
use Rattle.sk_link.specs.Walk.{Walk}
use Rattle.sk_link.specs.declared.asking.Answer.{Answer}
use Rattle.sk_link.specs.declared.link.LinkFault.{LinkFault}
use Rattle.sk_resp.specs.Spelling.{Bytes}
use Rattle.sk_resp.specs.declared.reply.Reply.{Reply}
use Rattle.sk_resp.specs.declared.reply.Reply.TheVariants as reply
use Rattle.sk_policy.specs.Order.{queues_in}
use Rattle.sk_policy.specs.declared.delay.DelayRule.{DelayRule}
use Rattle.sk_worker.specs.Broken.{Broken}
use Rattle.sk_worker.specs.Event.{Event, Choice, asked, calls, chose, ordered, ran}
use Rattle.sk_worker.specs.Fetching.{FetchLine, FetchStage, FetchStep, fetch, fetch_start, fetched, fetches as fetch_step, orders}
use Rattle.sk_worker.specs.Forms.{call}
use Rattle.sk_worker.specs.Request.{fetch_words, private_key, queue_key}
use Rattle.sk_worker.specs.Run.{Run}
use Rattle.sk_worker.specs.Stage
use Rattle.sk_worker.specs.Stage.{AtLimit, JobTranscript, Line, Settings, Step, holding, over}
use Rattle.sk_worker.specs.Turn.{TurnTranscript, empty, job, unfetched}
use Rattle.sk_worker.specs.declared.registry.Registry.{Registry}
use Rattle.sk_worker.specs.declared.turn.Turn.{Turn}
use Rattle.sk_worker.specs.declared.turn.WorkFault.{WorkFault}
use Rattle.sk_worker.specs.declared.turn.WorkFault.TheVariants as fault
use Rattle.sk_poller.specs.Event.{Event as PollEvent, asked as poll_asked, calls as poll_calls, drew, moments, read, slot}
use Rattle.sk_poller.specs.Stage.{PollTranscript, asks as poll_asks, draws, looks, reads, request_at, resting, Step as PollStep}
use Rattle.sk_poller.proofs.Polls.{Leads, beat as to_schedule, promote as to_retries, retry as to_rescue, rescue as to_lead, lead as to_loops, follow as to_end, push as pushed, pass as passed, leads_on, left as events_left}
use Rattle.sk_poller.specs.declared.report.PollFault.{PollFault}
use Rattle.sk_poller.specs.declared.report.PollFault.TheVariants as poll_fault
use Rattle.sk_poller.specs.declared.report.PollReport.{PollReport}
use Rattle.sk_compare.specs.Exchange.{Exchange, exchange_of}
use Rattle.sk_desk.specs.declared.entry.Ask.{Ask}
use Rattle.sk_lane.specs.Asks.{answered_ask, asks_at, with_ask}
use Rattle.sk_lane.specs.Story.{Stories, StoryTold, all_told, one_more, turned, unbeaten, unjoined}
use Rattle.sk_lane.specs.Turns.{Turns, all_taken, asks_of, broken, moment, whole}
use Rattle.sk_lane.specs.declared.crashes.Crashes.{Crashes}
use Rattle.sk_lane.specs.declared.crashes.Drawing.{Drawing}
use Rattle.sk_lane.specs.declared.past_seat.PastSeat.{PastSeat}
use Rattle.sk_lane.specs.declared.story.Story.{Story}
use Rattle.sk_drill.specs.Crews.{AreStories, Assigned, HasWorked, classes_of, task_of}
use Rattle.sk_drill.specs.Drilled.{IsAnswered}
use Rattle.sk_drill.specs.Telling.{GoesOn, IsPoll, exchanges, pushes_from, turn_asks, turns_asks, watch, with_answer}
use Rattle.sk_drill.specs.declared.plan.Plan.{Plan}
use Rattle.sk_drill.proofs.Each.{all_append, all_in, all_weaker, walk_all}
use Rattle.sk_drill.proofs.Commands.{ReadPushes, beats, buries, drops, dues, fails, fetches, job_pushed, joins, leads, none, oks, one, releases, rescues, retries, starts}

-- ## Asks

-- The request was answered, and pushes so many rows, by its reply.
pub record IsTold (count : Reply → ℕ) (x : Exchange) : Type 0 where
  pub answered : IsSome x.reply
  pub pushes : ReadPushes x.request count

abbrev pub AskTold : (Reply → ℕ) → Ask → Type 0
AskTold count ask = IsTold count (exchange_of ask)

abbrev pub StoryAsks : (Reply → ℕ) → Story → Type 0
StoryAsks count story = AllByRecursion (IsTold count) (map exchange_of story.asks.items)

asks_told : (count : Reply → ℕ) (asks : List Ask) → AllByRecursion (AskTold count) asks → AllByRecursion (IsTold count) (map exchange_of asks)
asks_told count [] p = tt
asks_told count (ask ∷ asks) p = (p.0, asks_told count asks p.1)

-- It pushes nothing.
abbrev IsQuiet : Call → Type 0
IsQuiet call = ReadPushes call.request none

one_ask : (now : ℕ) (request : List Bytes) (came : Result Reply LinkFault) (later : List Ask) → ReadPushes request none → AllByRecursion (AskTold none) later →
    AllByRecursion (AskTold none) (with_ask now request came later)
one_ask now request (Ok answer) later quiet rest = (record { answered = refl; pushes = quiet }, rest)
one_ask now request (Err f) later quiet rest = rest

asks_quiet : (now : ℕ) (cs : List Call) → AllByRecursion IsQuiet cs → AllByRecursion (AskTold none) (asks_at now cs)
asks_quiet now [] p = tt
asks_quiet now (call ∷ cs) p = one_ask now call.request call.reply (asks_at now cs) p.0 (asks_quiet now cs p.1)

-- ## A worker's turn

abbrev EventQuiet : Event → Type 0
EventQuiet (asked call) = IsQuiet call
EventQuiet (ordered words) = Unit {0}
EventQuiet (ran run) = Unit {0}
EventQuiet (chose choice) = Unit {0}

calls_quiet : (events : List Event) → AllByRecursion EventQuiet events → AllByRecursion IsQuiet (calls events)
calls_quiet [] p = tt
calls_quiet (asked call ∷ events) p = (p.0, calls_quiet events p.1)
calls_quiet (ordered words ∷ events) p = calls_quiet events p.1
calls_quiet (ran run ∷ events) p = calls_quiet events p.1
calls_quiet (chose choice ∷ events) p = calls_quiet events p.1

broken_quiet : {S : Type 0} (Line : S → List Bytes → Answer → (Reply → S) → Type 0) (Step : S → Event → S → Type 0) (Limit : S → Type 0) →
    ((a b : S) (e : Event) → Step a e b → EventQuiet e) →
    ((s : S) (request : List Bytes) (wanted : Answer) (next : Reply → S) → Line s request wanted next → ReadPushes request none) →
    (from stage : S) (events : List Event) (f : WorkFault) → Broken Line Step Limit from events stage f → AllByRecursion EventQuiet events
broken_quiet Line Step Limit each line from stage events (fault.Link l) u = subst (AllByRecursion EventQuiet) (sym u.are)
    (all_append EventQuiet u.done _ (walk_all Step EventQuiet each from stage u.done u.walk) (line stage u.request u.wanted u.next u.line, tt))
broken_quiet Line Step Limit each line from stage events (fault.Refused r) u = subst (AllByRecursion EventQuiet) (sym u.are)
    (all_append EventQuiet u.done _ (walk_all Step EventQuiet each from stage u.done u.walk) (line stage u.request u.wanted u.next u.line, tt))
broken_quiet Line Step Limit each line from stage events fault.GenLimit u = walk_all Step EventQuiet each from stage events u.0
broken_quiet Line Step Limit each line from stage events fault.Ended u = absurd u
broken_quiet Line Step Limit each line from stage events fault.Memory u = walk_all Step EventQuiet each from stage events u

fetch_quiet : (w : Settings) (s : FetchStage) (request : List Bytes) (wanted : Answer) (next : Reply → FetchStage) → FetchLine w s request wanted next → ReadPushes request none
fetch_quiet w _ _ _ _ (fetch queue queues payloads) = fetches (queue_key queue) (private_key w.ident) (codes "RIGHT") (codes "LEFT")

fetch_step_quiet : (w : Settings) (a b : FetchStage) (e : Event) → FetchStep w a e b → EventQuiet e
fetch_step_quiet w _ _ _ (orders words payloads drawn) = tt
fetch_step_quiet w a _ _ (fetch_step from request wanted next r line ok) = fetch_quiet w a request wanted next line

line_quiet : (w : Settings) (s : Stage.Stage) (request : List Bytes) (wanted : Answer) (next : Reply → Stage.Stage) → Line w s request wanted next → ReadPushes request none
line_quiet w _ _ _ _ (Stage.bury_bare c none_) = buries c
line_quiet w _ _ _ _ (Stage.start c h is) = starts c
line_quiet w _ _ _ _ (Stage.finish c) = oks c
line_quiet w _ _ _ _ (Stage.fail c h why) = fails c
line_quiet w _ _ _ _ (Stage.fail_unknown c h none_) = fails c
line_quiet w _ _ _ _ (Stage.retry c p why now score to) = retries _ p
line_quiet w _ _ _ _ (Stage.bury c p why now to) = buries p
line_quiet w _ _ _ _ (Stage.drop c why now) = drops c
line_quiet w _ _ _ _ (Stage.release c t) = releases (private_key w.ident) (codes "1") c

step_quiet : (w : Settings) (a b : Stage.Stage) (e : Event) → Step w a e b → EventQuiet e
step_quiet w a _ _ (Stage.asks _ request wanted next r line ok) = line_quiet w a request wanted next line
step_quiet w _ _ _ (Stage.runs c h o there) = tt
step_quiet w _ _ _ (Stage.chooses c h r moment_ word delay) = tt

job_quiet : (w : Settings) (c : Bytes) (events : List Event) (result : Result Turn WorkFault) → JobTranscript w (holding c) events result → AllByRecursion EventQuiet events
job_quiet w c events (Ok t) told = walk_all (Step w) EventQuiet (step_quiet w) (holding c) (over t) events told
job_quiet w c events (Err f) told = broken_quiet (Line w) (Step w) AtLimit (step_quiet w) (line_quiet w) (holding c) told.0 events f told.1

nulls_quiet : (w : Settings) (queues : List Bytes) → AllByRecursion EventQuiet (map (λ queue. call (fetch_words w.ident queue) reply.Null) queues)
nulls_quiet w [] = tt
nulls_quiet w (queue ∷ queues) = (fetches (queue_key queue) (private_key w.ident) (codes "RIGHT") (codes "LEFT"), nulls_quiet w queues)

turn_quiet : (w : Settings) (before : List Bytes) (events : List Event) (after_ : List Bytes) (result : Result Turn WorkFault) →
    TurnTranscript w before events after_ result → AllByRecursion EventQuiet events
turn_quiet w before events after_ _ (unfetched _ _ f told) =
    broken_quiet (FetchLine w) (FetchStep w) (λ _. ⊥) (fetch_step_quiet w) (fetch_quiet w) (fetch_start w before) told.0 events f told.1
turn_quiet w before events _ _ (empty _ form) = subst (AllByRecursion EventQuiet) (sym form.are) (tt, nulls_quiet w (queues_in w.order form.words))
turn_quiet w before _ after_ result (job first rest c others _ _ fetching working is) =
    all_append EventQuiet first rest (walk_all (FetchStep w) EventQuiet (fetch_step_quiet w) (fetch_start w before) (fetched (c ∷ others)) first fetching)
    (job_quiet w c rest result working)

-- ## A worker's stories

turns_quiet : (w : Settings) (OfRules : List Choice → Type 0) (a b : Drawing) (todo left : ℕ) (held : List Bytes) (turns : List (List Event)) →
    Turns w OfRules a todo held turns b left → AllByRecursion (AskTold none) (asks_of turns)
turns_quiet w OfRules a b _ _ held _ (all_taken _ _) = tt
turns_quiet w OfRules a b todo left held _ (whole _ mid _ _ next _ _ after_ events rest t more taken drawn later) =
    all_append (AskTold none) (asks_at moment (calls events)) (asks_of rest)
    (asks_quiet moment (calls events) (calls_quiet events (turn_quiet w held events after_ (Ok t) taken.told))) (turns_quiet w OfRules mid b next left after_ rest later)
turns_quiet w OfRules a b todo left held _ (broken _ _ _ _ _ after_ events f more taken drawn ends) =
    all_append (AskTold none) (asks_at moment (calls events)) []
    (asks_quiet moment (calls events) (calls_quiet events (turn_quiet w held events after_ (Err f) taken.told))) tt

quiet_ask : (now : ℕ) (request : List Bytes) (answer : Reply) → ReadPushes request none → AskTold none (answered_ask now request answer)
quiet_ask now request answer quiet = record { answered = refl; pushes = quiet }

story_quiet : (w : Settings) (OfRules : List Choice → Type 0) (c now : Crashes) (todo left : ℕ) (asks : List Ask) (marks : List ℕ) (rs : List Run) →
    StoryTold w OfRules c todo asks marks rs now left → AllByRecursion (AskTold none) asks
story_quiet w OfRules c _ todo left _ _ _ (unbeaten _ _ _ answer is unwanted fed) = (quiet_ask moment _ answer (beats w.ident), tt)
story_quiet w OfRules c _ todo left _ _ _ (unjoined _ _ _ beaten answer is okay unwanted fed) =
    (quiet_ask moment _ beaten (beats w.ident), (quiet_ask moment _ answer (joins w.ident), tt))
story_quiet w OfRules c _ todo left _ _ _ (turned _ _ _ beaten joined turns d okay too told) =
    (quiet_ask moment _ beaten (beats w.ident), (quiet_ask moment _ joined (joins w.ident), turns_quiet w OfRules _ d todo left [] turns told))

stories_quiet : (thread : ℕ) (w : Settings) (OfRules : List Choice → Type 0) (c : Crashes) (todo last : ℕ) (stories : List Story) (rs : List Run) (seats_ended : List PastSeat) →
    Stories thread w OfRules c todo last stories rs seats_ended → AllByRecursion (StoryAsks none) stories
stories_quiet thread w OfRules c _ last _ _ _ (all_told _ _) = tt
stories_quiet thread w OfRules c todo last _ _ _ (one_more _ now _ left _ story rest rs more told_calls seats_ended is later told same on) = (
  asks_told none story.asks.items (story_quiet w OfRules c now todo left story.asks.items story.marks.items rs told),
  stories_quiet thread w OfRules now left story.seat rest more seats_ended on,
)

-- ## The poller's turns

-- a call is answered, and pushes nothing
abbrev PollQuiet : PollEvent → Type 0
PollQuiet (poll_asked call) = IsQuiet call × IsOk call.reply
PollQuiet (read now) = Unit {0}
PollQuiet (slot last) = Unit {0}
PollQuiet (drew first second) = Unit {0}

poll_calls_quiet : (events : List PollEvent) → AllByRecursion PollQuiet events → AllByRecursion (λ call. IsQuiet call × IsOk call.reply) (poll_calls events)
poll_calls_quiet [] p = tt
poll_calls_quiet (poll_asked call ∷ events) p = (p.0, poll_calls_quiet events p.1)
poll_calls_quiet (read now ∷ events) p = poll_calls_quiet events p.1
poll_calls_quiet (slot last ∷ events) p = poll_calls_quiet events p.1
poll_calls_quiet (drew first second ∷ events) p = poll_calls_quiet events p.1

-- A stage behind the reading of the clock, at which no loop is at hand, by its request and by how many events may follow it, without a loop and with one.
-- The request pushes nothing.
pub record UnderWay (request : Option (List Bytes)) (least most : ℕ) : Type 0 where
  pub quiet : IfSome request (λ r. ReadPushes r none)
  pub begun : least ≤ 5
  pub no_loop : (most ≡ least + 3) ⊎ (least ≡ 0)

quiet_request : (found : Option (List Bytes)) (request : List Bytes) → IfSome found (λ r. ReadPushes r none) → found ≡ Some request → ReadPushes request none
quiet_request found request quiet e = subst (λ o. IfSome o (λ r. ReadPushes r none)) e quiet

has_no_loop : (least most : ℕ) → (most ≡ least + 3) ⊎ (least ≡ 0) → most ≡ least → 0 < least → ⊥
has_no_loop least most (inl e) same some = absurd (omega (arith, e, same))
has_no_loop least most (inr e) same some = absurd (omega (arith, e, some))

-- where a reply leads
led : (from to : _) (r : Reply) → UnderWay (request_at watch.ident from) (events_left 0 from) (events_left 1 from) → Leads watch from r to →
    UnderWay (request_at watch.ident to) (events_left 0 to) (events_left 1 to)
led _ _ _ on (to_schedule now r okay) = record { quiet = dues (codes "schedule") _; begun = omega arith; no_loop = inl (omega arith) }
led _ _ _ on (to_retries now n r report is) = record { quiet = dues (codes "retry") _; begun = omega arith; no_loop = inl (omega arith) }
led _ _ _ on (to_rescue now n r report is) = record { quiet = rescues; begun = omega arith; no_loop = inl (omega arith) }
led _ _ _ on (to_lead now n r report is) = record { quiet = leads watch.ident; begun = omega arith; no_loop = inl (omega arith) }
led _ _ _ on (to_loops now n r is) = record { quiet = tt; begun = omega arith; no_loop = inr (omega arith) }
led _ _ _ on (to_end now n r is) = record { quiet = tt; begun = omega arith; no_loop = inr (omega arith) }
led _ _ _ on (pushed now last job_ loops n r is) = absurd (has_no_loop _ _ on.no_loop (omega arith) (omega arith))
led _ _ _ on (passed now last job_ loops n r is is') = absurd (has_no_loop _ _ on.no_loop (omega arith) (omega arith))

-- Events of a turn that is under way: they push nothing, and the clock isn't read.
pub record PollOn (events : List PollEvent) (request : Option (List Bytes)) (least most : ℕ) : Type 0 where
  pub quiet : AllByRecursion PollQuiet events
  pub unread : moments events ≡ []
  pub on : UnderWay request least most

-- the same of one event
pub record StepOn (event : PollEvent) (request : Option (List Bytes)) (least most : ℕ) : Type 0 where
  pub quiet : PollQuiet event
  pub unread : (events : List PollEvent) → moments (event ∷ events) ≡ moments events
  pub on : UnderWay request least most

step_on : (from to : _) (event : PollEvent) → UnderWay (request_at watch.ident from) (events_left 0 from) (events_left 1 from) → PollStep watch from event to →
    StepOn event (request_at watch.ident to) (events_left 0 to) (events_left 1 to)
step_on _ _ _ on (reads now) = absurd (omega (arith, on.begun))
step_on from to _ on (poll_asks _ _ request r asks leads_to) = record {
  quiet = (quiet_request _ request on.quiet asks, refl);
  unread = λ events. refl;
  on = led from to r on (leads_on watch from to r leads_to);
}
step_on _ _ _ on (looks now loops n last is) = absurd (has_no_loop _ _ on.no_loop (omega arith) (omega arith))
step_on _ _ _ on (draws now last loops n first second) = absurd (has_no_loop _ _ on.no_loop (omega arith) (omega arith))

poll_on : (from to : _) (events : List PollEvent) → UnderWay (request_at watch.ident from) (events_left 0 from) (events_left 1 from) → Walk (PollStep watch) from events to →
    PollOn events (request_at watch.ident to) (events_left 0 to) (events_left 1 to)
poll_on from to [] on p = record { quiet = tt; unread = refl; on = subst (λ s. UnderWay (request_at watch.ident s) (events_left 0 s) (events_left 1 s)) (sym p) on }
poll_on from to (e ∷ es) on p =
    let first = step_on from p.0 e on p.1 in
    let rest = poll_on p.0 to es first.on p.2 in
    record { quiet = (first.quiet, rest.quiet); unread = first.unread es ∙ rest.unread; on = rest.on }

-- Those of a turn: they push nothing, and the clock is read once.
pub record PollBegan (events : List PollEvent) (request : Option (List Bytes)) (least most : ℕ) : Type 0 where
  pub now : ℕ
  pub quiet : AllByRecursion PollQuiet events
  pub read_once : moments events ≡ now ∷ []
  pub on : UnderWay request least most

poll_began : (to : _) (events : List PollEvent) → (to ≡ resting → ⊥) → Walk (PollStep watch) resting events to →
    PollBegan events (request_at watch.ident to) (events_left 0 to) (events_left 1 to)
poll_began to [] moved p = absurd (moved p)
poll_began to (e ∷ es) moved p = by_step p.0 e p.1 p.2 where
  by_step : (b : _) (event : PollEvent) → PollStep watch resting event b → Walk (PollStep watch) b es to →
      PollBegan (event ∷ es) (request_at watch.ident to) (events_left 0 to) (events_left 1 to)
  by_step b _ (reads now) more =
      let rest = poll_on b to es (record { quiet = beats watch.ident; begun = omega arith; no_loop = inl (omega arith) }) more in
      record { now = now; quiet = (tt, rest.quiet); read_once = ap (λ ms. now ∷ ms) rest.unread; on = rest.on }
  by_step b _ (poll_asks _ _ request r none_ leads_to) more = let e : None ≡ Some request = none_ in absurd (cc e)

moments-asked : (done : List PollEvent) (call : Call) → moments (done ++ poll_asked call ∷ []) ≡ moments done
moments-asked [] call = refl
moments-asked (read now ∷ done) call = ap (λ ms. now ∷ ms) (moments-asked done call)
moments-asked (poll_asked other ∷ done) call = moments-asked done call
moments-asked (slot last ∷ done) call = moments-asked done call
moments-asked (drew first second ∷ done) call = moments-asked done call

-- A turn behind which the poller goes on reads its clock once, and pushes nothing.
pub record PollTold (events : List PollEvent) : Type 0 where
  pub now : ℕ
  pub quiet : AllByRecursion PollQuiet events
  pub read_once : moments events ≡ now ∷ []

pub poll_answered : (events : List PollEvent) → PollTold events → AllByRecursion (λ call. IsOk call.reply) (poll_calls events)
poll_answered events told = all_weaker _ (λ call. IsOk call.reply) (λ call both. both.1) (poll_calls events) (poll_calls_quiet events told.quiet)

pub poll_told : (events : List PollEvent) (result : Result PollReport PollFault) → GoesOn result → PollTranscript watch resting events result → PollTold events
poll_told events (Ok n) on told =
    let turn = poll_began _ events (λ e. cc e) told in
    record { now = turn.now; quiet = turn.quiet; read_once = turn.read_once }
poll_told events (Err (poll_fault.Refused r)) on told =
    let turn = poll_began told.stage told.done (λ is. (let e : None ≡ Some told.request = sym (ap (λ s. request_at watch.ident s) is) ∙ told.asks_it in cc e)) told.walk in
    let last : Call = record { request = told.request; reply = Ok r } in
    record {
      now = turn.now;
      quiet = subst (AllByRecursion PollQuiet) (sym told.are) (all_append PollQuiet told.done _ turn.quiet ((quiet_request _ told.request turn.on.quiet told.asks_it, refl), tt));
      read_once = ap (λ es. moments es) told.are ∙ moments-asked told.done last ∙ turn.read_once;
    }
poll_told events (Err (poll_fault.Link f)) on told = absurd on
poll_told events (Err poll_fault.Memory) on told = absurd on

answered_quiet : (request : List Bytes) (came : Result Reply LinkFault) (later : List Exchange) → ReadPushes request none → AllByRecursion (IsTold none) later →
    AllByRecursion (IsTold none) (with_answer request came later)
answered_quiet request (Ok answer) later quiet rest = (record { answered = refl; pushes = quiet }, rest)
answered_quiet request (Err f) later quiet rest = rest

exchanges_quiet : (cs : List Call) → AllByRecursion IsQuiet cs → AllByRecursion (IsTold none) (exchanges cs)
exchanges_quiet [] p = tt
exchanges_quiet (call ∷ cs) p = answered_quiet call.request call.reply (exchanges cs) p.0 (exchanges_quiet cs p.1)

polls_quiet : (turns : List (List PollEvent)) → AllByRecursion IsPoll turns → AllByRecursion (IsTold none) (turns_asks turns)
polls_quiet [] p = tt
polls_quiet (turn ∷ turns) p = all_append (IsTold none) (turn_asks turn) (turns_asks turns)
    (exchanges_quiet (poll_calls turn) (all_weaker _ IsQuiet (λ call both. both.0) (poll_calls turn) (poll_calls_quiet turn (poll_told turn p.0.result_is p.0.goes_on p.0.told).quiet))) (polls_quiet turns p.1)

-- ## Pushes

pushes_told : (k : ℕ) (answers : List Reply) → AllByRecursion (IsTold one) (pushes_from k answers)
pushes_told k [] = tt
pushes_told k (answer ∷ answers) = (record { answered = refl; pushes = job_pushed _ }, pushes_told (k + 1) answers)

-- ## All of a drill's threads

module _ {Job Rule : Type 0} {OfJob : Job → Type 0} {OfRule : Rule → Type 0} {Delays : Mut ((rule : Rule) × OfRule rule) (ℕ × Unit {0}) ℕ} where
  lane_quiet : (runs : (job : Job) × OfJob job → Option (List Run)) (plan : Plan) (n : ℕ) (rule : DelayRule Rule OfRule Delays)
      (team team_now : Registry Job Rule OfJob OfRule Delays) (stories : List Story) → HasWorked runs (task_of plan n) rule team team_now stories → AllByRecursion (StoryAsks none) stories
  lane_quiet runs plan n rule team team_now stories h = stories_quiet _ _ _ _ _ _ stories h.2.runs h.2.seats_ended h.2.told

  lanes_quiet : (runs : (job : Job) × OfJob job → Option (List Run)) (plan : Plan) (n : ℕ) (rules : List (DelayRule Rule OfRule Delays))
      (teams teams_now : List (Registry Job Rule OfJob OfRule Delays)) (lanes : List (List Story)) → length lanes ≤ length teams_now →
      Assigned (λ k team rule lane. HasWorked runs (task_of plan k) rule team lane.0 lane.1) n teams rules (zip teams_now lanes) →
      AllByRecursion (AllByRecursion (StoryAsks none)) lanes
  lanes_quiet runs plan n rules teams teams_now [] few h = tt
  lanes_quiet runs plan n rules teams [] (lane ∷ lanes) few h = absurd (omega (arith, few))
  lanes_quiet runs plan n rules [] (now ∷ teams_now) (lane ∷ lanes) few h = absurd h
  lanes_quiet runs plan n [] (team ∷ teams) (now ∷ teams_now) (lane ∷ lanes) few h = absurd h
  lanes_quiet runs plan n (rule ∷ rules) (team ∷ teams) (now ∷ teams_now) (lane ∷ lanes) few h =
      (lane_quiet runs plan n rule team now lane h.0, lanes_quiet runs plan (n + 1) rules teams teams_now lanes (omega (arith, few)) h.1)

  -- The thread that pushes pushes a job by each ask, and the others push nothing.
  pub all_asks : (runs : (job : Job) × OfJob job → Option (List Run)) (plan : Plan) (workers : ℕ) (rules : List (DelayRule Rule OfRule Delays))
      (teams teams_now : List (Registry Job Rule OfJob OfRule Delays)) (stories : List Story) (s : AreStories runs plan workers rules teams teams_now stories) →
      workers ≤ length teams_now → StoryAsks one s.pushing × AllByRecursion (StoryAsks none) (s.polling ∷ flat_map (λ lane. lane) s.lanes)
  all_asks runs plan workers rules teams teams_now stories s few = (
    subst (AllByRecursion (IsTold one)) (sym s.pushed.pushed.are) (pushes_told 1 s.pushed.pushed.answers),
    (
      subst (AllByRecursion (IsTold none)) (sym s.polled.polled.are) (polls_quiet s.polled.polled.turns s.polled.polled.polls),
      all_in (StoryAsks none) s.lanes (lanes_quiet runs plan 1 rules teams teams_now s.lanes (omega (arith, few, s.count)) s.worked),
    ),
  )

  -- All stories' asks have their replies.
  pub all_answered : (runs : (job : Job) × OfJob job → Option (List Run)) (plan : Plan) (workers : ℕ) (rules : List (DelayRule Rule OfRule Delays))
      (teams teams_now : List (Registry Job Rule OfJob OfRule Delays)) (stories : List Story) → AreStories runs plan workers rules teams teams_now stories →
      workers ≤ length teams_now → AllByRecursion IsAnswered stories
  all_answered runs plan workers rules teams teams_now stories s few =
      let all = all_asks runs plan workers rules teams teams_now stories s few in
      let has_reply : Exchange → Type 0 = λ x. IsSome x.reply in
      subst (AllByRecursion IsAnswered) (sym s.are) (
        all_weaker (IsTold one) has_reply (λ x p. p.answered) (map exchange_of s.pushing.asks.items) all.0,
        all_weaker (StoryAsks none) IsAnswered (λ story p. all_weaker (IsTold none) has_reply (λ x q. q.answered) (map exchange_of story.asks.items) p)
            (s.polling ∷ flat_map (λ lane. lane) s.lanes) all.1,
      )

  -- as many teams come back
  pub teams_len : (workers : ℕ) (teams teams_now : List (Registry Job Rule OfJob OfRule Delays)) → classes_of teams_now ≡ classes_of teams → workers ≤ length teams → workers ≤ length teams_now
  teams_len workers teams teams_now same few =
      omega (arith, few, ap (λ l. length l) same, length-map teams (λ team. team.classes), length-map teams_now (λ team. team.classes))
