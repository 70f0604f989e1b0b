-- The jobs that ran are those whose start was answered `+OK`, in order.
use Rattle.std.proofs.Common.{◌≡◌, ◌≢◌, ◌∷◌, ◌++◌, ◌==◌, [], List, ℕ, Bool, true, false, cond, map, filter, Option, Some, None, is_some, unwrap_or, option_map, if◌then◌else◌, Result, Ok, Err, refl, sym, ap, ◌∙◌, append-nil, append_assoc}
use Rattle.std.specs.List.{cons_option}
use Rattle.std.proofs.lemmas.List.{map-append}
use Rattle.std.proofs.lemmas.List.Elements.{filter-append, filter_map-append}
use Rattle.sk_resp.specs.Reply.{wire}
use Rattle.sk_resp.specs.Spelling.{Bytes}
use Rattle.sk_resp.specs.declared.reply.Reply.{Reply}
use Rattle.sk_resp.specs.declared.reply.Reply.TheVariants as reply
use Rattle.sk_payload.specs.Head.{head}
use Rattle.sk_payload.specs.declared.head.Head.{Head}
use Rattle.sk_policy.specs.Order.{queues_in}
use Rattle.sk_link.specs.Asking.{answers, is_okay}
use Rattle.sk_link.specs.Call.{Call, answered}
use Rattle.sk_link.specs.Walk.{Walk}
use Rattle.sk_link.specs.declared.asking.Answer.{Answer}
use Rattle.sk_worker.specs.Broken.{Broken}
use Rattle.sk_worker.specs.Event.{Event, Choice, asked, calls, chose, ordered, ran, runs}
use Rattle.sk_worker.specs.Fetching.{FetchLine, FetchStage, FetchStep, fetch, fetch_start, fetched, fetches, orders}
use Rattle.sk_worker.specs.Forms.{call}
use Rattle.sk_worker.specs.Request.{fetch_words, join_words}
use Rattle.sk_worker.specs.Run.{Run, place_of, runs_at}
use Rattle.sk_worker.specs.Stage
use Rattle.sk_worker.specs.Stage.{AtLimit, JobTranscript, Line, Settings, Stage, Step, asks as asked_line, chooses, ended, holding, over, started as start_stage, returned, raised, failed, decided, releasing}
use Rattle.sk_worker.specs.Turn.{TurnTranscript, empty, job, unfetched}
use Rattle.sk_worker.specs.declared.job.Outcome.{Outcome}
use Rattle.sk_worker.specs.declared.job.Outcome.TheVariants as outcome
use Rattle.sk_worker.specs.declared.turn.Turn.{Turn}
use Rattle.sk_worker.specs.declared.turn.WorkFault.{WorkFault}
use Rattle.sk_worker.specs.declared.turn.WorkFault.TheVariants as fault
use Rattle.sk_worker.proofs.Events.{calls-append}
use Rattle.sk_desk.specs.declared.entry.Ask.{Ask}
use Rattle.sk_lane.specs.Asks.{answered_ask, asks_at, is_ok_text, start_head, started, starts, with_ask}
use Rattle.sk_lane.specs.Drawing.{in_turn}
use Rattle.sk_lane.specs.Lane.{asks_in, heads_at}
use Rattle.sk_lane.specs.Story.{Stories, StoryTold, all_told, beat_words, join, one_more, turned, unbeaten, unjoined}
use Rattle.sk_lane.specs.Turns.{EndsStory, Turns, all_taken, asks_of, broken, moment, runs_of, whole}
use Rattle.sk_lane.specs.declared.crashes.Crashes.{Crashes}
use Rattle.sk_lane.specs.declared.crashes.Drawing.{Drawing}
use Rattle.sk_lane.specs.declared.past_seat.PastSeat.{PastSeat}
use Rattle.sk_lane.specs.declared.story.Story.{Story}
use Rattle.sk_lane.proofs.Okay.{okay_wire}

-- ## Lists of heads

-- its class has a job
abbrev has_job : List Bytes → Head → Bool
has_job classes h = is_some (place_of classes h.class)

-- the heads of the runs
abbrev ran_heads : List Run → List Head
ran_heads rs = map (λ run. run.head) rs

-- the heads of the jobs that were started and have a job of their class
abbrev started_heads : List Bytes → List Ask → List Head
started_heads classes asks = filter (has_job classes) (starts asks)

abbrev ran_in : List Event → List Head
ran_in events = ran_heads (runs events)

abbrev started_in : List Bytes → List Event → List Head
started_in classes events = started_heads classes (asks_at moment (calls events))

started-append : (classes : List Bytes) (xs ys : List Ask) → started_heads classes (xs ++ ys) ≡ started_heads classes xs ++ started_heads classes ys
started-append classes xs ys = ap (λ hs. filter (has_job classes) hs) (filter_map-append started xs ys) ∙ filter-append (has_job classes) (starts xs) (starts ys)

with_more : (now : ℕ) (call : Call) (xs ys : List Ask) → with_ask now call.request call.reply (xs ++ ys) ≡ with_ask now call.request call.reply xs ++ ys
with_more now call xs ys = by_reply call.reply
  where
    by_reply : (came : _) → with_ask now call.request came (xs ++ ys) ≡ with_ask now call.request came xs ++ ys
    by_reply (Ok answer) = refl
    by_reply (Err f) = refl

asks-append : (now : ℕ) (xs ys : List Call) → asks_at now (xs ++ ys) ≡ asks_at now xs ++ asks_at now ys
asks-append now [] ys = refl
asks-append now (x ∷ xs) ys = ap (λ l. with_ask now x.request x.reply l) (asks-append now xs ys) ∙ with_more now x (asks_at now xs) (asks_at now ys)

runs-append : (xs ys : List Event) → runs (xs ++ ys) ≡ runs xs ++ runs ys
runs-append [] ys = refl
runs-append (ordered drawn ∷ xs) ys = runs-append xs ys
runs-append (asked call ∷ xs) ys = runs-append xs ys
runs-append (ran run ∷ xs) ys = ap (λ rs. run ∷ rs) (runs-append xs ys)
runs-append (chose choice ∷ xs) ys = runs-append xs ys

ran_in-append : (xs ys : List Event) → ran_in (xs ++ ys) ≡ ran_in xs ++ ran_in ys
ran_in-append xs ys = ap (λ rs. ran_heads rs) (runs-append xs ys) ∙ map-append (λ (run : Run). run.head) (runs xs) (runs ys)

started_in-append : (classes : List Bytes) (xs ys : List Event) → started_in classes (xs ++ ys) ≡ started_in classes xs ++ started_in classes ys
started_in-append classes xs ys = ap (λ cs. started_heads classes (asks_at moment cs)) (calls-append xs ys)
    ∙ (ap (λ l. started_heads classes l) (asks-append moment (calls xs) (calls ys)) ∙ started-append classes (asks_at moment (calls xs)) (asks_at moment (calls ys)))

-- ## One ask

either_none : (b : Bool) (x : Option Head) → x ≡ None → (if b then x else None) ≡ None
either_none true x e = e
either_none false x e = refl

-- A request that is no start starts nothing.
quiet : (classes : List Bytes) (request : List Bytes) (r : Reply) → start_head request ≡ None → started_in classes (asked (answered request r) ∷ []) ≡ []
quiet classes request r e = ap (λ o. filter (has_job classes) (cons_option o [])) (either_none (is_ok_text (wire r)) (start_head request) e)

by_text : (r : Reply) (b : Bool) (x : Option Head) → is_okay r ≡ b → (if is_ok_text (wire r) then x else None) ≡ (if b then x else None)
by_text r b x e = ap (λ t. if t then x else None) (okay_wire r ∙ e)

-- ## A walk

-- what is started and waits for its run
abbrev pending : List Bytes → Stage → List Head
pending classes (start_stage c h) = filter (has_job classes) (h ∷ [])
pending classes stage = []

walk_starts : {S : Type 0} (Step : S → Event → S → Type 0) (waits : S → List Head) (classes : List Bytes) →
    ((a b : S) (e : Event) → Step a e b → ran_in (e ∷ []) ++ waits b ≡ waits a ++ started_in classes (e ∷ [])) →
    (from to : S) (events : List Event) → Walk Step from events to → ran_in events ++ waits to ≡ waits from ++ started_in classes events
walk_starts Step waits classes one from to [] p = ap waits p ∙ sym (append-nil (waits from))
walk_starts Step waits classes one from to (e ∷ es) p =
    ap (λ l. l ++ waits to) (ran_in-append (e ∷ []) es) ∙ (append_assoc (ran_in (e ∷ [])) (ran_in es) (waits to)
    ∙ (ap (λ l. ran_in (e ∷ []) ++ l) (walk_starts Step waits classes one p.0 to es p.2) ∙ (sym (append_assoc (ran_in (e ∷ [])) (waits p.0) (started_in classes es))
    ∙ (ap (λ l. l ++ started_in classes es) (one from p.0 e p.1) ∙ (append_assoc (waits from) (started_in classes (e ∷ [])) (started_in classes es)
    ∙ ap (λ l. waits from ++ l) (sym (started_in-append classes (e ∷ []) es)))))))

-- one event behind those of a walk, at a stage where nothing waits
one_behind : {S : Type 0} (waits : S → List Head) (classes : List Bytes) (from stage : S) (events done : List Event) (e : Event) →
    ran_in done ++ waits stage ≡ waits from ++ started_in classes done → waits stage ≡ [] → ran_in (e ∷ []) ≡ [] → started_in classes (e ∷ []) ≡ [] →
    events ≡ done ++ e ∷ [] → ran_in events ≡ waits from ++ started_in classes events
one_behind waits classes from stage events done e walk none no_run no_start are =
    ap (λ es. ran_in es) are ∙ (ran_in-append done (e ∷ []) ∙ (ap (λ l. ran_in done ++ l) (no_run ∙ sym none) ∙ (walk
    ∙ ap (λ l. waits from ++ l) (sym (ap (λ es. started_in classes es) are ∙ (started_in-append classes done (e ∷ [])
    ∙ (ap (λ l. started_in classes done ++ l) no_start ∙ append-nil (started_in classes done))))))))

broken_starts : {S : Type 0} (Line : S → List Bytes → Answer → (Reply → S) → Type 0) (Step : S → Event → S → Type 0) (Limit : S → Type 0)
    (waits : S → List Head) (classes : List Bytes) →
    ((a b : S) (e : Event) → Step a e b → ran_in (e ∷ []) ++ waits b ≡ waits a ++ started_in classes (e ∷ [])) →
    ((s : S) (request : List Bytes) (wanted : Answer) (next : Reply → S) → Line s request wanted next → waits s ≡ []) →
    ((s : S) (request : List Bytes) (wanted : Answer) (next : Reply → S) (r : Reply) → Line s request wanted next → answers wanted r ≡ false →
    started_in classes (asked (answered request r) ∷ []) ≡ []) → ((s : S) → Limit s → waits s ≡ []) →
    (from stage : S) (events : List Event) (f : WorkFault) → Broken Line Step Limit from events stage f → f ≢ fault.Memory →
    ran_in events ≡ waits from ++ started_in classes events
broken_starts Line Step Limit waits classes one rest unwanted limit from stage events (fault.Link l) u fed =
    one_behind waits classes from stage events u.done (asked (record { request = u.request; reply = Err l })) (walk_starts Step waits classes one from stage u.done u.walk)
    (rest stage u.request u.wanted u.next u.line) refl refl u.are
broken_starts Line Step Limit waits classes one rest unwanted limit from stage events (fault.Refused r) u fed =
    one_behind waits classes from stage events u.done (asked (record { request = u.request; reply = Ok r })) (walk_starts Step waits classes one from stage u.done u.walk)
    (rest stage u.request u.wanted u.next u.line) refl (unwanted stage u.request u.wanted u.next r u.line u.unwanted) u.are
broken_starts Line Step Limit waits classes one rest unwanted limit from stage events fault.GenLimit u fed =
    sym (ap (λ l. ran_in events ++ l) (limit stage u.1) ∙ append-nil (ran_in events)) ∙ walk_starts Step waits classes one from stage events u.0
broken_starts Line Step Limit waits classes one rest unwanted limit from stage events fault.Ended u fed = absurd u
broken_starts Line Step Limit waits classes one rest unwanted limit from stage events fault.Memory u fed = absurd (fed refl)

-- ## Fetching

fetch_one : (w : Settings) (a b : FetchStage) (e : Event) → FetchStep w a e b → ran_in (e ∷ []) ++ [] ≡ [] ++ started_in w.classes (e ∷ [])
fetch_one w a b _ (orders words payloads drawn) = refl
fetch_one w a b _ (fetches from request wanted next r (fetch queue queues payloads) ok) = sym (quiet w.classes (fetch_words w.ident queue) r refl)

fetch_no : (w : Settings) (s : FetchStage) (request : List Bytes) (wanted : Answer) (next : Reply → FetchStage) (r : Reply) → FetchLine w s request wanted next →
    answers wanted r ≡ false → started_in w.classes (asked (answered request r) ∷ []) ≡ []
fetch_no w s _ wanted next r (fetch queue queues payloads) unwanted = quiet w.classes (fetch_words w.ident queue) r refl

-- ## One job

-- the lines of requests that are no start
job_line : (w : Settings) (a : Stage) (request : List Bytes) (wanted : Answer) (next : Reply → Stage) (r : Reply) → Line w a request wanted next → answers wanted r ≡ true →
    pending w.classes (next r) ≡ pending w.classes a ++ started_in w.classes (asked (answered request r) ∷ [])
job_line w _ request _ _ r (Stage.bury_bare c none) ok = sym (quiet w.classes request r refl)
job_line w _ request _ _ r (Stage.start c h is) ok = sym (ap (λ o. filter (has_job w.classes) (cons_option o [])) (by_text r true (head c) ok ∙ is))
job_line w _ request _ _ r (Stage.finish c) ok = sym (quiet w.classes request r refl)
job_line w _ request _ _ r (Stage.fail c h why) ok = sym (quiet w.classes request r refl)
job_line w _ request _ _ r (Stage.fail_unknown c h none) ok =
    sym (ap (λ l. l ++ started_in w.classes (asked (answered request r) ∷ [])) (ap (λ o. cond (is_some o) (h ∷ []) []) none) ∙ quiet w.classes request r refl)
job_line w _ request _ _ r (Stage.retry c p why now score to) ok = sym (quiet w.classes request r refl)
job_line w _ request _ _ r (Stage.bury c p why now to) ok = sym (quiet w.classes request r refl)
job_line w _ request _ _ r (Stage.drop c why now) ok = sym (quiet w.classes request r refl)
job_line w _ request _ _ r (Stage.release c t) ok = sym (quiet w.classes request r refl)

job_no : (w : Settings) (a : Stage) (request : List Bytes) (wanted : Answer) (next : Reply → Stage) (r : Reply) → Line w a request wanted next → answers wanted r ≡ false →
    started_in w.classes (asked (answered request r) ∷ []) ≡ []
job_no w _ request _ _ r (Stage.bury_bare c none) unwanted = quiet w.classes request r refl
job_no w _ request _ _ r (Stage.start c h is) unwanted = ap (λ o. filter (has_job w.classes) (cons_option o [])) (by_text r false (head c) unwanted)
job_no w _ request _ _ r (Stage.finish c) unwanted = quiet w.classes request r refl
job_no w _ request _ _ r (Stage.fail c h why) unwanted = quiet w.classes request r refl
job_no w _ request _ _ r (Stage.fail_unknown c h none) unwanted = quiet w.classes request r refl
job_no w _ request _ _ r (Stage.retry c p why now score to) unwanted = quiet w.classes request r refl
job_no w _ request _ _ r (Stage.bury c p why now to) unwanted = quiet w.classes request r refl
job_no w _ request _ _ r (Stage.drop c why now) unwanted = quiet w.classes request r refl
job_no w _ request _ _ r (Stage.release c t) unwanted = quiet w.classes request r refl

job_rest : (w : Settings) (a : Stage) (request : List Bytes) (wanted : Answer) (next : Reply → Stage) → Line w a request wanted next → pending w.classes a ≡ []
job_rest w _ _ _ _ (Stage.bury_bare c none) = refl
job_rest w _ _ _ _ (Stage.start c h is) = refl
job_rest w _ _ _ _ (Stage.finish c) = refl
job_rest w _ _ _ _ (Stage.fail c h why) = refl
job_rest w _ _ _ _ (Stage.fail_unknown c h none) = ap (λ o. cond (is_some o) (h ∷ []) []) none
job_rest w _ _ _ _ (Stage.retry c p why now score to) = refl
job_rest w _ _ _ _ (Stage.bury c p why now to) = refl
job_rest w _ _ _ _ (Stage.drop c why now) = refl
job_rest w _ _ _ _ (Stage.release c t) = refl

ended_none : (classes : List Bytes) (c : Bytes) (h : Head) (o : Outcome) → pending classes (ended c h o) ≡ []
ended_none classes c h outcome.Returned = refl
ended_none classes c h (outcome.Raised r) = refl

job_one : (w : Settings) (a b : Stage) (e : Event) → Step w a e b → ran_in (e ∷ []) ++ pending w.classes b ≡ pending w.classes a ++ started_in w.classes (e ∷ [])
job_one w a _ _ (asked_line _ request wanted next r line ok) = job_line w a request wanted next r line ok
job_one w _ _ _ (Stage.runs c h o there) = ap (λ l. h ∷ l) (ended_none w.classes c h o)
    ∙ sym (ap (λ b. cond b (h ∷ []) [] ++ []) there)
job_one w _ _ _ (chooses c h r moment word delay) = refl

at_limit : (w : Settings) (s : Stage) → AtLimit s → pending w.classes s ≡ []
at_limit w (holding c) l = absurd l
at_limit w (start_stage c h) l = absurd l
at_limit w (returned c) l = absurd l
at_limit w (raised c h r) l = absurd l
at_limit w (failed c h r) l = absurd l
at_limit w (decided c r now d) l = refl
at_limit w (releasing c t) l = absurd l
at_limit w (over t) l = absurd l

job_starts : (w : Settings) (c : Bytes) (events : List Event) (result : Result Turn WorkFault) → JobTranscript w (holding c) events result → result ≢ Err fault.Memory →
    ran_in events ≡ started_in w.classes events
job_starts w c events (Ok t) told fed = sym (append-nil (ran_in events)) ∙ walk_starts (Step w) (pending w.classes) w.classes (job_one w) (holding c) (over t) events told
job_starts w c events (Err f) told fed = broken_starts (Line w) (Step w) AtLimit (pending w.classes) w.classes (job_one w) (job_rest w) (job_no w) (at_limit w)
    (holding c) told.0 events f told.1 (λ e. fed (ap (λ g. Err g) e))

-- ## A turn

nulls_quiet : (w : Settings) (queues : List Bytes) →
    (ran_in (map (λ queue. call (fetch_words w.ident queue) reply.Null) queues) ≡ []) × (started_in w.classes (map (λ queue. call (fetch_words w.ident queue) reply.Null) queues) ≡ [])
nulls_quiet w [] = (refl, refl)
nulls_quiet w (queue ∷ queues) = nulls_quiet w queues

pub turn_starts : (w : Settings) (before : List Bytes) (events : List Event) (after : List Bytes) (result : Result Turn WorkFault) →
    TurnTranscript w before events after result → result ≢ Err fault.Memory → ran_in events ≡ started_in w.classes events
turn_starts w before events after _ (unfetched _ _ f told) fed = broken_starts (FetchLine w) (FetchStep w) (λ _. ⊥) (λ _. []) w.classes (fetch_one w)
    (λ s request wanted next line. refl) (fetch_no w) (λ s none. absurd none) (fetch_start w before) told.0 events f told.1 (λ e. fed (ap (λ g. Err g) e))
turn_starts w before events _ _ (empty _ form) fed =
    let nulls = nulls_quiet w (queues_in w.order form.words) in
    ap (λ es. ran_in es) form.are ∙ (nulls.0 ∙ sym (ap (λ es. started_in w.classes es) form.are ∙ nulls.1))
turn_starts w before _ after result (job first rest c others _ _ fetching working is) fed =
    let front = walk_starts (FetchStep w) (λ _. []) w.classes (fetch_one w) (fetch_start w before) (fetched (c ∷ others)) first fetching in
    ran_in-append first rest ∙ (ap (λ l. l ++ ran_in rest) (sym (append-nil (ran_in first)) ∙ front)
    ∙ (ap (λ l. started_in w.classes first ++ l) (job_starts w c rest result working fed) ∙ sym (started_in-append w.classes first rest)))

-- ## Turns and stories

no_memory : (f : WorkFault) (d : Drawing) → EndsStory f d → ◌≢◌ {A = Result Turn WorkFault} (Err f) (Err fault.Memory)
no_memory (fault.Link l) d ends e = cc e
no_memory (fault.Refused r) d ends e = cc e
no_memory fault.GenLimit d ends e = cc e
no_memory fault.Ended d ends e = cc e
no_memory fault.Memory d ends e = ends

went_well : (t : Turn) → ◌≢◌ {A = Result Turn WorkFault} (Ok t) (Err fault.Memory)
went_well t e = cc e

-- one turn, and those behind it
turns_more : (classes : List Bytes) (events : List Event) (rest : List (List Event)) → ran_in events ≡ started_in classes events →
    ran_heads (runs_of rest) ≡ started_heads classes (asks_of rest) → ran_heads (runs_of (events ∷ rest)) ≡ started_heads classes (asks_of (events ∷ rest))
turns_more classes events rest one more = map-append (λ (run : Run). run.head) (runs events) (runs_of rest) ∙ (ap (λ l. l ++ ran_heads (runs_of rest)) one
    ∙ (ap (λ l. started_in classes events ++ l) more ∙ sym (started-append classes (asks_at moment (calls events)) (asks_of rest))))

turns_starts : (w : Settings) (OfRules : List Choice → Type 0) (a b : Drawing) (todo left : ℕ) (held : List Bytes) (turns : List (List Event)) → Turns w OfRules a todo held turns b left →
    ran_heads (runs_of turns) ≡ started_heads w.classes (asks_of turns)
turns_starts w OfRules a b _ _ held _ (all_taken _ _) = refl
turns_starts w OfRules a b todo left held _ (whole _ mid _ _ next _ _ after events rest t one taken drawn more) =
    turns_more w.classes events rest (turn_starts w held events after (Ok t) taken.told (went_well t)) (turns_starts w OfRules mid b next left after rest more)
turns_starts w OfRules a b todo left held _ (broken _ _ _ _ _ after events f one taken drawn ends) =
    turns_more w.classes events [] (turn_starts w held events after (Err f) taken.told (no_memory f b ends)) refl

one_ask : (classes : List Bytes) (request : List Bytes) (r : Reply) (asks : List Ask) → start_head request ≡ None →
    started_heads classes (answered_ask moment request r ∷ asks) ≡ started_heads classes asks
one_ask classes request r asks e = ap (λ o. filter (has_job classes) (cons_option o (starts asks))) (either_none (is_ok_text (wire r)) (start_head request) e)

story_starts : (w : Settings) (OfRules : List Choice → Type 0) (c now : Crashes) (todo left : ℕ) (asks : List Ask) (marks : List ℕ) (rs : List Run) →
    StoryTold w OfRules c todo asks marks rs now left → ran_heads rs ≡ started_heads w.classes asks
story_starts w OfRules c _ todo left _ _ _ (unbeaten _ _ _ answer one unwanted fed) = sym (one_ask w.classes (beat_words w.ident) answer [] refl)
story_starts w OfRules c _ todo left _ _ _ (unjoined _ _ _ beaten answer one okay unwanted fed) =
    sym (one_ask w.classes (beat_words w.ident) beaten (join w answer ∷ []) refl ∙ one_ask w.classes (join_words w.ident) answer [] refl)
story_starts w OfRules c _ todo left _ _ _ (turned _ _ _ beaten joined turns d okay too told) =
    turns_starts w OfRules (in_turn c) d todo left [] turns told
    ∙ sym (one_ask w.classes (beat_words w.ident) beaten (join w joined ∷ asks_of turns) refl ∙ one_ask w.classes (join_words w.ident) joined (asks_of turns) refl)

stories_starts : (thread : ℕ) (w : Settings) (OfRules : List Choice → Type 0) (c : Crashes) (todo last : ℕ) (stories : List Story) (rs : List Run) (seats_ended : List PastSeat) →
    Stories thread w OfRules c todo last stories rs seats_ended → ran_heads rs ≡ started_heads w.classes (asks_in stories)
stories_starts thread w OfRules c _ last _ _ _ (all_told _ _) = refl
stories_starts thread w OfRules c todo last _ _ _ (one_more _ now _ left _ story rest rs more told_calls seats_ended is later told same on) =
    map-append (λ (run : Run). run.head) rs more ∙ (ap (λ l. l ++ ran_heads more) (story_starts w OfRules c now todo left story.asks.items story.marks.items rs told)
    ∙ (ap (λ l. started_heads w.classes story.asks.items ++ l) (stories_starts thread w OfRules now left story.seat rest more seats_ended on)
    ∙ sym (started-append w.classes story.asks.items (asks_in rest))))

-- ## By class

-- it is of the class at this place
abbrev is_at : List Bytes → ℕ → Head → Bool
is_at classes i h = unwrap_or (option_map (λ k. k == i) (place_of classes h.class)) false

both_heads : (b : Bool) (classes : List Bytes) (i : ℕ) (run : Run) (rs : List Run) (hs : List Head) → ran_heads rs ≡ hs →
    ran_heads (cond b (run ∷ rs) rs) ≡ cond b (run.head ∷ hs) hs
both_heads true classes i run rs hs e = ap (λ l. run.head ∷ l) e
both_heads false classes i run rs hs e = e

heads_of_runs : (classes : List Bytes) (i : ℕ) (rs : List Run) → ran_heads (runs_at classes i rs) ≡ heads_at classes i (ran_heads rs)
heads_of_runs classes i [] = refl
heads_of_runs classes i (run ∷ rs) = both_heads (is_at classes i run.head) classes i run (runs_at classes i rs) (heads_at classes i (ran_heads rs)) (heads_of_runs classes i rs)

-- a head before others, by the place of its class
one_head : (o : Option ℕ) (classes : List Bytes) (i : ℕ) (h : Head) (xs ys : List Head) → place_of classes h.class ≡ o → heads_at classes i xs ≡ ys →
    heads_at classes i (cond (is_some o) (h ∷ xs) xs) ≡ cond (unwrap_or (option_map (λ k. k == i) o) false) (h ∷ ys) ys
one_head None classes i h xs ys is e = e
one_head (Some k) classes i h xs ys is e =
    ap (λ p. cond (unwrap_or (option_map (λ k. k == i) p) false) (h ∷ heads_at classes i xs) (heads_at classes i xs)) is
    ∙ ap (λ l. cond (k == i) (h ∷ l) l) e

heads_with_job : (classes : List Bytes) (i : ℕ) (hs : List Head) → heads_at classes i (filter (has_job classes) hs) ≡ heads_at classes i hs
heads_with_job classes i [] = refl
heads_with_job classes i (h ∷ hs) =
    one_head (place_of classes h.class) classes i h (filter (has_job classes) hs) (heads_at classes i hs) refl (heads_with_job classes i hs)

pub lane_starts : (thread : ℕ) (w : Settings) (OfRules : List Choice → Type 0) (c : Crashes) (todo last : ℕ) (stories : List Story) (rs : List Run) (seats_ended : List PastSeat) →
    Stories thread w OfRules c todo last stories rs seats_ended → (i : ℕ) → ran_heads (runs_at w.classes i rs) ≡ heads_at w.classes i (starts (asks_in stories))
lane_starts thread w OfRules c todo last stories rs seats_ended told i = heads_of_runs w.classes i rs
    ∙ (ap (λ hs. heads_at w.classes i hs) (stories_starts thread w OfRules c todo last stories rs seats_ended told) ∙ heads_with_job w.classes i (starts (asks_in stories)))
