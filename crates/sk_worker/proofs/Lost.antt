-- Where a list of events has a call that was lost.
use Rattle.std.proofs.Common.{◌≡◌, ◌∙◌, ◌||◌, ℕ, Bool, true, false, List, [], ◌∷◌, ◌++◌, map, refl, ap, Result, Ok, Err}
use Rattle.std.specs.Result.{is_err}
use Rattle.sk_resp.specs.Spelling.{Bytes}
use Rattle.sk_resp.specs.declared.reply.Reply.{Reply}
use Rattle.sk_resp.specs.declared.reply.Reply.TheVariants as reply
use Rattle.sk_link.specs.Call.{Call, answered, lost, has_lost}
use Rattle.sk_link.specs.Walk.{Walk}
use Rattle.sk_link.specs.declared.asking.Answer.{Answer}
use Rattle.sk_link.specs.declared.link.LinkFault.{LinkFault}
use Rattle.sk_policy.specs.Order.{queues_in}
use Rattle.sk_worker.specs.Broken.{Broken, Unanswered, is_link, is_lost}
use Rattle.sk_worker.specs.Event.{Event, asked, ordered, ran, chose, calls}
use Rattle.sk_worker.specs.Fetching.{FetchStage, FetchLine, FetchStep, FetchTranscript, orders, fetches, fetched, fetch_start}
use Rattle.sk_worker.specs.Forms.{call}
use Rattle.sk_worker.specs.Leaving
use Rattle.sk_worker.specs.Leaving.{LeaveStage, LeaveLine, LeaveStep, LeaveTranscript}
use Rattle.sk_worker.specs.Request.{fetch_words}
use Rattle.sk_worker.specs.Saying.{Says}
use Rattle.sk_worker.specs.Stage.{Settings, Stage, Line, Step, AtLimit, JobTranscript, asks, runs, chooses, holding, over}
use Rattle.sk_worker.specs.Turn.{TurnTranscript, unfetched, empty, job}
use Rattle.sk_worker.specs.declared.turn.Turn.{Turn}
use Rattle.sk_worker.specs.declared.turn.WorkFault.{WorkFault}
use Rattle.sk_worker.specs.declared.turn.WorkFault.TheVariants as fault
use Rattle.sk_worker.proofs.Events.{calls-append}

-- ## Lists

event_lost : Event → Bool
event_lost (asked call) = is_err call.reply
event_lost (ordered drawn) = false
event_lost (ran run) = false
event_lost (chose choice) = false

one_lost : (event : Event) (events : List Event) → event_lost event ≡ false → has_lost (calls (event ∷ events)) ≡ has_lost (calls events)
unfolding event_lost
one_lost (asked call) events e = ap (λ b. b || has_lost (calls events)) e
one_lost (ordered drawn) events e = refl
one_lost (ran run) events e = refl
one_lost (chose choice) events e = refl

or_later : (a b c : Bool) → (a || (b || c)) ≡ ((a || b) || c)
or_later true b c = refl
or_later false b c = refl

lost-append : (xs ys : List Call) → has_lost (xs ++ ys) ≡ (has_lost xs || has_lost ys)
lost-append [] ys = refl
lost-append (x ∷ xs) ys = ap (λ b. is_err x.reply || b) (lost-append xs ys) ∙ or_later (is_err x.reply) (has_lost xs) (has_lost ys)

pub lost_behind : (xs ys : List Event) → has_lost (calls xs) ≡ false → has_lost (calls (xs ++ ys)) ≡ has_lost (calls ys)
lost_behind xs ys e = ap (λ cs. has_lost cs) (calls-append xs ys) ∙ (lost-append (calls xs) (calls ys) ∙ ap (λ b. b || has_lost (calls ys)) e)

-- ## Walks

walk_whole : {S : Type 0} (Step : S → Event → S → Type 0) → ((a b : S) (event : Event) → Step a event b → event_lost event ≡ false) →
    (from to : S) (events : List Event) → Walk Step from events to → has_lost (calls events) ≡ false
walk_whole Step whole from to [] walk = refl
walk_whole Step whole from to (event ∷ events) walk = one_lost event events (whole from walk.0 event walk.1) ∙ walk_whole Step whole walk.0 to events walk.2

or_false : (b : Bool) → (b || false) ≡ b
or_false true = refl
or_false false = refl

unanswered_lost : {S : Type 0} (Line : S → List Bytes → Answer → (Reply → S) → Type 0) (Step : S → Event → S → Type 0) (from stage : S) (events : List Event)
    (came : Result Reply LinkFault) → ((a b : S) (event : Event) → Step a event b → event_lost event ≡ false) →
    Unanswered Line Step from events stage came → has_lost (calls events) ≡ is_err came
unanswered_lost Line Step from stage events came whole u = ap (λ es. has_lost (calls es)) u.are
    ∙ (lost_behind u.done (asked (record { request = u.request; reply = came }) ∷ []) (walk_whole Step whole from stage u.done u.walk) ∙ or_false (is_err came))

broken_lost : {S : Type 0} (Line : S → List Bytes → Answer → (Reply → S) → Type 0) (Step : S → Event → S → Type 0) (Limit : S → Type 0) (from stage : S) (events : List Event)
    (f : WorkFault) → ((a b : S) (event : Event) → Step a event b → event_lost event ≡ false) →
    Broken Line Step Limit from events stage f → has_lost (calls events) ≡ is_link f
broken_lost Line Step Limit from stage events (fault.Link l) whole u = unanswered_lost Line Step from stage events (Err l) whole u
broken_lost Line Step Limit from stage events (fault.Refused r) whole u = unanswered_lost Line Step from stage events (Ok r) whole u
broken_lost Line Step Limit from stage events fault.GenLimit whole u = walk_whole Step whole from stage events u.0
broken_lost Line Step Limit from stage events fault.Ended whole u = absurd u
broken_lost Line Step Limit from stage events fault.Memory whole u = walk_whole Step whole from stage events u

fetch_whole : (w : Settings) (a b : FetchStage) (event : Event) → FetchStep w a event b → event_lost event ≡ false
unfolding event_lost
fetch_whole w a b event (orders words payloads drawn) = refl
fetch_whole w a b event (fetches from request wanted next r line ok) = refl

step_whole : (w : Settings) (a b : Stage) (event : Event) → Step w a event b → event_lost event ≡ false
unfolding event_lost
step_whole w a b event (asks from request wanted next r line ok) = refl
step_whole w a b event (runs c h o there) = refl
step_whole w a b event (chooses c h r moment word delay) = refl

leave_whole : (ident : Bytes) (a b : LeaveStage) (event : Event) → LeaveStep ident a event b → event_lost event ≡ false
unfolding event_lost
leave_whole ident a b event (Leaving.asks from request wanted next r line ok) = refl

-- ## Transcripts

fetch_lost : (w : Settings) (from : FetchStage) (events : List Event) (held : List Bytes) (f : WorkFault) → FetchTranscript w from events held (Err f) → has_lost (calls events) ≡ is_link f
fetch_lost w from events held f told = broken_lost (FetchLine w) (FetchStep w) (λ _. ⊥) from told.0 events f (fetch_whole w) told.1

job_lost : (w : Settings) (from : Stage) (events : List Event) (result : Result Turn WorkFault) → JobTranscript w from events result → has_lost (calls events) ≡ is_lost result
job_lost w from events (Ok t) told = walk_whole (Step w) (step_whole w) from (over t) events told
job_lost w from events (Err f) told = broken_lost (Line w) (Step w) AtLimit from told.0 events f (step_whole w) told.1

pub leave_lost : (ident : Bytes) (from : LeaveStage) (events : List Event) (held : List Bytes) (result : Result ℕ WorkFault) → LeaveTranscript ident from events held result →
    has_lost (calls events) ≡ is_lost result
leave_lost ident from events held (Ok n) told = walk_whole (LeaveStep ident) (leave_whole ident) from (Leaving.leaving [] n) events told.0
leave_lost ident from events held (Err f) told = broken_lost (LeaveLine ident) (LeaveStep ident) (λ _. ⊥) from told.0 events f (leave_whole ident) told.1

nulls_lost : (w : Settings) (queues : List Bytes) → has_lost (calls (map (λ queue. call (fetch_words w.ident queue) reply.Null) queues)) ≡ false
nulls_lost w [] = refl
nulls_lost w (queue ∷ queues) = nulls_lost w queues

pub turn_lost : (w : Settings) (before : List Bytes) (events : List Event) (after : List Bytes) (result : Result Turn WorkFault) → TurnTranscript w before events after result →
    has_lost (calls events) ≡ is_lost result
turn_lost w before events after result (unfetched events0 after0 f told) = fetch_lost w (fetch_start w before) events after f told
turn_lost w before events after result (empty events0 form) =
    ap (λ es. has_lost (calls es)) form.are ∙ nulls_lost w (queues_in w.order form.words)
turn_lost w before events after result (job first rest c others after0 result0 fetching working is) =
    lost_behind first rest (walk_whole (FetchStep w) (fetch_whole w) (fetch_start w before) (fetched (c ∷ others)) first fetching) ∙ job_lost w (holding c) rest result working

pub turn_ends : (w : Settings) (held : List Bytes) (events : List Event) (left : List Bytes) (result : Result Turn WorkFault) (before after : Bool) →
    after ≡ (before || has_lost (calls events)) → TurnTranscript w held events left result → after ≡ (before || is_lost result)
turn_ends w held events left result before after ends told = ends ∙ ap (λ b. before || b) (turn_lost w held events left result told)

-- ## One request

pub says_ends : (P : List Call → Type 0) (before after : Bool) (request : List Bytes) (wanted : Answer) (f : WorkFault) →
    ((cs : List Call) → P cs → after ≡ (before || has_lost cs)) → Says P request wanted (Err f) → after ≡ (before || is_link f)
says_ends P before after request wanted (fault.Link l) ends s = ends (lost request l ∷ []) s
says_ends P before after request wanted (fault.Refused r) ends s = ends (answered request r ∷ []) s.0
says_ends P before after request wanted fault.GenLimit ends s = absurd s
says_ends P before after request wanted fault.Ended ends s = absurd s
says_ends P before after request wanted fault.Memory ends s = ends [] s
