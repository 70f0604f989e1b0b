-- What the functions of a turn promise, by the states of what they met: the link, the clock, the dice, the jobs and the worker.
use denote.Param.Members.{Mut}
use Rattle.std.specs.Prelude.{◌≡◌, ℕ, List, [], ◌∷◌, Option, Some, Result, Ok, MatchOption, codes, map, slice_get}
use Rattle.std.specs.List.{AllByRecursion}
use Rattle.std.specs.declared.alloc.Global.{Global}
use Rattle.std.specs.declared.dyn_box.DynBox.{DynBox}
use Rattle.sk_base.specs.Yields.{YieldsAll}
use Rattle.sk_base.specs.declared.clock.Clock as a_clock
use Rattle.sk_base.specs.declared.dice.Dice as a_dice
use Rattle.sk_resp.specs.Spelling.{Bytes}
use Rattle.sk_payload.specs.declared.head.Head.{Head}
use Rattle.sk_link.specs.Call.{Call}
use Rattle.sk_link.specs.declared.asking.Answer.TheVariants as answer
use Rattle.sk_link.specs.declared.link.Link as a_link
use Rattle.sk_policy.specs.declared.delay.DelayRule.{DelayRule}
use Rattle.sk_worker.specs.Event.{Event, Choice, asked}
use Rattle.sk_worker.specs.Fetching.{FetchTranscript, asking_at, fetch_start}
use Rattle.sk_worker.specs.Request.{script_words}
use Rattle.sk_worker.specs.Run.{Run, RunsTold, RunTold, place_of}
use Rattle.sk_worker.specs.Stage.{Settings, Stage, Line, failed, holding, unknown, JobTranscript}
use Rattle.sk_worker.specs.Turn.{Parts, RulesAnswered, TurnOf}
use Rattle.sk_worker.specs.declared.failure.Failure.{Failure}
use Rattle.sk_worker.specs.declared.fetch.Fetcher.{Fetcher}
use Rattle.sk_worker.specs.declared.job.Outcome.{Outcome}
use Rattle.sk_worker.specs.declared.job.Outcome.TheVariants as outcome
use Rattle.sk_worker.specs.declared.registry.Registry.{Registry}
use Rattle.sk_worker.specs.declared.turn.Turn.{Turn}
use Rattle.sk_worker.specs.declared.turn.Turn.TheVariants as turn
use Rattle.sk_worker.specs.declared.turn.WorkFault.{WorkFault}
use Rattle.sk_worker.specs.declared.worker.Worker.{Worker}

-- The link carried the calls of these events, the clock gave their moments and the dice their words, from the first three states to the other three.
abbrev pub Met : {L C D : Type 0} → a_link.Ghosts L → a_clock.Ghosts C → a_dice.Ghosts D → L → C → D → L → C → D →
    (List Run → Type 0) → (List Choice → Type 0) → List Event → Type 0
Met Link Clock Dice link clock dice link_after clock_after dice_after OfJobs OfRules events = Parts (λ cs. Link.carried link link_after cs) OfJobs
    (λ ms. YieldsAll (Clock.moments clock) ms (Clock.moments clock_after)) (λ ws. YieldsAll (Dice.words dice) ws (Dice.words dice_after)) OfRules events

-- ## Fetching

-- The link carried the calls by which the queues at these places are asked, with these payloads held before and after.
abbrev pub Fetches : (List Call → Type 0) → Fetcher → List ℕ → List Bytes → List Bytes → Result (Unit {0}) WorkFault → Type 0
Fetches Carried f places before after result = (w : Settings) → w.ident ≡ f.ident.now → w.prefetch ≡ f.prefetch →
    (cs : List Call) × Carried cs × FetchTranscript w (asking_at f.prefetch f.names.now places before) (map asked cs) after result

module _ {Rule : Type 0} {OfRule : Rule → Type 0} {Delays : Mut ((rule : Rule) × OfRule rule) (ℕ × Unit {0}) ℕ} where
  -- The fetching of a turn, with these payloads held after it.
  abbrev pub Fills : (List Call → Type 0) → Option (ℕ → ℕ) → Option (ℕ → ℕ) → Worker Rule OfRule Delays → List Bytes →
      Result (Unit {0}) WorkFault → Type 0
  Fills Carried words words_after worker after result = (w : Settings) →
      w.ident ≡ worker.ident → w.prefetch ≡ worker.prefetch → w.order ≡ worker.order → (events : List Event)
      × Parts Carried (λ rs. rs ≡ []) (λ ms. ms ≡ []) (λ ws. YieldsAll words ws words_after) (λ cs. cs ≡ []) events
      × FetchTranscript w (fetch_start w worker.held.items) events after result

  -- ## A job whose run failed

  -- The rule may answer this delay on this count.
  abbrev pub Answers : DelayRule Rule OfRule Delays → ℕ → ℕ → Type 0
  Answers rule count delay = Delays.post (rule.rule.vtable, rule.rule.value) (count, tt) delay

  -- Each choice is of the job's class, with what its rule answered.
  abbrev pub Chosen : Failure Rule OfRule Delays → List Choice → Type 0
  Chosen f choices = AllByRecursion (λ choice. (choice.class ≡ f.head.now.class) × Answers f.rule.now choice.count choice.delay) choices

  -- where the job is once the store knows that its run failed
  abbrev pub failed_stage : Failure Rule OfRule Delays → Stage
  failed_stage f = failed f.job.payload.now f.head.now f.raised

  -- What is done with the job from that stage on.
  abbrev pub Recovers : {L C D : Type 0} → a_link.Ghosts L → a_clock.Ghosts C → a_dice.Ghosts D → L → C → D → L → C → D →
      Failure Rule OfRule Delays → Result Turn WorkFault → Type 0
  Recovers Link Clock Dice link clock dice link_after clock_after dice_after f result = (w : Settings) → w.ident ≡ f.job.ident.now →
      (events : List Event) × Met Link Clock Dice link clock dice link_after clock_after dice_after (λ rs. rs ≡ []) (Chosen f) events
      × JobTranscript w (failed_stage f) events result

  -- The same from each stage on from which SK.FAIL of this job goes out.
  abbrev pub Fails : {L C D : Type 0} → a_link.Ghosts L → a_clock.Ghosts C → a_dice.Ghosts D → L → C → D → L → C → D →
      Failure Rule OfRule Delays → Result Turn WorkFault → Type 0
  Fails Link Clock Dice link clock dice link_after clock_after dice_after f result = (w : Settings) (from : Stage) → w.ident ≡ f.job.ident.now →
      Line w from (script_words (codes "SK.FAIL") f.job.payload.now) answer.List (λ _. failed_stage f) →
      (events : List Event) × Met Link Clock Dice link clock dice link_after clock_after dice_after (λ rs. rs ≡ []) (Chosen f) events
      × JobTranscript w from events result

-- ## Jobs, and a worker that works on them

-- The events of work on the oldest of these payloads, where there is one.
abbrev pub WorkTranscript : Settings → List Bytes → List Event → Result Turn WorkFault → Type 0
WorkTranscript w [] events result = (events ≡ []) × (result ≡ Ok turn.Empty)
WorkTranscript w (c ∷ others) events result = JobTranscript w (holding c) events result

module _ {Rule Job : Type 0} {OfRule : Rule → Type 0} {OfJob : Job → Type 0} {Delays : Mut ((rule : Rule) × OfRule rule) (ℕ × Unit {0}) ℕ} where
  -- what the jobs tell of their runs
  abbrev pub told : (DynBox Job Global OfJob → Option (List Run)) → Registry Job Rule OfJob OfRule Delays → List (Option (List Run))
  told runs registry = map (λ slot. runs slot.job) registry.slots.items

  -- The job of the head's class ran, and told the run with this outcome. Where the class has no job, none ran, and the outcome is the error of that.
  abbrev pub Attempts : (DynBox Job Global OfJob → Option (List Run)) →
      Registry Job Rule OfJob OfRule Delays → Registry Job Rule OfJob OfRule Delays → Head → Outcome → Type 0
  Attempts runs registry after h o = MatchOption (place_of registry.classes h.class)
      (RunsTold registry.classes [] (told runs registry) (told runs after) × (o ≡ outcome.Raised (unknown h)))
      (λ _. RunTold registry.classes h (told runs registry) (told runs after) o)

  -- The rule is that of the class, or the plain one where the class has no job.
  abbrev pub IsRuleOf : Registry Job Rule OfJob OfRule Delays → Bytes → DelayRule Rule OfRule Delays → DelayRule Rule OfRule Delays → Type 0
  IsRuleOf registry class plain rule = MatchOption (place_of registry.classes class) (rule ≡ plain) (λ i. slice_get registry.rules.items i ≡ Some rule)

  -- a worker with its jobs, as the tables see them
  abbrev pub settings : Worker Rule OfRule Delays → Registry Job Rule OfJob OfRule Delays → Settings
  settings worker registry = record { ident = worker.ident; order = worker.order; prefetch = worker.prefetch; classes = registry.classes }

  -- As `Met`, and the jobs told the runs of these events, and the rules answered their choices.
  abbrev pub MetAll : {L C D : Type 0} → a_link.Ghosts L → a_clock.Ghosts C → a_dice.Ghosts D → (DynBox Job Global OfJob → Option (List Run)) →
      L → C → D → Registry Job Rule OfJob OfRule Delays → L → C → D → Registry Job Rule OfJob OfRule Delays →
      DelayRule Rule OfRule Delays → List Event → Type 0
  MetAll Link Clock Dice runs link clock dice registry link_after clock_after dice_after registry_after plain events =
      Met Link Clock Dice link clock dice link_after clock_after dice_after
      (λ rs. RunsTold registry.classes rs (told runs registry) (told runs registry_after))
      (λ cs. RulesAnswered Answers registry.classes registry.rules.items plain cs) events

  -- Work on the oldest job that the worker holds.
  abbrev pub Works : {L C D : Type 0} → a_link.Ghosts L → a_clock.Ghosts C → a_dice.Ghosts D → (DynBox Job Global OfJob → Option (List Run)) →
      L → C → D → Registry Job Rule OfJob OfRule Delays → L → C → D → Registry Job Rule OfJob OfRule Delays →
      Worker Rule OfRule Delays → Result Turn WorkFault → Type 0
  Works Link Clock Dice runs link clock dice registry link_after clock_after dice_after registry_after worker result = (w : Settings) →
      w.ident ≡ worker.ident → w.classes ≡ registry.classes → (events : List Event)
      × MetAll Link Clock Dice runs link clock dice registry link_after clock_after dice_after registry_after worker.plain events
      × WorkTranscript w worker.held.items events result

  -- A turn, from one state of all of these to the other.
  abbrev pub Turns : {L C D : Type 0} → a_link.Ghosts L → a_clock.Ghosts C → a_dice.Ghosts D → (DynBox Job Global OfJob → Option (List Run)) →
      L → C → D → Registry Job Rule OfJob OfRule Delays → Worker Rule OfRule Delays →
      L → C → D → Registry Job Rule OfJob OfRule Delays → Worker Rule OfRule Delays → Result Turn WorkFault → Type 0
  Turns Link Clock Dice runs link clock dice registry worker link_after clock_after dice_after registry_after worker_after result =
      (events : List Event)
      × MetAll Link Clock Dice runs link clock dice registry link_after clock_after dice_after registry_after worker.plain events
      × TurnOf worker.ended (settings worker registry) worker.held.items events worker_after.held.items result
