-- The turns of a worker in its thread, each with the link, the jobs, the delay rules, the clock and the dice of that thread.
use denote.Param.Members.{Mut}
use Rattle.std.specs.Prelude.{◌≡◌, ◌+◌, ℕ, Bool, true, false, List, map, Option, Some, None, Result, Ok, Err}
use Rattle.sk_base.specs.Yields.{YieldsAll}
use Rattle.sk_resp.specs.Spelling.{Bytes}
use Rattle.sk_link.specs.Call.{Call}
use Rattle.sk_policy.specs.Order.{Order}
use Rattle.sk_policy.specs.declared.delay.DelayRule.{DelayRule}
use Rattle.sk_worker.specs.Event.{Event}
use Rattle.sk_worker.specs.Run.{Run, RunsTold}
use Rattle.sk_worker.specs.Stage.{Settings}
use Rattle.sk_worker.specs.Turn.{Parts, RulesAnswered, TurnTranscript}
use Rattle.sk_worker.specs.declared.turn.Turn.{Turn}
use Rattle.sk_worker.specs.declared.turn.WorkFault.{WorkFault}
use Rattle.sk_launcher.specs.Counting.{TallyView, counted}
use Rattle.sk_launcher.specs.Teams.{Team, team_of}
use Rattle.sk_launcher.specs.Turning.{Advances, WentOn}
use Rattle.sk_launcher.specs.declared.worker_thread.WorkerThread.{WorkerThread}

-- ## What is seen

-- A worker with its link, its jobs, its delay rules and its dice, the moments and words that its clock and its dice are going to give, and what came
-- of its turns.
pub record WorkState (Link Delay Dice : Type 0) : Type 0 where
  pub link : Link
  pub moments : Option (ℕ → ℕ)
  pub dice : Dice
  pub words : Option (ℕ → ℕ)
  pub settings : Settings
  -- what its jobs tell of their runs
  pub told : List (Option (List Run))
  -- the rule of each of its classes, and the one of classes that have no job
  pub rules : List Delay
  pub plain : Delay
  -- the jobs in hand, the oldest first
  pub held : List Bytes
  -- it had a fault
  pub ended : Bool
  pub fault : Option WorkFault
  pub tally : TallyView

abbrev pub worker_settings : Bytes → Order → ℕ → List Bytes → Settings
worker_settings ident order prefetch classes = record { ident = ident; order = order; prefetch = prefetch; classes = classes }

-- What a thread of a worker has. A worker keeps boxed jobs and delay rules: what these are made of is as it may be.
module _ {Rule Job : Type 0} {OfRule : Rule → Type 0} {OfJob : Job → Type 0} {Delays : Mut ((rule : Rule) × OfRule rule) (ℕ × Unit {0}) ℕ} where
  -- a worker in its thread, by what its clock and its dice tell
  abbrev pub worker_of : {Link C D : Type 0} → (C → Option (ℕ → ℕ)) → (D → Option (ℕ → ℕ)) → ((job : Job) × OfJob job → Option (List Run)) →
      WorkerThread Link C D Rule Job OfRule OfJob Delays → WorkState Link (DelayRule Rule OfRule Delays) D
  worker_of moments words runs w = record {
    link = w.link;
    moments = moments w.clock;
    dice = w.dice;
    words = words w.dice;
    settings = worker_settings w.processor.worker.ident w.processor.worker.order w.processor.worker.prefetch w.processor.registry.classes;
    told = (team_of runs w.processor.registry).told;
    rules = w.processor.registry.rules.items;
    plain = w.processor.worker.plain;
    held = w.processor.worker.held.items;
    ended = w.processor.worker.ended;
    fault = w.processor.fault;
    tally = w.processor.tally;
  }

  -- one whose dice tells no words, as a process gives it
  abbrev pub hired_worker : {Link C D : Type 0} → (C → Option (ℕ → ℕ)) → ((job : Job) × OfJob job → Option (List Run)) →
      WorkerThread Link C D Rule Job OfRule OfJob Delays → WorkState Link (DelayRule Rule OfRule Delays) D
  hired_worker moments runs w = worker_of moments (λ _. None) runs w

  abbrev pub hired_workers : {Link C D : Type 0} → (C → Option (ℕ → ℕ)) → ((job : Job) × OfJob job → Option (List Run)) →
      List (WorkerThread Link C D Rule Job OfRule OfJob Delays) → List (WorkState Link (DelayRule Rule OfRule Delays) D)
  hired_workers moments runs staff = map (λ w. hired_worker moments runs w) staff

-- the team of a worker
abbrev pub own_team : {Link Delay Dice : Type 0} → WorkState Link Delay Dice → Team Delay
own_team w = record { classes = w.settings.classes; rules = w.rules; told = w.told }

-- ## Turns

-- what a turn's answer is noted as
abbrev pub IsNoted : {Link Delay Dice : Type 0} → WorkState Link Delay Dice → Result Turn WorkFault → WorkState Link Delay Dice → Type 0
IsNoted a (Ok t) b = (b.ended ≡ false) × (b.fault ≡ a.fault) × (b.tally ≡ record { taken = a.tally.taken + 1; counts = counted t a.tally.counts })
IsNoted a (Err f) b = (b.ended ≡ true) × (b.fault ≡ Some f) × (b.tally ≡ a.tally)

-- A turn led from one state to the other, by its own events. Each of its choices was made with what the rule of the job's class answered, or the
-- worker's plain rule where the class has no job; and the worker has these rules behind it too.
pub record WorkerTurn {Link Delay Dice : Type 0} (Carried : Link → Link → List Call → Type 0) (Answers : Delay → ℕ → ℕ → Type 0)
    (a : WorkState Link Delay Dice) (result : Result Turn WorkFault) (b : WorkState Link Delay Dice) : Type 0 where
  pub whole : a.ended ≡ false
  pub events : List Event
  pub parts : Parts (λ calls. Carried a.link b.link calls) (λ runs. RunsTold a.settings.classes runs a.told b.told)
      (λ moments. YieldsAll a.moments moments b.moments) (λ words. YieldsAll a.words words b.words)
      (λ choices. RulesAnswered Answers a.settings.classes a.rules a.plain choices) events
  pub told : TurnTranscript a.settings a.held events b.held result
  pub settings_same : b.settings ≡ a.settings
  pub rules_same : b.rules ≡ a.rules
  pub plain_same : b.plain ≡ a.plain
  pub noted : IsNoted a result b

-- ## Laws of a turn

pub begins : {Link Delay Dice : Type 0} (Carried : Link → Link → List Call → Type 0) (Answers : Delay → ℕ → ℕ → Type 0)
    (a b : WorkState Link Delay Dice) (result : Result Turn WorkFault) → WorkerTurn Carried Answers a result b → a.ended ≡ false
begins Carried Answers a b result turn = turn.whole

pub ends : {Link Delay Dice : Type 0} (Carried : Link → Link → List Call → Type 0) (Answers : Delay → ℕ → ℕ → Type 0)
    (a b : WorkState Link Delay Dice) (fault : WorkFault) → WorkerTurn Carried Answers a (Err fault) b → b.ended ≡ true
ends Carried Answers a b fault turn = turn.noted.0

-- A worker went on with its turns, and took no more than so many in all.
abbrev pub WorkerAdvances : {Link Delay Dice : Type 0} → (Link → Link → List Call → Type 0) → (Delay → ℕ → ℕ → Type 0) → ℕ →
    WorkState Link Delay Dice → WorkState Link Delay Dice → Type 0
WorkerAdvances Carried Answers turns a b = Advances (WentOn (WorkerTurn Carried Answers)) (λ w. w.tally.taken) turns a b
