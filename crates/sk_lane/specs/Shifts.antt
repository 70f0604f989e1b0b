-- What a worker does at its seat, by what its link, its jobs and its rules tell.
use denote.Param.Members.{Mut}
use Rattle.std.specs.Prelude.{ℕ, List, Option, Result}
use Rattle.sk_base.specs.declared.clock.Clock as a_clock
use Rattle.sk_worker.specs.Promises.{settings}
use Rattle.sk_worker.specs.Run.{Run}
use Rattle.sk_worker.specs.declared.registry.Registry.{Registry}
use Rattle.sk_worker.specs.declared.turn.Turn.{Turn}
use Rattle.sk_worker.specs.declared.turn.WorkFault.{WorkFault}
use Rattle.sk_desk.specs.declared.desk.Desk as a_desk
use Rattle.sk_lane.specs.Carrying.{state_of}
use Rattle.sk_lane.specs.Lane.{RulesOf, RunsOf}
use Rattle.sk_lane.specs.Progress.{SeatTurn, TurnsTold}
use Rattle.sk_lane.specs.Story.{StoryRan}
use Rattle.sk_lane.specs.declared.shift.Shift.{Shift}

module _ {D C Rule Job : Type 0} {OfRule : Rule → Type 0} {OfJob : Job → Type 0} {Delays : Mut ((rule : Rule) × OfRule rule) (ℕ × Unit {0}) ℕ} where
  -- A turn, with this result.
  abbrev pub TakesTurn : a_desk.Ghosts D → a_clock.Ghosts C → ((job : Job) × OfJob job → Option (List Run)) →
      Shift D C Rule OfRule Delays → Registry Job Rule OfJob OfRule Delays → Shift D C Rule OfRule Delays → Registry Job Rule OfJob OfRule Delays →
      Result Turn WorkFault → Type 0
  TakesTurn OfDesk OfClock runs a registry b registry_now result =
      SeatTurn (settings a.worker registry) (RulesOf registry a.worker.plain) (RunsOf runs registry registry_now)
      (state_of OfDesk OfClock a.link) a.worker.held.items (state_of OfDesk OfClock b.link) b.worker.held.items result

  -- Turns, with so many to be taken before them, and so many left behind them.
  abbrev pub TakesTurns : ((job : Job) × OfJob job → Option (List Run)) → Shift D C Rule OfRule Delays → Registry Job Rule OfJob OfRule Delays → ℕ →
      Shift D C Rule OfRule Delays → Registry Job Rule OfJob OfRule Delays → ℕ → Type 0
  TakesTurns runs a registry todo b registry_now left =
      TurnsTold (settings a.worker registry) (RulesOf registry a.worker.plain) (RunsOf runs registry registry_now) a.link.drawing todo a.worker.held.items
      a.link.asks.items b.link.asks.items a.marks.items b.marks.items b.link.drawing left

  -- A whole story, the same way.
  abbrev pub PlaysStory : ((job : Job) × OfJob job → Option (List Run)) → Shift D C Rule OfRule Delays → Registry Job Rule OfJob OfRule Delays → ℕ →
      Shift D C Rule OfRule Delays → Registry Job Rule OfJob OfRule Delays → ℕ → Type 0
  PlaysStory runs a registry todo b registry_now left =
      StoryRan (settings a.worker registry) (RulesOf registry a.worker.plain) (RunsOf runs registry registry_now) a.link.drawing.crashes todo
      b.link.asks.items b.marks.items b.link.drawing.crashes left
