-- What a thread keeps between its workers.
use denote.Param.Members.{Mut}
use Rattle.std.specs.Prelude.{◌≡◌, ℕ, List, [], ◌∷◌, Option, codes}
use Rattle.sk_policy.specs.Order.{strict_order}
use Rattle.sk_policy.specs.declared.delay.DelayRule.{DelayRule}
use Rattle.sk_worker.specs.Run.{Run}
use Rattle.sk_worker.specs.declared.registry.Registry.{Registry}
use Rattle.sk_lane.specs.Lane.{RulesOf, RunsOf}
use Rattle.sk_lane.specs.Story.{StoryRan}
use Rattle.sk_lane.specs.Turns.{lane_settings}
use Rattle.sk_lane.specs.declared.crashes.Crashes.{Crashes}
use Rattle.sk_lane.specs.declared.lanes.Thread.{Thread}
use Rattle.sk_lane.specs.declared.story.Story.{Story}

module _ {Rule : Type 0} {OfRule : Rule → Type 0} {Delays : Mut ((rule : Rule) × OfRule rule) (ℕ × Unit {0}) ℕ} where
  -- It is the thread of this worker, with this plain rule and these crashes, and asks the queue `default` alone.
  pub record IsThread (number : ℕ) (plain : DelayRule Rule OfRule Delays) (crashes : Crashes) (thread : Thread Rule OfRule Delays) : Type 0 where
    pub number_is : thread.number ≡ number
    pub rule_is : thread.rule ≡ plain
    pub order_is : thread.order ≡ strict_order (codes "default" ∷ [])
    pub crashes_are : thread.crashes ≡ crashes

module _ {Rule Job : Type 0} {OfRule : Rule → Type 0} {OfJob : Job → Type 0} {Delays : Mut ((rule : Rule) × OfRule rule) (ℕ × Unit {0}) ℕ} where
  -- The story is that of the thread's worker, with so many turns to be taken before it, and so many, and these crashes, left behind it.
  abbrev pub TellsStory : ((job : Job) × OfJob job → Option (List Run)) → Thread Rule OfRule Delays → Registry Job Rule OfJob OfRule Delays → ℕ →
      Story → Registry Job Rule OfJob OfRule Delays → ℕ → Crashes → Type 0
  TellsStory runs thread registry todo story registry_now left crashes =
      StoryRan (lane_settings thread.number registry.classes) (RulesOf registry thread.rule) (RunsOf runs registry registry_now) thread.crashes todo
      story.asks.items story.marks.items crashes left
