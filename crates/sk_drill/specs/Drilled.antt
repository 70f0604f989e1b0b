-- How a drill ends, by what its threads tell.
use denote.Param.Members.{Mut}
use Rattle.std.specs.Prelude.{◌≡◌, ◌≢◌, ◌/◌, ℕ, List, [], length, map, Option, Some, IsSome}
use Rattle.std.specs.List.{AllByRecursion}
use Rattle.sk_compare.specs.Alike.{AllAnswered, Alike, Compares, DiffersAt, noted, told}
use Rattle.sk_compare.specs.Exchange.{exchange_of}
use Rattle.sk_compare.specs.declared.difference.Difference.{Difference}
use Rattle.sk_desk.specs.declared.entry.Entry.{Entry}
use Rattle.sk_desk.specs.Journal.{IsJournal}
use Rattle.sk_desk.specs.Log.{Log}
use Rattle.sk_desk.specs.State.{StateView}
use Rattle.sk_jobs.specs.Counting.{tally_of}
use Rattle.sk_lane.specs.declared.story.Story.{Story}
use Rattle.sk_resp.specs.declared.reply.Reply.{Reply}
use Rattle.sk_status.specs.declared.tally.Tally.{Tally}
use Rattle.sk_model.specs.World.{World, first}
use Rattle.sk_pipe.specs.declared.command_line.TheConstants.{SHIPPED_LIMITS}
use Rattle.sk_policy.specs.declared.delay.DelayRule.{DelayRule}
use Rattle.sk_worker.specs.Run.{Run}
use Rattle.sk_worker.specs.declared.registry.Registry.{Registry}
use Rattle.sk_drill.specs.Crews.{AreStories}
use Rattle.sk_drill.specs.Soaked.{IsBalanced}
use Rattle.sk_drill.specs.Telling.{numbers}
use Rattle.sk_drill.specs.declared.plan.Plan.{Plan}
use Rattle.sk_drill.specs.declared.drill_end.DrillEnd.{DrillEnd}
use Rattle.sk_drill.specs.declared.drill_end.DrillEnd.TheVariants as end
use Rattle.sk_drill.specs.declared.drill_end.Drilled.{Drilled}

-- what a store with the program's limits is at first
abbrev pub shipped : World
shipped = first SHIPPED_LIMITS

-- The book's entries are a journal that ends in this world, each ask in it has its reply, and so they compare with the stories.
pub record IsRecorded (s : StateView) (stories : List Story) (d : Option Difference) : Type 0 where
  pub log : Log
  pub log_is : s.log ≡ Some log
  pub journal : IsJournal shipped log.entries s.world
  pub answered : AllAnswered log.entries
  pub compares : Compares (told stories) (noted log.entries) d

-- Each story is all that the journal has of its seat: its asks are the seat's entries, each once and in order. Of a seat without a story there are none.
pub record AreBySeat (stories : List Story) (entries : List Entry) : Type 0 where
  pub own : AllByRecursion (λ story. noted entries story.seat ≡ map exchange_of story.asks.items) stories
  pub others : (s : ℕ) → AllByRecursion (λ story. story.seat ≢ s) stories → noted entries s ≡ []

-- Each ask of the story has its reply.
abbrev pub IsAnswered : Story → Type 0
IsAnswered story = AllByRecursion (λ x. IsSome x.reply) (map exchange_of story.asks.items)

-- The book is a journal, which is a run of the store with the program's limits; the summary has its length, and the tally of its last world. It has of each seat what the
-- stories tell of it, each ask once and in order, with its reply.
pub record IsDrilled (stories : List Story) (d : Drilled) : Type 0 where
  pub log : Log
  pub book_is : d.book ≡ Some log
  pub world : World
  pub journal : IsJournal shipped log.entries world
  pub events_are : d.summary.events ≡ length log.entries
  pub tally_is : d.summary.tally ≡ tally_of world
  pub balanced : IsBalanced d.summary.tally
  pub stories_are : d.stories.items ≡ stories
  pub answered : AllAnswered log.entries
  pub alike : Alike (told stories) (noted log.entries)
  pub by_seat : AreBySeat stories log.entries

-- There was a journal with another ask at this place of this seat than the stories tell, or one of them has none there. The two texts differ.
pub record HasDiffered (stories : List Story) (d : Difference) : Type 0 where
  pub log : Log
  pub world : World
  pub journal : IsJournal shipped log.entries world
  pub answered : AllAnswered log.entries
  pub differs : DiffersAt (told stories) (noted log.entries) d
  pub texts : d.told ≢ d.noted

-- how it ends with these stories
abbrev pub EndsAs : List Story → DrillEnd → Type 0
EndsAs stories (end.Alike d) = IsDrilled stories d
EndsAs stories (end.Differs seat place told noted) = HasDiffered stories (record { seat = seat; place = place; told = told; noted = noted })
EndsAs stories end.Memory = Unit {0}

-- The tally counts just the pushes that were answered by a number, and no push of the store's own.
pub record CountsPushes (answers : List Reply) (tally : Tally) : Type 0 where
  pub outside_is : tally.outside ≡ numbers answers
  pub inner_is : tally.inner ≡ 0

-- what the tally counts, where there is one, of the pushes with these replies
abbrev pub CountsAs : List Reply → DrillEnd → Type 0
CountsAs answers (end.Alike d) = CountsPushes answers d.summary.tally
CountsAs answers other = Unit {0}

-- what each thread knows of a drill: each worker has as many crashes
abbrev pub plan_of : ℕ → ℕ → ℕ → ℕ → Plan
plan_of seed jobs workers crashes = record { seed = seed; jobs = jobs; crashes = crashes / workers }

module _ {Job Rule : Type 0} {OfJob : Job → Type 0} {OfRule : Rule → Type 0} {Delays : Mut ((rule : Rule) × OfRule rule) (ℕ × Unit {0}) ℕ} where
  -- There was no memory. Or all threads told their stories, and the drill ends as they compare with the journal. Where they are alike, the tally counts
  -- the pushes of the thread that pushes, and no other.
  pub data Drills (runs : (job : Job) × OfJob job → Option (List Run)) (plan : Plan) (workers : ℕ) (rules : List (DelayRule Rule OfRule Delays))
      (teams teams_now : List (Registry Job Rule OfJob OfRule Delays)) : DrillEnd → Type 0 where
    starved : Drills runs plan workers rules teams teams_now end.Memory
    ended : (stories : List Story) (how : DrillEnd) (are : AreStories runs plan workers rules teams teams_now stories) → EndsAs stories how →
        CountsAs are.pushed.pushed.answers how → Drills runs plan workers rules teams teams_now how
