-- A soak: the run of a load, event by event.
use Rattle.std.specs.Prelude.{◌≡◌, ℕ, ◌+◌, ◌*◌, List, ◌++◌, length, map, not, Bool, true, false}
use Rattle.std.specs.List.{list_all}
use Rattle.sk_resp.specs.declared.reply.Reply.{Reply}
use Rattle.sk_resp.specs.declared.reply.Reply.TheVariants as reply
use Rattle.sk_resp.specs.declared.say.Say.TheVariants as say
use Rattle.sk_jobs.specs.Counting.{tally_of}
use Rattle.sk_model.specs.Event.{Event, Step, Reaches}
use Rattle.sk_model.specs.Reliable.{IsReliable}
use Rattle.sk_model.specs.World.{World, first}
use Rattle.sk_pipe.specs.Run.{shipped}
use Rattle.sk_status.specs.declared.tally.Tally.{Tally}
use Rattle.sk_drill.specs.Load.{LoadState, Part, first_load, opening_part, turn_part}
use Rattle.sk_drill.specs.declared.summary.Summary.{Summary}

-- ## Events that come about

abbrev pub is_oom : Reply → Bool
is_oom (reply.Say say.Oom) = true
is_oom other = false

-- there was memory for the event
abbrev pub is_served : Step → Bool
is_served step = not (is_oom step.outcome.reply)

-- The steps of a run, from the old world to the new one, are these events in order, and there was memory for each.
pub record Plays (old : World) (events : List Event) (steps : List Step) (new : World) : Type 0 where
  pub events_are : map (λ step. step.event) steps ≡ events
  pub leads : Reaches old steps new
  pub served : list_all is_served steps ≡ true

abbrev pub PlaysSome : World → List Event → World → Type 0
PlaysSome old events new = (steps : List Step) × Plays old events steps new

-- The store did the events of a part, so many, and this is what the load holds behind them.
pub record DoesPart (part : Part) (count : ℕ) (rest : LoadState) (old new : World) : Type 0 where
  pub steps : List Step
  pub plays : Plays old part.events steps new
  pub count_is : count ≡ length part.events
  pub rest_is : rest ≡ part.rest

-- ## The run

-- So far a load of so many jobs, made from the seed, has come after so many turns: what it holds, the world, and the steps up to here.
pub data HasCome (seed jobs : ℕ) : ℕ → LoadState → World → List Step → Type 0 where
  begins : (w : World) (steps : List Step) → Plays (first shipped) (opening_part (first_load seed jobs)).events steps w
      → HasCome seed jobs 0 (opening_part (first_load seed jobs)).rest w steps
  turns : (n : ℕ) (s : LoadState) (w v : World) (steps more : List Step) → HasCome seed jobs n s w steps → Plays w (turn_part s w).events more v
      → HasCome seed jobs (n + 1) (turn_part s w).rest v (steps ++ more)

-- The summary is that of the load's run, from the empty store with the limits of the program through twenty turns for each job, and all that holds of
-- every run holds of it.
pub record IsSummaryOf (seed jobs : ℕ) (summary : Summary) : Type 0 where
  pub steps : List Step
  pub load : LoadState
  pub world : World
  pub comes : HasCome seed jobs (20 * jobs) load world steps
  pub played : Reaches (first shipped) steps world
  pub served : list_all is_served steps ≡ true
  pub reliable : IsReliable shipped steps
  pub events_are : summary.events ≡ length steps
  pub tally_is : summary.tally ≡ tally_of world

-- Each row that was pushed had no head, or its job was there already, is live, or has ended.
abbrev pub IsBalanced : Tally → Type 0
IsBalanced t = t.outside + t.inner ≡ t.bare + t.again + t.live + t.returned + t.discarded + t.deleted + t.trimmed + t.muddled
