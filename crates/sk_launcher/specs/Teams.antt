-- Teams: the classes and delay rules of each, what its jobs told of their runs, and how many of these runs returned.
use denote.Param.Members.{Mut}
use Rattle.std.specs.Prelude.{◌≡◌, ◌+◌, ◌-◌, ◌^◌, ◌++◌, ℕ, List, [], ◌∷◌, Option, map, length, min}
use Rattle.sk_resp.specs.Spelling.{Bytes}
use Rattle.sk_policy.specs.declared.delay.DelayRule.{DelayRule}
use Rattle.sk_worker.specs.Promises.{told}
use Rattle.sk_worker.specs.Run.{Run, RunsTold, returned_runs}
use Rattle.sk_worker.specs.declared.registry.Registry.{Registry}
use Rattle.sk_launcher.specs.declared.counts.Counts.{Counts}

-- what is seen of a team: the classes of its jobs, the delay rule of each, and what each job tells of its runs, where it tells them
pub record Team (Delay : Type 0) : Type 0 where
  pub classes : List Bytes
  pub rules : List Delay
  pub told : List (Option (List Run))

-- The teams, whatever their boxed jobs and delay rules are made of.
module _ {Rule Job : Type 0} {OfRule : Rule → Type 0} {OfJob : Job → Type 0} {Delays : Mut ((rule : Rule) × OfRule rule) (ℕ × Unit {0}) ℕ} where
  abbrev pub team_of : ((job : Job) × OfJob job → Option (List Run)) → Registry Job Rule OfJob OfRule Delays →
      Team (DelayRule Rule OfRule Delays)
  team_of runs team = record { classes = team.classes; rules = team.rules.items; told = told (λ job. runs (job.vtable, job.value)) team }

  abbrev pub teams_of : ((job : Job) × OfJob job → Option (List Run)) → List (Registry Job Rule OfJob OfRule Delays) →
      List (Team (DelayRule Rule OfRule Delays))
  teams_of runs teams = map (λ team. team_of runs team) teams

-- The teams told these runs, those of the first team first. Each has its classes and its rules again.
abbrev pub TeamsRan : {Delay : Type 0} → List (Team Delay) → List (Team Delay) → List Run → Type 0
TeamsRan [] [] runs = runs ≡ []
TeamsRan (a ∷ before) (b ∷ after) runs = (own : List Run) × (others : List Run) × (runs ≡ own ++ others)
    × (b.classes ≡ a.classes) × (b.rules ≡ a.rules) × RunsTold a.classes own a.told b.told × TeamsRan before after others
TeamsRan before after runs = ⊥

-- the jobs that were done by all of these counts
abbrev pub done_in : List Counts → ℕ
done_in [] = 0
done_in (c ∷ counts) = c.done + done_in counts

-- The teams told runs, and so many of these returned.
abbrev pub HaveReturned : {Delay : Type 0} → List (Team Delay) → List (Team Delay) → ℕ → Type 0
HaveReturned before after n = (runs : List Run) × TeamsRan before after runs × (length (returned_runs runs) ≡ n)

-- The jobs that were done are the runs that the teams told and that returned; a number of 64 bits may be at its last value.
abbrev pub AreDone : {Delay : Type 0} → List (Team Delay) → List (Team Delay) → ℕ → Type 0
AreDone before after done = (n : ℕ) × HaveReturned before after n × (done ≡ min n (2 ^ 64 - 1))
