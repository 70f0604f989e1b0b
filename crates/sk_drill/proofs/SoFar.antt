-- A soak after some of its turns.
use Rattle.std.proofs.Common.{◌≡◌, ◌∙◌, ◌≤◌, ◌+◌, ◌*◌, ap, refl, sym, subst, ℕ, List, ◌++◌, length, arith, true}
use Rattle.std.specs.List.{list_all}
use Rattle.std.proofs.lemmas.List.{length-append, length-map}
use Rattle.sk_jobs.specs.Counting.{tally_of}
use Rattle.sk_model.specs.Event.{Event, Reaches, Step}
use Rattle.sk_model.specs.World.{World, first}
use Rattle.sk_model.proofs.Theorems.Reliable.{reliable}
use Rattle.sk_model.proofs.Theorems.Runs.{leads_on}
use Rattle.sk_pipe.specs.Run.{shipped}
use Rattle.sk_status.specs.declared.tally.Tally.{Tally}
use Rattle.sk_drill.specs.Load.{LoadState, first_load, opening_part, turn_part}
use Rattle.sk_drill.specs.Soaked.{DoesPart, HasCome, IsSummaryOf, Plays, begins, is_served, turns}
use Rattle.sk_drill.specs.declared.summary.Summary.{Summary}
use Rattle.sk_drill.proofs.Playing.{both_served}
use Rattle.sk_drill.proofs.Small.{opening_small, turn_small}

-- So many turns were taken, with so many events.
pub record SoFar (seed jobs n : ℕ) (s : LoadState) (w : World) (count : ℕ) : Type 0 where
  pub steps : List Step
  pub comes : HasCome seed jobs n s w steps
  pub played : Reaches (first shipped) steps w
  pub served : list_all is_served steps ≡ true
  pub counted : count ≡ length steps
  pub few : count ≤ 6 + 7 * n
  pub moment : s.moment ≤ 1700000000000 + 200 * n
  pub crons : s.crons ≤ n

-- as many steps as events
as_many : (u v : World) (events : List Event) (steps : List Step) → Plays u events steps v → length events ≡ length steps
as_many u v events steps plays = ap length (sym plays.events_are) ∙ length-map steps _

-- the load's moment when it is new, and how many commands of the periodic job it sent
first_moment : (seed jobs : ℕ) → (first_load seed jobs).moment ≡ 1700000000000
unfolding first_load
first_moment seed jobs = refl

first_crons : (seed jobs : ℕ) → (first_load seed jobs).crons ≡ 0
unfolding first_load
first_crons seed jobs = refl

-- That is so. It is opaque, so that only the lemmas below look into it.
unfoldable pub HasTaken : ℕ → ℕ → ℕ → LoadState → World → ℕ → Type 0
HasTaken seed jobs n s w count = SoFar seed jobs n s w count

so_far_first : (seed jobs : ℕ) (s : LoadState) (w : World) (count : ℕ) → DoesPart (opening_part (first_load seed jobs)) count s (first shipped) w → SoFar seed jobs 0 s w count
so_far_first seed jobs s w count does =
    let start = first_load seed jobs in
    let small = opening_small start in
    let steps = does.steps in
    let come : HasCome seed jobs 0 (opening_part start).rest w steps = begins w steps does.plays in
    record {
      steps = steps;
      comes = subst (λ s. HasCome seed jobs 0 s w steps) (sym does.rest_is) come;
      played = does.plays.leads;
      served = does.plays.served;
      counted = does.count_is ∙ as_many (first shipped) w (opening_part start).events steps does.plays;
      few = omega (arith, does.count_is, small.few);
      moment = omega (arith, ap (λ (s : LoadState). s.moment) does.rest_is, small.moment, first_moment seed jobs);
      crons = omega (arith, ap (λ (s : LoadState). s.crons) does.rest_is, small.crons, first_crons seed jobs);
    }

so_far_on : (seed jobs n : ℕ) (s t : LoadState) (w v : World) (count more : ℕ) → SoFar seed jobs n s w count → DoesPart (turn_part s w) more t w v → SoFar seed jobs (n + 1) t v (count + more)
so_far_on seed jobs n s t w v count more so_far does =
    let small = turn_small s w in
    let steps = does.steps in
    let all = so_far.steps ++ steps in
    let come : HasCome seed jobs (n + 1) (turn_part s w).rest v all = turns n s w v so_far.steps steps so_far.comes does.plays in
    record {
      steps = all;
      comes = subst (λ s. HasCome seed jobs (n + 1) s v all) (sym does.rest_is) come;
      played = leads_on (first shipped) w v so_far.steps steps so_far.played does.plays.leads;
      served = both_served so_far.steps steps so_far.served does.plays.served;
      counted = omega (arith, so_far.counted, does.count_is, as_many w v (turn_part s w).events steps does.plays, length-append so_far.steps steps);
      few = omega (arith, so_far.few, does.count_is, small.few);
      moment = omega (arith, so_far.moment, ap (λ (s : LoadState). s.moment) does.rest_is, small.moment);
      crons = omega (arith, so_far.crons, ap (λ (s : LoadState). s.crons) does.rest_is, small.crons);
    }

so_far_last : (seed jobs n : ℕ) (s : LoadState) (w : World) (count : ℕ) (tally : Tally) → SoFar seed jobs n s w count → n ≡ 20 * jobs → tally ≡ tally_of w
    → IsSummaryOf seed jobs (record { events = count; tally = tally })
so_far_last seed jobs n s w count tally so_far all is = record {
  steps = so_far.steps;
  load = s;
  world = w;
  comes = subst (λ n. HasCome seed jobs n s w so_far.steps) all so_far.comes;
  played = so_far.played;
  served = so_far.served;
  reliable = reliable shipped so_far.steps so_far.played.run;
  events_are = so_far.counted;
  tally_is = is;
}

-- The beginning is done.
pub begun : (seed jobs : ℕ) (start s : LoadState) (u w : World) (count : ℕ) → start ≡ first_load seed jobs → u ≡ first shipped → DoesPart (opening_part start) count s u w
    → HasTaken seed jobs 0 s w count
unfolding HasTaken
begun seed jobs start s u w count new empty does =
    so_far_first seed jobs s w count (subst (λ v. DoesPart (opening_part (first_load seed jobs)) count s v w) empty (subst (λ l. DoesPart (opening_part l) count s u w) new does))

-- One more turn is done.
pub taken_on : (seed jobs n : ℕ) (s t : LoadState) (w v : World) (count more : ℕ) → HasTaken seed jobs n s w count → DoesPart (turn_part s w) more t w v → HasTaken seed jobs (n + 1) t v (count + more)
unfolding HasTaken
taken_on seed jobs n s t w v count more taken does = so_far_on seed jobs n s t w v count more taken does

-- All turns are done.
pub soaked : (seed jobs n : ℕ) (s : LoadState) (w : World) (count : ℕ) (summary : Summary) → HasTaken seed jobs n s w count → n ≡ 20 * jobs
    → summary ≡ record { events = count; tally = tally_of w } → IsSummaryOf seed jobs summary
unfolding HasTaken
soaked seed jobs n s w count summary taken all is = subst (IsSummaryOf seed jobs) (sym is) (so_far_last seed jobs n s w count (tally_of w) taken all refl)

-- the numbers of a load are small
pub moment_small : (seed jobs n : ℕ) (s : LoadState) (w : World) (count : ℕ) → HasTaken seed jobs n s w count → s.moment ≤ 1700000000000 + 200 * n
unfolding HasTaken
moment_small seed jobs n s w count taken = taken.moment

pub crons_small : (seed jobs n : ℕ) (s : LoadState) (w : World) (count : ℕ) → HasTaken seed jobs n s w count → s.crons ≤ n
unfolding HasTaken
crons_small seed jobs n s w count taken = taken.crons

pub count_small : (seed jobs n : ℕ) (s : LoadState) (w : World) (count : ℕ) → HasTaken seed jobs n s w count → count ≤ 6 + 7 * n
unfolding HasTaken
count_small seed jobs n s w count taken = taken.few
