-- The moment never falls.
use Rattle.std.proofs.Common.{◌≡◌, ◌≤◌, ◌∙◌, List, [], ◌∷◌, refl, arith, Bool, true, false, ◌&&◌}
use Rattle.std.specs.List.{list_all}
use Rattle.std.specs.Prelude.{Option, Some, None}
use Rattle.sk_resp.specs.Spelling.{Bytes}
use Rattle.sk_seats.specs.Works.{first as first_work, is_done_as}
use Rattle.sk_seats.specs.declared.phase.Phase.{Phase}
use Rattle.sk_seats.specs.declared.phase.Phase.TheVariants.{Plain, Joined}
use Rattle.sk_seats.specs.declared.work.Stage.{Stage}
use Rattle.sk_seats.specs.declared.work.Stage.TheVariants.{Held, Put, Settled}
use Rattle.sk_seats.specs.declared.work.Work.{Work}
use Rattle.sk_model.specs.Change.{Add, Carry, Take, Trim, Merge, PutBack, Free, Fire, Change, Moves, Passes, Names, Unnames, Keeps, Turns, Beats, Counts, Recovers, Forgets, Locks, Unlocks, Elects, TakesSlot, Makes, Joins, Notifies, changed, freed, freed_at, freed_work, perform}
use Rattle.sk_model.specs.Event.{Step, after, world_after}
use Rattle.sk_model.specs.World.{World, phase_of}
use Rattle.sk_limit.proofs.Tame.{Tame, is_tame}

at_moment : (ident text : Bytes) (w : World) (stage : Stage) → (freed_at stage ident text w).moment ≡ w.moment
at_moment ident text w Held = refl
at_moment ident text w Put = refl
at_moment ident text w (Settled end) = refl

work_moment : (ident : Bytes) (w : World) (found : Option Work) → (freed_work ident w found).moment ≡ w.moment
work_moment ident w None = refl
work_moment ident w (Some work) = at_moment ident work.payload w work.stage

freed_moment : (text : Bytes) (w : World) (phase : Phase) → (freed text w phase).moment ≡ w.moment
freed_moment text w Plain = refl
freed_moment text w (Joined ident works) = work_moment ident w (first_work (is_done_as text) works)

changed_later : (w : World) (change : Change) → w.moment ≤ (changed w change).moment
changed_later w (Moves (Free seat text)) = let same = freed_moment text w (phase_of w seat) in omega (arith, same)
changed_later w (Moves (Add row end from)) = omega arith
changed_later w (Moves (Carry row from to score end)) = omega arith
changed_later w (Moves (Take row from)) = omega arith
changed_later w (Moves (Trim row)) = omega arith
changed_later w (Moves (Merge row)) = omega arith
changed_later w (Moves (PutBack row)) = omega arith
changed_later w (Moves (Fire bid kind)) = omega arith
changed_later w (Passes now) = omega arith
changed_later w (Names queue) = omega arith
changed_later w (Unnames queue) = omega arith
changed_later w (Keeps keys) = omega arith
changed_later w (Turns seat phase) = omega arith
changed_later w (Beats ident) = omega arith
changed_later w (Counts name) = omega arith
changed_later w (Recovers jid) = omega arith
changed_later w (Forgets jid) = omega arith
changed_later w (Locks digest jid seconds) = omega arith
changed_later w (Unlocks digest jid) = omega arith
changed_later w (Elects ident) = omega arith
changed_later w (TakesSlot loop slot text) = omega arith
changed_later w (Makes batch jids) = omega arith
changed_later w (Joins bid jids) = omega arith
changed_later w (Notifies event bid jid) = omega arith

performed_later : (w : World) (changes : List Change) → w.moment ≤ (perform w changes).moment
performed_later w [] = omega arith
performed_later w (change ∷ changes) =
    let one = changed_later w change in
    let more = performed_later (changed w change) changes in
    omega (arith, one, more)

pub step_later : (w : World) (step : Step) → w.moment ≤ (after w step).moment
step_later w step = performed_later w step.outcome.changes

pub run_later : (w : World) (steps : List Step) → w.moment ≤ (world_after w steps).moment
run_later w [] = omega arith
run_later w (step ∷ steps) = let one = step_later w step in let more = run_later (after w step) steps in omega (arith, one, more)

-- ## Changes that leave the moment

changed_moment : (w : World) (change : Change) → is_tame change ≡ true → (changed w change).moment ≡ w.moment
changed_moment w (Moves (Free seat text)) is = freed_moment text w (phase_of w seat)
changed_moment w (Passes now) is = absurd (cc is)
changed_moment w (Keeps keys) is = absurd (cc is)
changed_moment w (Moves (Add row end from)) is = refl
changed_moment w (Moves (Carry row from to score end)) is = refl
changed_moment w (Moves (Take row from)) is = refl
changed_moment w (Moves (Trim row)) is = refl
changed_moment w (Moves (Merge row)) is = refl
changed_moment w (Moves (PutBack row)) is = refl
changed_moment w (Moves (Fire bid kind)) is = refl
changed_moment w (Names queue) is = refl
changed_moment w (Unnames queue) is = refl
changed_moment w (Turns seat phase) is = refl
changed_moment w (Beats ident) is = refl
changed_moment w (Counts name) is = refl
changed_moment w (Recovers jid) is = refl
changed_moment w (Forgets jid) is = refl
changed_moment w (Locks digest jid seconds) is = refl
changed_moment w (Unlocks digest jid) is = refl
changed_moment w (Elects ident) is = refl
changed_moment w (TakesSlot loop slot text) is = refl
changed_moment w (Makes batch jids) is = refl
changed_moment w (Joins bid jids) is = refl
changed_moment w (Notifies event bid jid) is = refl

both_of : (a b : Bool) → a && b ≡ true → (a ≡ true) × (b ≡ true)
both_of true b e = (refl, e)
both_of false b e = absurd (cc e)

pub tame_moment : (w : World) (changes : List Change) → Tame changes → (perform w changes).moment ≡ w.moment
tame_moment w [] tame = refl
tame_moment w (change ∷ changes) tame =
    let is = both_of (is_tame change) (list_all is_tame changes) tame in
    tame_moment (changed w change) changes is.1 ∙ changed_moment w change is.0
