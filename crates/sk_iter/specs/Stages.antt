-- The stages of a call that has read its cursor. No public contract speaks of them.
use Rattle.std.specs.Prelude.{◌+◌, ◌∷◌, ◌++◌, [], ℕ, Bool, List, Option, Result, Ok, Err}
use Rattle.sk_link.specs.Call.{Call as LinkCall}
use Rattle.sk_worker.specs.declared.job.Outcome.{Outcome}
use Rattle.sk_worker.specs.declared.job.Outcome.TheVariants as outcome
use Rattle.sk_iter.specs.Deeds.{Deed, Pace, raised_at, returned, returned_one, runs, save_if, whole}
use Rattle.sk_iter.specs.Ends.{StopsAt}
use Rattle.sk_iter.specs.Event.{ItemRun}
use Rattle.sk_iter.specs.Performs.{Performs, Sends}
use Rattle.sk_iter.specs.declared.call.Call.{Call}
use Rattle.sk_iter.specs.declared.call.Stop.{Stop}
use Rattle.sk_iter.specs.declared.iter_end.IterEnd.{IterEnd}
use Rattle.sk_iter.specs.declared.iter_end.IterEnd.TheVariants.{Done, Paused, Raised}
use Rattle.sk_iter.specs.declared.iter_end.IterFault.{IterFault}

abbrev pub pace_of : Call → Pace
pace_of c = record { jid = c.jid.now; every = c.bounds.every; cursor = c.cursor }

-- Once `n` items have returned, the next number was saved, where that was due.
abbrev pub Saves : {T : Type 0} → (List LinkCall → Type 0) → Call → Bool → ℕ → Result T IterFault → Type 0
Saves Carried c due n result = Sends Carried c.jid.now (save_if due c.jid.now (c.cursor + n)) result

-- what is done for the item behind `n` others, by what it came to
abbrev pub item_deeds : Pace → ℕ → Outcome → List Deed
item_deeds p n outcome.Returned = returned_one p n
item_deeds p n (outcome.Raised it) = runs (record { index = p.cursor + n; outcome = outcome.Raised it }) ∷ []

-- The item behind `n` others was run; or that, or the save behind it, was broken off.
abbrev pub RunsItem : (List LinkCall → Type 0) → Option (List ItemRun) → Option (List ItemRun) → Pace → ℕ → Result Outcome IterFault → Type 0
RunsItem Carried before after p n (Ok o) = Performs Carried before after p.jid (item_deeds p n o) (Ok o)
RunsItem Carried before after p n (Err f) = Performs {T = Outcome} Carried before after p.jid (returned_one p n) (Err f)

-- The call was broken off somewhere before its end.
abbrev pub BreaksOff : (List LinkCall → Type 0) → Option (List ItemRun) → Option (List ItemRun) → Call → IterFault → Type 0
BreaksOff Carried before after c f =
    (n : ℕ) × (end : IterEnd) × StopsAt c.bounds c.cursor n end × Performs {T = IterEnd} Carried before after c.jid.now (whole (pace_of c) n end) (Err f)

-- No item raised at the end.
abbrev pub IsQuiet : IterEnd → Type 0
IsQuiet Done = Unit {0}
IsQuiet (Paused next) = Unit {0}
IsQuiet (Raised index it) = ⊥

-- The items were run up to where the call stops.
abbrev pub RunsItems : (List LinkCall → Type 0) → Option (List ItemRun) → Option (List ItemRun) → Call → Result Stop IterFault → Type 0
RunsItems Carried before after c (Ok stop) =
    StopsAt c.bounds c.cursor stop.returned stop.end
    × Performs {T = Stop} Carried before after c.jid.now (returned (pace_of c) stop.returned ++ raised_at (pace_of c) stop.returned stop.end) (Ok stop)
RunsItems Carried before after c (Err f) = BreaksOff Carried before after c f

-- The call went to its end.
abbrev pub Goes : (List LinkCall → Type 0) → Option (List ItemRun) → Option (List ItemRun) → Call → Result IterEnd IterFault → Type 0
Goes Carried before after c (Ok end) =
    (n : ℕ) × StopsAt c.bounds c.cursor n end × Performs {T = IterEnd} Carried before after c.jid.now (whole (pace_of c) n end) (Ok end)
Goes Carried before after c (Err f) = BreaksOff Carried before after c f
