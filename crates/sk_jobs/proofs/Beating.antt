-- A rescue leaves the heartbeats as they are.
use Rattle.std.proofs.Common.{◌≡◌, Bool, true, false, List, [], ◌∷◌, ◌++◌, refl, ap₂, ◌∙◌, arith, map}
use Rattle.std.specs.Prelude.{Option, Some, None, cond, ◌&&◌}
use Rattle.std.specs.List.{list_all}
use Rattle.std.proofs.lemmas.List.Folds.{list_all-append}
use Rattle.sk_resp.specs.Spelling.{Bytes}
use Rattle.sk_cmd.specs.declared.argument.Side.TheVariants.{Right}
use Rattle.sk_cmd.specs.declared.argument.Scored.TheVariants.{Dead}
use Rattle.sk_payload.specs.Head.{head}
use Rattle.sk_payload.specs.declared.head.Head.{Head}
use Rattle.sk_leases.specs.Lease.{Lease}
use Rattle.sk_batch.specs.declared.firing.Firing.{Firing}
use Rattle.sk_batch.specs.declared.event.Event.{Event}
use Rattle.sk_batch.specs.declared.event.Event.TheVariants.{Died}
use Rattle.sk_batch.specs.Notify.{fires_of}
use Rattle.sk_places.specs.declared.origin.Origin.TheVariants.{Inner}
use Rattle.sk_places.specs.declared.row.Place.TheVariants.{Set}
use Rattle.sk_places.specs.declared.row.Row.{Row}
use Rattle.sk_places.specs.Rows.{row_of, rows_at}
use Rattle.sk_seats.specs.declared.phase.Phase.{Phase}
use Rattle.sk_seats.specs.declared.phase.Phase.TheVariants.{Plain, Joined}
use Rattle.sk_seats.specs.declared.work.Stage.{Stage}
use Rattle.sk_seats.specs.declared.work.Stage.TheVariants.{Held, Put, Settled}
use Rattle.sk_seats.specs.declared.work.Work.{Work}
use Rattle.sk_seats.specs.Works.{first, is_done_as}
use Rattle.sk_model.specs.World.{World, phase_of}
use Rattle.sk_model.specs.Change.{Add, Beats, Carry, Change, Counts, Elects, Fire, Forgets, Free, Joins, Keeps, Locks, Makes, TakesSlot, Merge, Move, Moves, Names, Passes, PutBack, Recovers, Take, Notifies, Trim, Turns, Unlocks, Unnames, changed, freed, freed_at, freed_work, moved, perform}
use Rattle.sk_model.specs.Jobs.{Routed, bury, each, merge, put_dead, surplus, to_queue}
use Rattle.sk_model.specs.Rescue.{bury_poison, is_poison, rescue_row}
use Rattle.sk_model.specs.Notify.{push_callback, fire_all, push_to, notify, notify_in, notify_of}

-- neither a heartbeat nor a moment comes
abbrev pub is_calm : Change → Bool
is_calm (Moves move) = true
is_calm (Passes now) = false
is_calm (Names queue) = true
is_calm (Unnames queue) = true
is_calm (Keeps keys) = true
is_calm (Turns seat phase) = true
is_calm (Beats ident) = false
is_calm (Counts name) = true
is_calm (Recovers jid) = true
is_calm (Forgets jid) = true
is_calm (Locks digest jid seconds) = true
is_calm (Unlocks digest jid) = true
is_calm (Elects ident) = true
is_calm (TakesSlot loop slot text) = true
is_calm (Makes batch jids) = true
is_calm (Joins bid jids) = true
is_calm (Notifies event bid jid) = true

abbrev pub beats_of : World → List Lease
beats_of w = w.leases.beats

at_beats : (stage : Stage) (ident text : Bytes) (w : World) → beats_of (freed_at stage ident text w) ≡ beats_of w
at_beats Held ident text w = refl
at_beats Put ident text w = refl
at_beats (Settled end) ident text w = refl

work_beats : (ident : Bytes) (w : World) (found : Option Work) → beats_of (freed_work ident w found) ≡ beats_of w
work_beats ident w None = refl
work_beats ident w (Some work) = at_beats work.stage ident work.payload w

freed_beats : (text : Bytes) (w : World) (phase : Phase) → beats_of (freed text w phase) ≡ beats_of w
freed_beats text w Plain = refl
freed_beats text w (Joined ident works) = work_beats ident w (first (is_done_as text) works)

moved_beats : (w : World) (move : Move) → beats_of (moved w move) ≡ beats_of w
moved_beats w (Add row end from) = refl
moved_beats w (Carry row from to score end) = refl
moved_beats w (Take row from) = refl
moved_beats w (Trim row) = refl
moved_beats w (Merge row) = refl
moved_beats w (PutBack row) = refl
moved_beats w (Free seat text) = freed_beats text w (phase_of w seat)
moved_beats w (Fire bid kind) = refl

changed_beats : (w : World) (change : Change) → is_calm change ≡ true → beats_of (changed w change) ≡ beats_of w
changed_beats w (Moves move) e = moved_beats w move
changed_beats w (Passes now) e = absurd (cc e)
changed_beats w (Names queue) e = refl
changed_beats w (Unnames queue) e = refl
changed_beats w (Keeps keys) e = refl
changed_beats w (Turns seat phase) e = refl
changed_beats w (Beats ident) e = absurd (cc e)
changed_beats w (Counts name) e = refl
changed_beats w (Recovers jid) e = refl
changed_beats w (Forgets jid) e = refl
changed_beats w (Locks digest jid seconds) e = refl
changed_beats w (Unlocks digest jid) e = refl
changed_beats w (Elects ident) e = refl
changed_beats w (TakesSlot loop slot text) e = refl
changed_beats w (Makes batch jids) e = refl
changed_beats w (Joins bid jids) e = refl
changed_beats w (Notifies event bid jid) e = refl

calm_beats : (w : World) (changes : List Change) → list_all is_calm changes ≡ true → beats_of (perform w changes) ≡ beats_of w
calm_beats w [] e = refl
calm_beats w (change ∷ changes) e = calm_beats (changed w change) changes (grind (arith, e)) ∙ changed_beats w change (grind (arith, e))

-- ## The changes of a rescue

both_calm : (a b : List Change) → list_all is_calm a ≡ true → list_all is_calm b ≡ true → list_all is_calm (a ++ b) ≡ true
both_calm a b e f = list_all-append is_calm a b ∙ ap₂ (λ x y. x && y) e f

push_calm : (text : Bytes) (found : Option Head) → list_all is_calm (push_to Inner text found) ≡ true
push_calm text None = refl
push_calm text (Some h) = refl

push_callback_calm : (payload : Option Bytes) → list_all is_calm (push_callback payload) ≡ true
push_callback_calm None = refl
push_callback_calm (Some text) = push_calm text (head text)

fires_calm : (firings : List Firing) → list_all is_calm (fire_all firings) ≡ true
fires_calm [] = refl
fires_calm (f ∷ firings) = both_calm (push_callback f.payload) (fire_all firings) (push_callback_calm f.payload) (fires_calm firings)

notify_in_calm : (w : World) (event : Event) (jid : Bytes) (bid : Option Bytes) → list_all is_calm (notify_in event w jid bid).changes ≡ true
notify_in_calm w event jid None = refl
notify_in_calm w event jid (Some bid) = fires_calm (fires_of event bid jid w.batches)

notify_calm : (w : World) (event : Event) (found : Option Head) → list_all is_calm (notify_of event w found).changes ≡ true
notify_calm w event None = refl
notify_calm w event (Some h) = notify_in_calm w event h.jid h.bid

merge_calm : (found : Option Row) → list_all is_calm (merge found) ≡ true
merge_calm None = refl
merge_calm (Some row) = refl

trims_calm : (rows : List Row) → list_all is_calm (map (λ row. Moves (Trim row)) rows) ≡ true
trims_calm [] = refl
trims_calm (row ∷ rows) = trims_calm rows

bury_calm : (w : World) (row : Row) → list_all is_calm (bury w row).changes ≡ true
bury_calm w row =
    let put : List Change = put_dead w row in
    let after : World = perform w put in
    let trims : List Change = map (λ r. Moves (Trim r)) (surplus after (rows_at (Set Dead) after.rows)) in
    let merged : List Change = merge (row_of row.text (rows_at (Set Dead) w.rows)) in
    both_calm (put ++ trims) (notify Died (perform w (put ++ trims)) row.text).changes
    (both_calm put trims (both_calm merged _ (merge_calm (row_of row.text (rows_at (Set Dead) w.rows))) refl) (trims_calm (surplus after (rows_at (Set Dead) after.rows))))
    (notify_calm (perform w (put ++ trims)) Died (head row.text))

either_calm : (b : Bool) (one other : Routed) → list_all is_calm one.changes ≡ true → list_all is_calm other.changes ≡ true → list_all is_calm (cond b one other).changes ≡ true
either_calm true one other e f = e
either_calm false one other e f = f

row_calm : (w : World) (row : Row) (found : Option Head) → list_all is_calm (rescue_row w row found).changes ≡ true
row_calm w row None = bury_calm w row
row_calm w row (Some h) =
    let noted : World = changed w (Recovers h.jid) in
    either_calm (is_poison noted h.jid) (bury_poison noted row h.jid) (to_queue Right row h) (both_calm (bury noted row).changes (Forgets h.jid ∷ []) (bury_calm noted row) refl) refl

each_calm : (w : World) (rows : List Row) → list_all is_calm (each rescue_row w rows).changes ≡ true
each_calm w [] = refl
each_calm w (row ∷ rows) =
    let one : Routed = rescue_row w row (head row.text) in
    both_calm one.changes (each rescue_row (perform w one.changes) rows).changes (row_calm w row (head row.text)) (each_calm (perform w one.changes) rows)

pub rescue_beats : (w : World) (rows : List Row) → beats_of (perform w (each rescue_row w rows).changes) ≡ beats_of w
rescue_beats w rows = calm_beats w (each rescue_row w rows).changes (each_calm w rows)
