-- What the changes of every command owe to the laws on jobs and their rows. Proved for each kind of change, and for one list of changes after another.
use Rattle.std.proofs.Common.{◌≡◌, ℕ, ℤ, ◌+◌, List, [], ◌∷◌, ◌++◌, refl, sym, ap, subst, ◌∙◌, arith, true, false}
use Rattle.std.specs.List.{list_any}
use Rattle.sk_resp.specs.Spelling.{Bytes}
use Rattle.sk_places.specs.declared.row.Place.{Place}
use Rattle.sk_places.specs.declared.row.Row.{Row}
use Rattle.sk_cmd.specs.declared.argument.Side.{Side}
use Rattle.sk_cmd.specs.declared.argument.Side.TheVariants.{Left}
use Rattle.sk_value.specs.Keys.{Keys}
use Rattle.sk_batch.specs.declared.batch.Batch.{Batch}
use Rattle.sk_batch.specs.declared.event.Event.{Event}
use Rattle.sk_batch.specs.declared.firing.Kind.{Kind}
use Rattle.sk_places.specs.Rows.{is_same, take_row}
use Rattle.sk_seats.specs.declared.phase.Phase.{Phase}
use Rattle.sk_model.specs.World.{World, phase_of}
use Rattle.sk_model.specs.Change.{Add, Carry, Take, Trim, Merge, PutBack, Free, Change, Moves, Passes, Names, Unnames, Keeps, Turns, Beats, Counts, Recovers, Forgets, Locks, Unlocks, Elects, TakesSlot, Fire, Makes, Joins, Notifies, carried, moved, changed, perform}
use Rattle.sk_model.specs.Laws.{copies, pushed, taken}
use Rattle.sk_model.specs.Life.{Life, Live, IsKept, IsSound, Knows, life_after, life_through}
use Rattle.sk_places.specs.declared.ending.Ending.TheVariants.{Deleted, Trimmed}
use Rattle.sk_places.specs.declared.origin.Origin.{Origin}
use Rattle.sk_model.proofs.Changes.Rows.{some}
use Rattle.sk_model.proofs.Changes.Accounted.{sound_change, known_change}
use Rattle.sk_model.proofs.Changes.Copies.{copies-put_row, copies-take_row, copies-freed}
use Rattle.sk_model.proofs.Changes.Fired.{perform-append}
use Rattle.sk_model.proofs.Changes.Kept.{Ready, kept_by_texts, kept_add, kept_carry, kept_put, kept_gone, kept_merge, kept_free, kept_turn}

pub record KeepsJobs (w : World) (changes : List Change) : Type 0 where
  -- a job that is live afterwards is kept, where it was kept if it was live before
  pub lives : (jid : Bytes) (life : Life) → (life ≡ Live → IsKept w jid) → life_through w jid life changes ≡ Live → IsKept (perform w changes) jid
  -- a text stands as often as before, once more for each time that it is brought, and once less for each row of it that is taken
  pub counts : (text : Bytes) → copies text (perform w changes) + taken text w changes ≡ pushed text changes + copies text w
  -- what the world knows of lives stays sound
  pub sound : IsSound w → IsSound (perform w changes)
  pub knows : (jid : Bytes) (life : Life) → IsSound w → Knows w jid life → Knows (perform w changes) jid (life_through w jid life changes)

pushed-append : (text : Bytes) (a b : List Change) → pushed text (a ++ b) ≡ pushed text a + pushed text b
pushed-append text [] b = omega arith
pushed-append text (change ∷ a) b = omega (arith, pushed-append text a b)

taken-append : (text : Bytes) (w : World) (a b : List Change) → taken text w (a ++ b) ≡ taken text w a + taken text (perform w a) b
taken-append text w [] b = omega arith
taken-append text w (change ∷ a) b = omega (arith, taken-append text (changed w change) a b)

life_through-append : (w : World) (jid : Bytes) (was : Life) (a b : List Change) → life_through w jid was (a ++ b) ≡ life_through (perform w a) jid (life_through w jid was a) b
life_through-append w jid was [] b = refl
life_through-append w jid was (change ∷ a) b = life_through-append (changed w change) jid (life_after w jid was change) a b

pub keeps_nothing : (w : World) → KeepsJobs w []
keeps_nothing w = record { lives = λ jid life was live. was live; counts = λ text. omega arith; sound = λ s. s; knows = λ jid life s k. k }

pub keeps_append : (w : World) (a b : List Change) → KeepsJobs w a → KeepsJobs (perform w a) b → KeepsJobs w (a ++ b)
keeps_append w a b first then_ = record {
  lives = λ jid life stood live. subst (λ (v : World). IsKept v jid) (sym (perform-append w a b))
      (then_.lives jid (life_through w jid life a) (first.lives jid life stood) (sym (life_through-append w jid life a b) ∙ live));
  counts = λ text. omega (arith, ap (copies text) (perform-append w a b), pushed-append text a b, taken-append text w a b, first.counts text, then_.counts text);
  sound = λ s. subst IsSound (sym (perform-append w a b)) (then_.sound (first.sound s));
  knows = λ jid life s k. subst (λ (v : World). Knows v jid (life_through w jid life (a ++ b))) (sym (perform-append w a b))
      (subst (Knows (perform (perform w a) b) jid) (sym (life_through-append w jid life a b)) (then_.knows jid (life_through w jid life a) (first.sound s) (first.knows jid life s k)));
}

-- one change, and then others
pub keeps_others : (w : World) (change : Change) (changes : List Change) → KeepsJobs w (change ∷ []) → KeepsJobs (changed w change) changes → KeepsJobs w (change ∷ changes)
keeps_others w change changes one more = keeps_append w (change ∷ []) changes one more

-- one change
one_change : (w : World) (change : Change) → ((jid : Bytes) (life : Life) → (life ≡ Live → IsKept w jid) → life_after w jid life change ≡ Live → IsKept (changed w change) jid)
    → ((text : Bytes) → copies text (changed w change) + taken text w (change ∷ []) ≡ pushed text (change ∷ []) + copies text w) → KeepsJobs w (change ∷ [])
one_change w change lives counts = record { lives = lives; counts = counts; sound = sound_change w change lives; knows = λ jid life s k. known_change w change jid life s k }

-- one that leaves the rows and the seats alone
quiet : (w : World) (change : Change) → ((jid : Bytes) (life : Life) → (life ≡ Live → IsKept w jid) → life_after w jid life change ≡ Live → IsKept w jid) → (changed w change).rows ≡ w.rows → (changed w change).phases ≡ w.phases
    → ((text : Bytes) → copies text (changed w change) + taken text w (change ∷ []) ≡ pushed text (change ∷ []) + copies text w) → KeepsJobs w (change ∷ [])
quiet w change lives rows phases counts = one_change w change (λ jid life was live. kept_by_texts w (changed w change) jid (λ test stood. ap (λ rs. some test rs) rows ∙ stood) phases (lives jid life was live)) counts

pub keeps_add : (w : World) (row : Row) (end : Side) (from : Origin) → KeepsJobs w (Moves (Add row end from) ∷ [])
keeps_add w row end from = one_change w (Moves (Add row end from)) (λ jid life was live. kept_add w row end from jid life was live) (λ text. omega (arith, copies-put_row text end row w.rows))

pub keeps_put : (w : World) (row : Row) → KeepsJobs w (Moves (PutBack row) ∷ [])
keeps_put w row = one_change w (Moves (PutBack row)) (λ jid life was live. kept_put w row jid (was live)) (λ text. omega (arith, copies-put_row text Left row w.rows))

-- a row that is there may go to another place
pub keeps_carry : (w : World) (row : Row) (from : Side) (to : Place) (score : ℤ) (end : Side) → list_any (is_same row) w.rows ≡ true → KeepsJobs w (Moves (Carry row from to score end) ∷ [])
keeps_carry w row from to score end there = one_change w (Moves (Carry row from to score end)) (λ jid life was live. kept_carry w row from to score end jid (was live))
    (λ text. omega (arith, copies-put_row text end (carried row to score) (take_row from row w.rows), copies-take_row text from row w.rows there))

-- a row that is there may be taken away
pub keeps_take : (w : World) (row : Row) (from : Side) → list_any (is_same row) w.rows ≡ true → KeepsJobs w (Moves (Take row from) ∷ [])
keeps_take w row from there = one_change w (Moves (Take row from)) (λ jid life was live. kept_gone w (moved w (Take row from)) row from jid life Deleted refl refl was live) (λ text. omega (arith, copies-take_row text from row w.rows there))

-- or be trimmed
pub keeps_trim : (w : World) (row : Row) → list_any (is_same row) w.rows ≡ true → KeepsJobs w (Moves (Trim row) ∷ [])
keeps_trim w row there = one_change w (Moves (Trim row)) (λ jid life was live. kept_gone w (moved w (Trim row)) row Left jid life Trimmed refl refl was live) (λ text. omega (arith, copies-take_row text Left row w.rows there))

-- or become one with another of its text
pub keeps_merge : (w : World) (row other : Row) → row.text ≡ other.text → is_same row other ≡ false → list_any (is_same other) w.rows ≡ true → list_any (is_same row) w.rows ≡ true → KeepsJobs w (Moves (Merge row) ∷ [])
keeps_merge w row other e apart other_there there = one_change w (Moves (Merge row)) (λ jid life was live. kept_merge w row other jid e apart other_there (was live)) (λ text. omega (arith, copies-take_row text Left row w.rows there))

-- a seat releases a job of this text, whatever stands of it
pub keeps_free : (w : World) (seat : ℕ) (freed : Bytes) → KeepsJobs w (Moves (Free seat freed) ∷ [])
keeps_free w seat freed = one_change w (Moves (Free seat freed)) (λ jid life was live. kept_free w seat freed jid life was live) (λ text. omega (arith, copies-freed text freed w (phase_of w seat)))

-- a seat turns to a phase that it is ready for
pub keeps_turn : (w : World) (seat : ℕ) (phase : Phase) → Ready w (phase_of w seat) phase → KeepsJobs w (Turns seat phase ∷ [])
keeps_turn w seat phase ready = one_change w (Turns seat phase) (λ jid life was live. kept_turn w seat phase jid ready (was live)) (λ text. omega arith)

pub keeps_passes : (w : World) (now : ℕ) → KeepsJobs w (Passes now ∷ [])
keeps_passes w now = quiet w (Passes now) (λ jid life was live. was live) refl refl (λ text. omega arith)

pub keeps_names : (w : World) (queue : Bytes) → KeepsJobs w (Names queue ∷ [])
keeps_names w queue = quiet w (Names queue) (λ jid life was live. was live) refl refl (λ text. omega arith)

pub keeps_unnames : (w : World) (queue : Bytes) → KeepsJobs w (Unnames queue ∷ [])
keeps_unnames w queue = quiet w (Unnames queue) (λ jid life was live. was live) refl refl (λ text. omega arith)

pub keeps_keeps : (w : World) (keys : Keys) → KeepsJobs w (Keeps keys ∷ [])
keeps_keeps w keys = quiet w (Keeps keys) (λ jid life was live. was live) refl refl (λ text. omega arith)

pub keeps_beats : (w : World) (ident : Bytes) → KeepsJobs w (Beats ident ∷ [])
keeps_beats w ident = quiet w (Beats ident) (λ jid life was live. was live) refl refl (λ text. omega arith)

pub keeps_counts : (w : World) (name : Bytes) → KeepsJobs w (Counts name ∷ [])
keeps_counts w name = quiet w (Counts name) (λ jid life was live. was live) refl refl (λ text. omega arith)

pub keeps_recovers : (w : World) (jid : Bytes) → KeepsJobs w (Recovers jid ∷ [])
keeps_recovers w jid = quiet w (Recovers jid) (λ j life was live. was live) refl refl (λ text. omega arith)

pub keeps_forgets : (w : World) (jid : Bytes) → KeepsJobs w (Forgets jid ∷ [])
keeps_forgets w jid = quiet w (Forgets jid) (λ j life was live. was live) refl refl (λ text. omega arith)

pub keeps_locks : (w : World) (digest jid : Bytes) (seconds : ℕ) → KeepsJobs w (Locks digest jid seconds ∷ [])
keeps_locks w digest jid seconds = quiet w (Locks digest jid seconds) (λ j life was live. was live) refl refl (λ text. omega arith)

pub keeps_unlocks : (w : World) (digest jid : Bytes) → KeepsJobs w (Unlocks digest jid ∷ [])
keeps_unlocks w digest jid = quiet w (Unlocks digest jid) (λ j life was live. was live) refl refl (λ text. omega arith)

pub keeps_leads : (w : World) (ident : Bytes) → KeepsJobs w (Elects ident ∷ [])
keeps_leads w ident = quiet w (Elects ident) (λ j life was live. was live) refl refl (λ text. omega arith)

pub keeps_marks : (w : World) (loop : Bytes) (slot : ℕ) (text : Bytes) → KeepsJobs w (TakesSlot loop slot text ∷ [])
keeps_marks w loop slot text = quiet w (TakesSlot loop slot text) (λ j life was live. was live) refl refl (λ text. omega arith)

pub keeps_fire : (w : World) (bid : Bytes) (kind : Kind) → KeepsJobs w (Moves (Fire bid kind) ∷ [])
keeps_fire w bid kind = quiet w (Moves (Fire bid kind)) (λ jid life was live. was live) refl refl (λ text. omega arith)

pub keeps_makes : (w : World) (batch : Batch) (jids : List Bytes) → KeepsJobs w (Makes batch jids ∷ [])
keeps_makes w batch jids = quiet w (Makes batch jids) (λ jid life was live. was live) refl refl (λ text. omega arith)

pub keeps_joins : (w : World) (bid : Bytes) (jids : List Bytes) → KeepsJobs w (Joins bid jids ∷ [])
keeps_joins w bid jids = quiet w (Joins bid jids) (λ jid life was live. was live) refl refl (λ text. omega arith)

pub keeps_notifies : (w : World) (event : Event) (bid jid : Bytes) → KeepsJobs w (Notifies event bid jid ∷ [])
keeps_notifies w event bid jid = quiet w (Notifies event bid jid) (λ j life was live. was live) refl refl (λ text. omega arith)
