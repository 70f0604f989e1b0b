-- A seat that turns once a step is closed may as well have turned at its begin, where the same jobs stay in the seats' hands.
use Rattle.std.proofs.Common.{◌≡◌, ◌<◌, ◌∙◌, ℕ, ◌+◌, Bool, List, [], ◌∷◌, ap, ap₂, length, not, refl, subst, sym}
use Rattle.std.specs.Prelude.{Option, Some, None, Result, Ok, Err, IsErr, ◌&&◌, cond}
use Rattle.std.specs.BTreeSet.{insert_key}
use Rattle.sk_resp.specs.Reply.{wire}
use Rattle.sk_resp.specs.Spelling.{Bytes}
use Rattle.sk_resp.specs.WordOrder.{text_cmp}
use Rattle.sk_resp.specs.declared.reply.Reply.{Reply}
use Rattle.sk_resp.specs.declared.reply.Reply.TheVariants as reply
use Rattle.sk_cmd.specs.declared.argument.Scored.TheVariants.{Dead}
use Rattle.sk_cmd.specs.declared.argument.Side.{Side}
use Rattle.sk_cmd.specs.declared.argument.Side.TheVariants.{Left}
use Rattle.sk_payload.specs.Head.{head, jid_of}
use Rattle.sk_payload.specs.declared.head.Head.{Head}
use Rattle.sk_value.specs.Answer.{counted, texts}
use Rattle.sk_places.specs.LiveJobs.{is_among, one_if, without_jid}
use Rattle.sk_places.specs.Placed.{named}
use Rattle.sk_places.specs.Rows.{put_row, row_at}
use Rattle.sk_places.specs.Totals.{count_end, count_push}
use Rattle.sk_places.specs.declared.ending.Ending.TheVariants.{Muddled}
use Rattle.sk_places.specs.declared.origin.Origin.{Origin}
use Rattle.sk_places.specs.declared.origin.Origin.TheVariants.{Inner}
use Rattle.sk_places.specs.declared.row.Place.TheVariants.{Queue}
use Rattle.sk_places.specs.declared.row.Row.{Row}
use Rattle.sk_places.specs.declared.totals.Totals.{Totals}
use Rattle.sk_batch.specs.Notify.{fires_of}
use Rattle.sk_batch.specs.declared.event.Event.{Event}
use Rattle.sk_batch.specs.declared.event.Event.TheVariants.{Died}
use Rattle.sk_batch.specs.declared.firing.Firing.{Firing}
use Rattle.sk_seats.specs.Phases.{Phases, phase_in, some_has, staging, staging_at, turned, works_of}
use Rattle.sk_seats.specs.Works.{is_buried_as}
use Rattle.sk_seats.proofs.Working.{staging_is}
use Rattle.sk_seats.specs.declared.phase.Phase.{Phase}
use Rattle.sk_seats.specs.declared.work.Stage.{Stage}
use Rattle.sk_seats.specs.declared.work.Stage.TheVariants.{Put}
use Rattle.sk_seats.specs.declared.work.Work.{Work}
use Rattle.sk_model.specs.Change.{Add, Change, Fire, Notifies, Trim, Turns, changed, moved, perform}
use Rattle.sk_model.specs.Jobs.{moment_score, reports}
use Rattle.sk_model.specs.Live.{born, count_job, stands}
use Rattle.sk_model.specs.Outcome.{Realizes, Outcome}
use Rattle.sk_model.specs.Sets.{put_back}
use Rattle.sk_model.specs.Notify.{Notified, and_notify, push_callback, fire_all, fired, push_to, notify, notify_in, notify_of}
use Rattle.sk_model.specs.Workers.{bury_text}
use Rattle.sk_model.specs.World.{World}
use Rattle.sk_model.proofs.Changes.Lawful.{perform-append}
use Rattle.sk_store.specs.Stored.{Executes}
use Rattle.sk_store.specs.declared.store.Store.{Store}
use Rattle.sk_jobs.specs.Callbacks.{counts_processed}
use Rattle.sk_jobs.specs.Seated.{IsFound}
use Rattle.sk_jobs.specs.Routing.{buries_text, texts_of, trims}
use Rattle.sk_jobs.proofs.Burying.{surplus_of}
use Rattle.sk_jobs.proofs.Working.{put_leaves}

-- the same jobs are in the seats' hands
abbrev pub Alike : Phases → Phases → Type 0
Alike phases others = (jid : Bytes) → some_has jid phases ≡ some_has jid others

abbrev pub with_phases : Phases → World → World
with_phases p w = record w { phases = p }

-- ## Pushes

born_alike : (p : Phases) (w : World) (o : Option Bytes) → Alike p w.phases → born (with_phases p w) o ≡ born w o
born_alike p w None same = refl
born_alike p w (Some jid) same = ap (λ b. cond (not (stands w jid) && not b) (insert_key text_cmp w.live jid) (without_jid jid w.live)) (same jid)

count_alike : (p : Phases) (w : World) (o : Option Bytes) (t : Totals) → Alike p w.phases → count_job (with_phases p w) o t ≡ count_job w o t
count_alike p w None t same = refl
count_alike p w (Some jid) t same = ap (λ b. cond (not (stands w jid) && not b) t (count_end Muddled (one_if (is_among jid w.live)) (record t { again = t.again + 1 }))) (same jid)

add_apart : (p : Phases) (w : World) (row : Row) (end : Side) (from : Origin) → Alike p w.phases → moved (with_phases p w) (Add row end from) ≡ with_phases p (moved w (Add row end from))
add_apart p w row end from same =
    ap₂ (λ (live : List Bytes) (tally : Totals). record w { rows = put_row end row w.rows; names = named row.place w.names; live = live; tally = tally; phases = p })
    (born_alike p w (jid_of row.text) same) (count_alike p w (jid_of row.text) (count_push from w.tally) same)

push_apart : (p : Phases) (w : World) (text : Bytes) (found : Option Head) → Alike p w.phases → perform (with_phases p w) (push_to Inner text found) ≡ with_phases p (perform w (push_to Inner text found))
push_apart p w text None same = refl
push_apart p w text (Some h) same = add_apart p w (row_at (Queue h.queue) text) Left Inner same

push_callback_apart : (p : Phases) (w : World) (o : Option Bytes) → Alike p w.phases → perform (with_phases p w) (push_callback o) ≡ with_phases p (perform w (push_callback o))
push_callback_apart p w None same = refl
push_callback_apart p w (Some text) same = push_apart p w text (head text) same

-- a push leaves the seats alone
push_leaves : (w : World) (text : Bytes) (found : Option Head) → (perform w (push_to Inner text found)).phases ≡ w.phases
push_leaves w text None = refl
push_leaves w text (Some h) = refl

push_callback_leaves : (w : World) (o : Option Bytes) → (perform w (push_callback o)).phases ≡ w.phases
push_callback_leaves w None = refl
push_callback_leaves w (Some text) = push_leaves w text (head text)

-- ## What batches are told

fires_apart : (p : Phases) (w : World) (fs : List Firing) → Alike p w.phases → perform (with_phases p w) (fire_all fs) ≡ with_phases p (perform w (fire_all fs))
fires_apart p w [] same = refl
fires_apart p w (f ∷ fs) same =
    let v : World = moved w (Fire f.bid f.kind) in
    let u : World = perform v (push_callback f.payload) in
    perform-append (with_phases p v) (push_callback f.payload) (fire_all fs)
    ∙ ap (λ x. perform x (fire_all fs)) (push_callback_apart p v f.payload same)
    ∙ fires_apart p u fs (subst (Alike p) (sym (push_callback_leaves v f.payload)) same)
    ∙ ap (with_phases p) (sym (perform-append v (push_callback f.payload) (fire_all fs)))

notified_alike : (p : Phases) (w : World) (event : Event) (found : Option Head) → notify_of event (with_phases p w) found ≡ notify_of event w found
notified_alike p w event None = refl
notified_alike p w event (Some h) = by_bid h.bid where
  by_bid : (o : Option Bytes) → notify_in event (with_phases p w) h.jid o ≡ notify_in event w h.jid o
  by_bid None = refl
  by_bid (Some bid) = refl

notified_apart : (p : Phases) (w : World) (event : Event) (found : Option Head) → Alike p w.phases → perform (with_phases p w) (notify_of event w found).changes ≡ with_phases p (perform w (notify_of event w found).changes)
notified_apart p w event None same = refl
notified_apart p w event (Some h) same = by_bid h.bid where
  by_bid : (o : Option Bytes) → perform (with_phases p w) (notify_in event w h.jid o).changes ≡ with_phases p (perform w (notify_in event w h.jid o).changes)
  by_bid None = refl
  by_bid (Some bid) = fires_apart p (changed w (Notifies event bid h.jid)) (fires_of event bid h.jid w.batches) same

-- what a batch is told, once the seats are turned
notify_apart : (p : Phases) (w : World) (event : Event) (text : Bytes) → Alike p w.phases → with_phases p (perform w (notify event w text).changes) ≡ perform (with_phases p w) (notify event (with_phases p w) text).changes
notify_apart p w event text same = sym (notified_apart p w event (head text) same) ∙ ap (λ (t : Notified). perform (with_phases p w) t.changes) (sym (notified_alike p w event (head text)))

-- a job has returned, and then its seat turned
pub returned_turned : (w new next : World) (event : Event) (seat : ℕ) (phase : Phase) (text : Bytes) (answer : Reply) → Alike (turned seat phase w.phases) w.phases
    → Realizes w (and_notify event w text counts_processed) answer new → next ≡ with_phases (turned seat phase w.phases) new → Realizes w (and_notify event w text (Turns seat phase ∷ counts_processed)) answer next
returned_turned w new next event seat phase text answer same comes e =
    let p : Phases = turned seat phase w.phases in
    let v : World = perform w counts_processed in
    record {
      reply_is = comes.reply_is ∙ ap (λ (t : Notified). fired t.firings) (sym (notified_alike p v event (head text)));
      new_is = e ∙ ap (with_phases p) comes.new_is ∙ notify_apart p v event text same;
    }

-- ## Burials

trims_apart : (p : Phases) (w : World) (rows : List Row) → perform (with_phases p w) (trims rows) ≡ with_phases p (perform w (trims rows))
trims_apart p w [] = refl
trims_apart p w (row ∷ rows) = trims_apart p (moved w (Trim row)) rows

trims_leave : (w : World) (rows : List Row) → (perform w (trims rows)).phases ≡ w.phases
trims_leave w [] = refl
trims_leave w (row ∷ rows) = trims_leave (moved w (Trim row)) rows

-- a text was buried, and then its seat turned
pub buried_turned : (w new next : World) (seat : ℕ) (phase : Phase) (text : Bytes) (answer : Reply) → Alike (turned seat (staging (is_buried_as text) Put phase) w.phases) w.phases
    → Realizes w (buries_text w text) answer new → next ≡ with_phases (turned seat (staging (is_buried_as text) Put phase) w.phases) new → Realizes w (reports (bury_text w seat phase text)) answer next
buried_turned w new next seat phase text answer same comes e =
    let after : Phase = staging (is_buried_as text) Put phase in
    let put : Change = put_back w Dead (moment_score w, text) in
    let u : World = changed w put in
    let stays : u.phases ≡ w.phases = put_leaves w Dead (moment_score w, text) _ in
    let p : Phases = turned seat after u.phases in
    let gone : List Row = surplus_of u in
    let m : World = perform u (trims gone) in
    let alike : Alike p m.phases = subst (Alike p) (sym (trims_leave u gone)) (subst (λ q. Alike (turned seat after q) q) (sym stays) same) in
    let there : perform (with_phases p u) (trims gone) ≡ with_phases p m = trims_apart p u gone in
    let told : notify Died (perform (with_phases p u) (trims gone)) text ≡ notify Died m text = ap (λ x. notify Died x text) there ∙ notified_alike p m Died (head text) in
    record {
      reply_is = comes.reply_is ∙ ap (λ (t : Notified). reply.Array (wire (counted 0) ∷ wire (counted 1) ∷ wire (fired t.firings) ∷ wire (texts (texts_of gone)) ∷ [])) (sym told);
      new_is = e ∙ ap (λ q. with_phases (turned seat after q) new) (sym stays) ∙ ap (with_phases p) (comes.new_is ∙ perform-append u (trims gone) (notify Died m text).changes)
          ∙ notify_apart p m Died text alike
          ∙ ap (λ x. perform x (notify Died x text).changes) (sym there)
          ∙ sym (perform-append (with_phases p u) (trims gone) (notify Died (perform (with_phases p u) (trims gone)) text).changes);
    }

-- ## The turn

-- the seat turned as it would have at the begin of the step
pub staged_is : (was now next : Phases) (seat at : ℕ) (test : Work → Bool) (stage : Stage) → now ≡ was → IsFound test (phase_in was seat) at
    → next ≡ turned seat (staging_at at stage (phase_in now seat)) now → next ≡ turned seat (staging test stage (phase_in was seat)) was
staged_is was now next seat at test stage same found staged =
    subst (λ (p : Phases). next ≡ turned seat (staging_at at stage (phase_in p seat)) p) same staged
    ∙ ap (λ ph. turned seat ph was) (staging_is test stage (phase_in was seat) at found.is)

pub within_still : (was now : Phases) (seat at : ℕ) (test : Work → Bool) → now ≡ was → IsFound test (phase_in was seat) at → at < length (works_of (phase_in now seat))
within_still was now seat at test same found = subst (λ (p : Phases). at < length (works_of (phase_in p seat))) (sym same) found.within

-- where memory was wanting the store is as before
pub starved : {E : Type 0} (old new : Store) (o : Outcome) (r : Result Reply E) → IsErr r → new ≡ old → Executes old o r new
starved old new o (Ok x) is same = absurd (cc is)
starved old new o (Err m) is same = same
