-- What batches are told, and what they fire.
use Rattle.std.proofs.Common.{◌≡◌, List, [], ◌∷◌, refl, sym, ap, ap₂, ◌∙◌}
use Rattle.std.specs.Prelude.{Bool, Option, Some, None, Result, Ok, Err, IfOk, OnOk}
use Rattle.sk_undo.specs.Versions.{Versions, edited}
use Rattle.sk_cmd.specs.declared.argument.Side.{Side}
use Rattle.sk_places.specs.declared.origin.Origin.{Origin}
use Rattle.sk_places.specs.declared.row.Place.TheVariants.{Queue}
use Rattle.sk_places.specs.declared.row.Row.{Row}
use Rattle.sk_places.specs.Placed.{Placed, pushed_to}
use Rattle.sk_resp.specs.Spelling.{Bytes}
use Rattle.sk_batch.specs.Batched.{Batched}
use Rattle.sk_batch.specs.Events.{fired, marked}
use Rattle.sk_batch.specs.Notify.{mark_of}
use Rattle.sk_batch.specs.declared.event.Event.{Event}
use Rattle.sk_batch.specs.declared.firing.Firing.{Firing}
use Rattle.sk_batch.specs.declared.member.Member.{Member}
use Rattle.sk_places.specs.declared.origin.Origin.TheVariants.{Inner}
use Rattle.sk_payload.specs.Head.{head}
use Rattle.sk_payload.specs.declared.head.Head.{Head}
use Rattle.sk_model.specs.Change.{Fire, Moves, changed, perform}
use Rattle.sk_model.specs.Notify.{push_callback, fire_all, fired_texts, push_to, notify, notify_in, notify_of}
use Rattle.sk_model.specs.World.{World}
use Rattle.sk_model.proofs.Changes.Lawful.{perform-append}
use Rattle.sk_store.specs.declared.store.Store.{Store}
use Rattle.sk_jobs.specs.Callbacks.{IsNotified, callback_pushes, fires_on, marks_on, member_by, member_in, member_of, notify_member}
use Rattle.sk_jobs.specs.Routing.{Takes, rows_in}
use Rattle.sk_jobs.proofs.Fronts.{other_put}

-- a push on a queue leaves the rows of other places as they are
pub pushed_aside : (old : Store) (new : Versions Placed) (from : Origin) (held : Bool) (end : Side) (row : Row) (queue : Bytes) → row.place ≡ Queue queue → new ≡ edited (pushed_to from held end row old.places.current) old.places
    → Takes [] old (record old { places = new })
pushed_aside old new from held end row queue at e = λ test others aside is.
    ap (λ (s : Versions Placed). rows_in test s.current.rows) e ∙ other_put (λ r. test r.place) end row old.places.current.rows (ap test at ∙ aside.queues queue) ∙ is

pub on_ok : {A E : Type 0} (P Q : Type 0) (r : Result A E) → (P → Q) → OnOk r P → OnOk r Q
on_ok P Q (Ok x) f p = f p
on_ok P Q (Err e) f p = tt

pub if_both : {A E : Type 0} (P R : A → Type 0) (Q : Type 0) (r : Result A E) → ((x : A) → P x → Q → R x) → IfOk r P → OnOk r Q → IfOk r R
if_both P R Q (Ok x) f p q = f x p q
if_both P R Q (Err e) f p q = tt

-- ## Firings

abbrev pub with_batched : Batched → World → World
with_batched b v = record v { batches = b }

pub pushes_apart : (b : Batched) (v : World) (from : Origin) (text : Bytes) (o : Option Head) → perform (with_batched b v) (push_to from text o) ≡ with_batched b (perform v (push_to from text o))
pushes_apart b v from text None = refl
pushes_apart b v from text (Some h) = refl

-- a callback's push looks at no batch
push_callback_apart : (b : Batched) (v : World) (o : Option Bytes) → perform (with_batched b v) (push_callback o) ≡ with_batched b (perform v (push_callback o))
push_callback_apart b v None = refl
push_callback_apart b v (Some text) = pushes_apart b v Inner text (head text)

-- Firing one after another is the same as keeping all that is fired, and then calling all.
pub fire_all_is : (w : World) (fs : List Firing) → perform w (fire_all fs) ≡ perform (with_batched (fired fs w.batches) w) (callback_pushes fs)
fire_all_is w [] = refl
fire_all_is w (f ∷ fs) =
    let v : World = changed w (Moves (Fire f.bid f.kind)) in
    let u : World = perform v (push_callback f.payload) in
    let same : u ≡ with_batched v.batches u = push_callback_apart v.batches v f.payload in
    perform-append v (push_callback f.payload) (fire_all fs)
    ∙ fire_all_is u fs
    ∙ ap (λ (x : World). perform (with_batched (fired fs x.batches) u) (callback_pushes fs)) same
    ∙ ap (λ x. perform x (callback_pushes fs)) (sym (push_callback_apart (fired fs v.batches) v f.payload))
    ∙ sym (perform-append (with_batched (fired fs v.batches) v) (push_callback f.payload) (callback_pushes fs))

-- a batch was told, and what it fired was called
pub notified_is : (v new : World) (e : Event) (member : Member) (names : List Bytes) (fs : List Firing) (b : Batched) → fs ≡ fires_on e member v.batches → b ≡ marks_on e member v.batches → names ≡ fired_texts fs
    → new ≡ perform (with_batched b v) (callback_pushes fs) → IsNotified v new names (notify_member e v (Some member))
notified_is v new e member names fs b fires marks named called = record {
  fired = named ∙ ap fired_texts fires;
  world = called ∙ ap₂ (λ (s : Batched) (l : List Firing). perform (with_batched s v) (callback_pushes l)) marks fires ∙ sym (fire_all_is (with_batched (marked (mark_of e) member.bid member.jid v.batches) v) (fires_on e member v.batches));
}

-- the batch of a text's job is told
pub notify_is : (e : Event) (w : World) (text : Bytes) → notify_member e w (member_of text) ≡ notify e w text
notify_is e w text = by_head (head text) where
  by_bid : (jid : Bytes) (o : Option Bytes) → notify_member e w (member_by jid o) ≡ notify_in e w jid o
  by_bid jid None = refl
  by_bid jid (Some bid) = refl

  by_head : (o : Option Head) → notify_member e w (member_in o) ≡ notify_of e w o
  by_head None = refl
  by_head (Some h) = by_bid h.jid h.bid
