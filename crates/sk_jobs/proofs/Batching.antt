-- Batches that are made, or get jobs.
use Rattle.std.proofs.Common.{◌≡◌, ◌<◌, ◌∙◌, ℕ, Bool, true, false, List, [], ◌∷◌, ap, ap₂, arith, length, refl, subst, sym}
use Rattle.std.specs.Prelude.{Option, None, Result, Err, ◌&&◌, cond, not}
use Rattle.sk_resp.specs.Spelling.{Bytes}
use Rattle.sk_resp.specs.declared.reply.Reply.{Reply}
use Rattle.sk_resp.specs.declared.reply.Reply.TheVariants as reply
use Rattle.sk_resp.specs.declared.refusal.Refusal.TheVariants as refusal
use Rattle.sk_resp.specs.declared.refusal.Refusal.TheVariants.{BadPayload, NoBatch}
use Rattle.sk_resp.specs.declared.say.Say.{Say}
use Rattle.sk_payload.specs.Head.{head}
use Rattle.sk_payload.specs.Member.{is_name}
use Rattle.sk_batch.specs.Batched.{Batched}
use Rattle.sk_batch.specs.Events.{fired, made, made_fires}
use Rattle.sk_batch.specs.Faults.{batch_fault, bid_fault, breaks, is_full as has_most, jids_fault}
use Rattle.sk_batch.specs.declared.batch.Batch.{Batch}
use Rattle.sk_batch.specs.declared.batch_fault.BatchFault.{BatchFault}
use Rattle.sk_batch.specs.declared.batch_fault.BatchFault.TheVariants.{Full}
use Rattle.sk_batch.specs.declared.firing.Firing.{Firing}
use Rattle.sk_places.specs.declared.origin.Origin.TheVariants.{Outside}
use Rattle.sk_batch.proofs.Refusals.{batch_kept, bid_kept}
use Rattle.sk_model.specs.World.{World}
use Rattle.sk_model.specs.Batches.{all_may_join, are_callbacks, batch_add, batch_push, jids_of, join, make, push_jobs, unless}
use Rattle.sk_model.specs.Change.{Makes, changed, perform}
use Rattle.sk_model.specs.Outcome.{Outcome, Realizes, refuses}
use Rattle.sk_model.specs.Room.{is_full, is_too_much}
use Rattle.sk_model.specs.Notify.{fire_all, push_job}
use Rattle.sk_model.proofs.Changes.Lawful.{perform-append}
use Rattle.sk_jobs.specs.Batching.{try_join, try_make, unless_err}
use Rattle.sk_jobs.specs.Callbacks.{callback_pushes}
use Rattle.sk_jobs.proofs.Calling.{fire_all_is, pushes_apart, with_batched}

-- ## Room

-- some texts are too much where the store is full with them
pub too_much_is : (w : World) (n : ℕ) (texts : List Bytes) (full : Bool) → 0 < n → n ≡ length texts → full ≡ is_full w texts → full ≡ is_too_much w texts
too_much_is w n [] full some number is = absurd (omega (arith, some, number))
too_much_is w n (text ∷ texts) full some number is = is

-- ## Jobs are pushed

-- one more was pushed
pub one_pushed : (u v end : World) (text : Bytes) (texts rest : List Bytes) → texts ≡ text ∷ rest → v ≡ perform u (push_job Outside text) → perform u (push_jobs texts) ≡ end → perform v (push_jobs rest) ≡ end
one_pushed u v end text texts rest first pushed all =
    ap (λ x. perform x (push_jobs rest)) pushed
    ∙ sym (perform-append u (push_job Outside text) (push_jobs rest))
    ∙ ap (λ l. perform u (push_jobs l)) (sym first)
    ∙ all

-- ## Rules that are kept

-- A new batch breaks none of the first three rules, each looked at on its own.
pub push_kept : (w : World) (batch : Batch) (texts : List Bytes) (named fit : Bool) (broken : Option BatchFault)
    → named ≡ is_name 64 batch.bid → ((o : Outcome) → cond (not named) (refuses NoBatch) o ≡ o)
    → broken ≡ bid_fault batch.bid batch.parent w.batches None → ((o : Outcome) → unless broken o ≡ o)
    → fit ≡ are_callbacks batch.callbacks && all_may_join batch.bid texts → ((o : Outcome) → cond (not fit) (refuses BadPayload) o ≡ o)
    → batch_push w batch texts ≡ unless (jids_fault batch.bid (jids_of texts) w.batches (breaks (has_most w.batches) Full None)) (cond (is_too_much w texts) (refuses refusal.Full) (make batch texts))
push_kept w batch texts named fit broken e1 k1 e2 k2 e3 k3 =
    let at4 : Outcome = unless (jids_fault batch.bid (jids_of texts) w.batches (breaks (has_most w.batches) Full None)) (cond (is_too_much w texts) (refuses refusal.Full) (make batch texts)) in
    let at3 : Outcome = cond (not (are_callbacks batch.callbacks && all_may_join batch.bid texts)) (refuses BadPayload) at4 in
    let at2 : Outcome = unless (bid_fault batch.bid batch.parent w.batches None) at3 in
    ap (λ b. cond (not b) (refuses NoBatch) at2) (sym e1) ∙ k1 at2
    ∙ ap (λ f. unless f at3) (sym e2) ∙ k2 at3
    ∙ ap (λ b. cond (not b) (refuses BadPayload) at4) (sym e3) ∙ k3 at4

-- jobs that a batch gets break none of the first two
pub add_kept : (w : World) (bid : Bytes) (texts : List Bytes) (fit : Bool) (broken : Option BatchFault)
    → broken ≡ batch_fault bid w.batches None → ((o : Outcome) → unless broken o ≡ o)
    → fit ≡ all_may_join bid texts → ((o : Outcome) → cond (not fit) (refuses BadPayload) o ≡ o)
    → batch_add w bid texts ≡ unless (jids_fault bid (jids_of texts) w.batches None) (cond (is_too_much w texts) (refuses refusal.Full) (join bid texts))
add_kept w bid texts fit broken e1 k1 e2 k2 =
    let at3 : Outcome = unless (jids_fault bid (jids_of texts) w.batches None) (cond (is_too_much w texts) (refuses refusal.Full) (join bid texts)) in
    let at2 : Outcome = cond (not (all_may_join bid texts)) (refuses BadPayload) at3 in
    ap (λ f. unless f at2) (sym e1) ∙ k1 at2
    ∙ ap (λ b. cond (not b) (refuses BadPayload) at3) (sym e2) ∙ k2 at3

-- where there is room for the jobs the other rules are those of making the batch
pub push_room : (w : World) (batch : Batch) (texts : List Bytes) → bid_fault batch.bid batch.parent w.batches None ≡ None → is_too_much w texts ≡ false
    → unless (jids_fault batch.bid (jids_of texts) w.batches (breaks (has_most w.batches) Full None)) (cond (is_too_much w texts) (refuses refusal.Full) (make batch texts)) ≡ try_make batch texts w
push_room w batch texts first few =
    let later : Option BatchFault = jids_fault batch.bid (jids_of texts) w.batches (breaks (has_most w.batches) Full None) in
    ap (λ b. unless later (cond b (refuses refusal.Full) (make batch texts))) few
    ∙ ap (λ f. unless f (make batch texts)) (sym (bid_kept batch.bid w.batches later batch.parent first))

-- and those of jobs that it gets
pub add_room : (w : World) (bid : Bytes) (texts : List Bytes) → batch_fault bid w.batches None ≡ None → is_too_much w texts ≡ false
    → unless (jids_fault bid (jids_of texts) w.batches None) (cond (is_too_much w texts) (refuses refusal.Full) (join bid texts)) ≡ try_join bid texts w
add_room w bid texts first few =
    let later : Option BatchFault = jids_fault bid (jids_of texts) w.batches None in
    ap (λ b. unless later (cond b (refuses refusal.Full) (join bid texts))) few
    ∙ ap (λ f. unless f (join bid texts)) (sym (batch_kept bid w.batches later first))

-- where there is none, the jobs are refused for that once their ids break no rule
pub full_told : (w : World) (texts : List Bytes) (repeated broken : Option BatchFault) (o : Outcome) → repeated ≡ broken → ((p : Outcome) → unless repeated p ≡ p) → is_too_much w texts ≡ true
    → unless broken (cond (is_too_much w texts) (refuses refusal.Full) o) ≡ refuses refusal.Full
full_told w texts repeated broken o same kept much =
    let last : Outcome = cond (is_too_much w texts) (refuses refusal.Full) o in
    ap (λ f. unless f last) (sym same) ∙ kept last ∙ ap (λ b. cond b (refuses refusal.Full) o) much

-- ## What comes of it

-- a rule that is broken is told, and nothing has changed
pub told_comes : {A : Type 0} (w v : World) (o : Outcome) (broken : Option BatchFault) (done : Result A Say) (say : Say) → done ≡ Err say → ((p : Outcome) → unless broken p ≡ unless_err done p) → v ≡ w
    → Realizes w (unless broken o) (reply.Say say) v
told_comes w v o broken done say is told same = subst (λ p. Realizes w p (reply.Say say) v) (sym (told o ∙ ap (λ r. unless_err r o) is)) (record { reply_is = refl; new_is = same })

-- where none is broken, what is done comes about
pub done_comes : (w v : World) (o : Outcome) (broken : Option BatchFault) (r : Reply) → broken ≡ None → Realizes w o r v → Realizes w (unless broken o) r v
done_comes w v o broken r clear comes = subst (λ f. Realizes w (unless f o) r v) (sym clear) comes

-- ## What is made

-- pushes look at no batch
jobs_apart : (b : Batched) (v : World) (texts : List Bytes) → perform (with_batched b v) (push_jobs texts) ≡ with_batched b (perform v (push_jobs texts))
jobs_apart b v [] = refl
jobs_apart b v (text ∷ texts) =
    let u : World = perform v (push_job Outside text) in
    perform-append (with_batched b v) (push_job Outside text) (push_jobs texts)
    ∙ ap (λ x. perform x (push_jobs texts)) (pushes_apart b v Outside text (head text))
    ∙ jobs_apart b u texts
    ∙ ap (with_batched b) (sym (perform-append v (push_job Outside text) (push_jobs texts)))

-- The batches changed at once, the jobs were pushed, and what was fired was called.
pub make_is : (w mid new : World) (b : Batched) (batch : Batch) (texts : List Bytes) (firings : List Firing) → firings ≡ made_fires batch (jids_of texts) → b ≡ made batch (jids_of texts) w.batches
    → mid ≡ perform (with_batched b w) (push_jobs texts) → new ≡ perform mid (callback_pushes firings) → new ≡ perform w (make batch texts).changes
make_is w mid new b batch texts firings fires made_is pushed called =
    let fs : List Firing = made_fires batch (jids_of texts) in
    let begun : World = changed w (Makes batch (jids_of texts)) in
    let out : World = perform begun (push_jobs texts) in
    let same : out ≡ with_batched begun.batches out = jobs_apart begun.batches begun texts in
    called
    ∙ ap₂ (λ x l. perform x (callback_pushes l)) (pushed ∙ ap (λ (c : Batched). perform (with_batched c w) (push_jobs texts)) made_is ∙ jobs_apart (fired fs begun.batches) begun texts) fires
    ∙ ap (λ (x : World). perform (with_batched (fired fs x.batches) out) (callback_pushes fs)) (sym same)
    ∙ sym (fire_all_is out fs)
    ∙ sym (perform-append begun (push_jobs texts) (fire_all fs))
