-- What unique pushes come to, and what the end of a lock does.
use Rattle.std.proofs.Common.{◌≡◌, List, [], ◌∷◌, ◌++◌, refl, sym, ap, subst, ◌∙◌, true, false, cond, arith, length}
use Rattle.std.proofs.lemmas.List.Sums.{sum_by-cons, sum-map}
use Rattle.std.specs.Prelude.{ℤ, Option, Some, None}
use Rattle.sk_resp.specs.Spelling.{Bytes}
use Rattle.sk_resp.specs.declared.reply.Reply.{Reply}
use Rattle.sk_resp.specs.declared.reply.Reply.TheVariants as reply
use Rattle.sk_resp.specs.declared.say.Say.TheVariants as say
use Rattle.sk_resp.specs.declared.refusal.Refusal.TheVariants.{BadPayload, Full}
use Rattle.sk_payload.specs.Head.{head}
use Rattle.sk_payload.specs.declared.head.Head.{Head}
use Rattle.sk_payload.specs.declared.head.Lock.{Lock}
use Rattle.sk_model.specs.Change.{Change, perform}
use Rattle.sk_model.specs.Outcome.{Realizes, Outcome, refuses}
use Rattle.sk_model.specs.Room.{bytes_of, is_full, where_room}
use Rattle.sk_model.specs.Unique.{or_holder, unique_push, unique_push_by, unique_push_of}
use Rattle.sk_model.specs.World.{World}
use Rattle.sk_model.proofs.Changes.Lawful.{perform-append}
use Rattle.sk_leases.specs.Leased.{holder_at}
use Rattle.sk_jobs.specs.Locking.{push_locked, push_wanted, wanted, wanted_by}
use Rattle.sk_jobs.specs.declared.locking.WantedLock.{WantedLock}

-- further changes of what came about
pub comes_more : (u v new : World) (o : Outcome) (reply : Reply) (more : List Change) → Realizes u o reply v → new ≡ perform v more → Realizes u (record o { changes = o.changes ++ more }) reply new
comes_more u v new o reply more comes e = record { reply_is = comes.reply_is; new_is = e ∙ ap (λ (x : World). perform x more) comes.new_is ∙ sym (perform-append u o.changes more) }

some_same : (a b : WantedLock) (e : Some a ≡ Some b) → a ≡ b
some_same a b e = cc e

by_wanted : (w : World) (text : Bytes) (score : Option ℤ) (h : Head) (lock : Option Lock) (bid : Option Bytes) (found : WantedLock) → wanted_by h lock bid ≡ Some found
    → unique_push_of w text score h lock bid ≡ where_room w (text ∷ []) (push_wanted w text score found)
by_wanted w text score h None bid found e = absurd (cc e)
by_wanted w text score h (Some lock) None found e = ap (λ l. where_room w (text ∷ []) (push_wanted w text score l)) (some_same _ found e)
by_wanted w text score h (Some lock) (Some bid) found e = absurd (cc e)

pub wanted_push : (w : World) (text : Bytes) (score : Option ℤ) (head : Option Head) (found : WantedLock) → wanted head ≡ Some found → unique_push_by w text score head ≡ where_room w (text ∷ []) (push_wanted w text score found)
wanted_push w text score None found e = absurd (cc e)
wanted_push w text score (Some h) found e = by_wanted w text score h h.lock h.bid found e

by_none : (w : World) (text : Bytes) (score : Option ℤ) (h : Head) (lock : Option Lock) (bid : Option Bytes) → wanted_by h lock bid ≡ None → unique_push_of w text score h lock bid ≡ refuses BadPayload
by_none w text score h None bid e = refl
by_none w text score h (Some lock) None e = absurd (cc e)
by_none w text score h (Some lock) (Some bid) e = refl

pub unwanted_push : (w : World) (text : Bytes) (score : Option ℤ) (head : Option Head) → wanted head ≡ None → unique_push_by w text score head ≡ refuses BadPayload
unwanted_push w text score None e = refl
unwanted_push w text score (Some h) e = by_none w text score h h.lock h.bid e

-- ## What a push under a lock comes to

pub comes_held : (u v : World) (text : Bytes) (score : Option ℤ) (lock : WantedLock) (holder : Bytes) → holder_at lock.digest u.moment u.leases ≡ Some holder → v ≡ u → Realizes u (push_wanted u text score lock) (reply.Bulk holder) v
comes_held u v text score lock holder held same =
    subst (λ (found : Option Bytes). Realizes u (or_holder found (push_locked u text score lock)) (reply.Bulk holder) v) (sym held) (record { reply_is = refl; new_is = same })

pub comes_locked : (u v : World) (text : Bytes) (score : Option ℤ) (lock : WantedLock) → holder_at lock.digest u.moment u.leases ≡ None → v ≡ perform u (push_locked u text score lock).changes
    → Realizes u (push_wanted u text score lock) (reply.Say say.Ok) v
comes_locked u v text score lock none done =
    subst (λ (found : Option Bytes). Realizes u (or_holder found (push_locked u text score lock)) (reply.Say say.Ok) v) (sym none) (record { reply_is = refl; new_is = done })

-- a job that wants a lock, and for which there is room
pub kept_push : (u : World) (text payload : Bytes) (score : Option ℤ) (lock : WantedLock) → payload ≡ text → wanted (head payload) ≡ Some lock → is_full u (payload ∷ []) ≡ false → unique_push u text score ≡ push_wanted u payload score lock
kept_push u text payload score lock same is room =
    ap (λ (t : Bytes). unique_push u t score) (sym same)
    ∙ wanted_push u payload score (head payload) lock is
    ∙ ap (λ b. cond b (refuses Full) (push_wanted u payload score lock)) room

-- It wants a lock, and the store is full.
pub push_full : (u : World) (text payload : Bytes) (score : Option ℤ) (lock : WantedLock) (reply_ : Reply) → payload ≡ text → wanted (head payload) ≡ Some lock → is_full u (payload ∷ []) ≡ true
    → reply_ ≡ reply.Say (say.Refused Full) → Realizes u (unique_push u text score) reply_ u
push_full u text payload score lock reply_ same is full said =
    let refused : unique_push u text score ≡ refuses Full =
    ap (λ (t : Bytes). unique_push u t score) (sym same)
    ∙ wanted_push u payload score (head payload) lock is
    ∙ ap (λ b. cond b (refuses Full) (push_wanted u payload score lock)) full in
    subst (λ (o : Outcome). Realizes u o reply_ u) (sym refused) (record { reply_is = said; new_is = refl })

-- ## Room

pub size_is : (payload text : Bytes) → text ≡ payload → length text ≡ bytes_of (payload ∷ [])
size_is payload text same = omega (arith, sum_by-cons length payload [], sum-map length (payload ∷ []), ap length same)
