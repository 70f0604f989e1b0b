-- The changes of a unique push, and of the end of a lock, are good, and have causes.
use Rattle.std.proofs.Common.{◌≡◌, List, [], ◌∷◌, refl, Bool, true, false, cond}
use Rattle.std.specs.Prelude.{ℤ, Option, Some, None}
use Rattle.sk_resp.specs.Spelling.{Bytes}
use Rattle.sk_cmd.specs.declared.argument.Side.TheVariants.{Left}
use Rattle.sk_cmd.specs.declared.argument.Scored.TheVariants.{Schedule}
use Rattle.sk_payload.specs.Head.{head}
use Rattle.sk_payload.specs.declared.head.Head.{Head}
use Rattle.sk_payload.specs.declared.head.Lock.{Lock}
use Rattle.sk_payload.specs.declared.head.Until.{Until}
use Rattle.sk_leases.specs.Leased.{holder_at}
use Rattle.sk_places.specs.declared.origin.Origin.TheVariants.{Outside}
use Rattle.sk_places.specs.declared.row.Place.TheVariants.{Queue, Set}
use Rattle.sk_places.specs.declared.row.Row.{Row}
use Rattle.sk_places.specs.Rows.{row_at, row_of, rows_at}
use Rattle.sk_model.specs.World.{World}
use Rattle.sk_model.specs.Change.{Change, Locks, Unlocks, changed}
use Rattle.sk_payload.specs.Digest.{digest}
use Rattle.sk_model.specs.Outcome.{Outcome}
use Rattle.sk_model.specs.Room.{is_full}
use Rattle.sk_model.specs.Sets.{add_as}
use Rattle.sk_model.specs.Notify.{push_to}
use Rattle.sk_model.specs.Unique.{is_until, or_holder, push_locked, push_or_schedule, unique_push, unique_push_by, unique_push_of, unlocks, unlocks_at, unlocks_of}
use Rattle.sk_model.specs.Causes.{HaveCauses, IsLocking, IsUnlocking}
use Rattle.sk_model.specs.Event.{Event}
use Rattle.sk_model.proofs.Changes.Causes.{all_tame, causes_tame}
use Rattle.sk_model.proofs.Changes.Lawful.{Good, good_nothing, good_add, good_locks, good_unlocks, then_others}
use Rattle.sk_model.proofs.Commands.Sets.{add_each_good, choice}

-- ## The end of a lock

unlock_good : (w : World) (h : Head) (b : Bool) → Good w (cond b (Unlocks (digest h) h.jid ∷ []) [])
unlock_good w h true = good_unlocks w (digest h) h.jid
unlock_good w h false = good_nothing w

at_good : (w : World) (until : Until) (h : Head) (lock : Option Lock) → Good w (unlocks_at until h lock)
at_good w until h None = good_nothing w
at_good w until h (Some lock) = unlock_good w h (is_until until lock.until)

of_good : (w : World) (until : Until) (found : Option Head) → Good w (unlocks_of until found)
of_good w until None = good_nothing w
of_good w until (Some h) = at_good w until h h.lock

pub unlocks_good : (w : World) (until : Until) (text : Bytes) → Good w (unlocks until text)
unlocks_good w until text = of_good w until (head text)

module _ (w : World) (event : Event) where
  abbrev C : World → List Change → Type 0
  C v changes = HaveCauses w event false [] v changes

  unlock_causes : (v : World) (h : Head) (b : Bool) → IsUnlocking w (digest h) h.jid event → C v (cond b (Unlocks (digest h) h.jid ∷ []) [])
  unlock_causes v h true cause = (cause, tt)
  unlock_causes v h false cause = tt

  at_causes : (v : World) (until : Until) (h : Head) (lock : Option Lock) → IsUnlocking w (digest h) h.jid event → C v (unlocks_at until h lock)
  at_causes v until h None cause = tt
  at_causes v until h (Some lock) cause = unlock_causes v h (is_until until lock.until) cause

  of_causes : (v : World) (until : Until) (found : Option Head) → ((h : Head) → found ≡ Some h → IsUnlocking w (digest h) h.jid event) → C v (unlocks_of until found)
  of_causes v until None cause = tt
  of_causes v until (Some h) cause = at_causes v until h h.lock (cause h refl)

  pub unlocks_causes : (v : World) (until : Until) (text : Bytes) → ((h : Head) → head text ≡ Some h → IsUnlocking w (digest h) h.jid event) → C v (unlocks until text)
  unlocks_causes v until text cause = of_causes v until (head text) cause

-- ## A unique push

push_to_good : (w : World) (text : Bytes) (found : Option Head) → Good w (push_to Outside text found)
push_to_good w text None = good_nothing w
push_to_good w text (Some h) = good_add w (row_at (Queue h.queue) text) Left

push_good : (w : World) (text : Bytes) (score : Option ℤ) → Good w (push_or_schedule w text score)
push_good w text None = push_to_good w text (head text)
push_good w text (Some score) = add_each_good w Schedule ((score, text) ∷ []) refl

locked_good : (w : World) (h : Head) (lock : Lock) (text : Bytes) (score : Option ℤ) (found : Option Bytes) → Good w (or_holder found (push_locked w h lock text score)).changes
locked_good w h lock text score None = then_others w (Locks (digest h) h.jid lock.seconds) _ (good_locks w (digest h) h.jid lock.seconds) (push_good (changed w (Locks (digest h) h.jid lock.seconds)) text score)
locked_good w h lock text score (Some jid) = good_nothing w

push_of_good : (w : World) (text : Bytes) (score : Option ℤ) (h : Head) (lock : Option Lock) (bid : Option Bytes) → Good w (unique_push_of w text score h lock bid).changes
push_of_good w text score h None bid = good_nothing w
push_of_good w text score h (Some lock) None = choice w (is_full w (text ∷ [])) _ _ (λ y. good_nothing w) (λ n. locked_good w h lock text score (holder_at (digest h) w.moment w.leases))
push_of_good w text score h (Some lock) (Some bid) = good_nothing w

push_by_good : (w : World) (text : Bytes) (score : Option ℤ) (found : Option Head) → Good w (unique_push_by w text score found).changes
push_by_good w text score None = good_nothing w
push_by_good w text score (Some h) = push_of_good w text score h h.lock h.bid

pub unique_push_good : (w : World) (text : Bytes) (score : Option ℤ) → Good w (unique_push w text score).changes
unique_push_good w text score = push_by_good w text score (head text)

add_tame : (score : ℤ) (text : Bytes) (found : Option Row) → all_tame false (add_as Schedule (score, text) found ∷ []) ≡ true
add_tame score text None = refl
add_tame score text (Some row) = refl

push_to_tame : (text : Bytes) (found : Option Head) → all_tame false (push_to Outside text found) ≡ true
push_to_tame text None = refl
push_to_tame text (Some h) = refl

push_tame : (w : World) (text : Bytes) (score : Option ℤ) → all_tame false (push_or_schedule w text score) ≡ true
push_tame w text None = push_to_tame text (head text)
push_tame w text (Some score) = add_tame score text (row_of text (rows_at (Set Schedule) w.rows))

either_causes : (w : World) (event : Event) (v : World) (b : Bool) (one other : Outcome) → HaveCauses w event false [] v one.changes → HaveCauses w event false [] v other.changes → HaveCauses w event false [] v (cond b one other).changes
either_causes w event v true one other f g = f
either_causes w event v false one other f g = g

module _ (w : World) (event : Event) (text : Bytes) (score : Option ℤ) where
  abbrev Locking : Head → Lock → Type 0
  Locking h lock = IsLocking (digest h) h.jid lock.seconds event

  locked_causes : (v : World) (h : Head) (lock : Lock) (found : Option Bytes) → Locking h lock → HaveCauses w event false [] v (or_holder found (push_locked v h lock text score)).changes
  locked_causes v h lock None cause =
      (cause, causes_tame w event false false [] (changed v (Locks (digest h) h.jid lock.seconds)) (push_or_schedule v text score) (λ e. absurd (cc e)) (push_tame v text score))
  locked_causes v h lock (Some jid) cause = tt

  push_of_causes : (v : World) (h : Head) (lock : Option Lock) (bid : Option Bytes) → ((l : Lock) → lock ≡ Some l → Locking h l) → HaveCauses w event false [] v (unique_push_of v text score h lock bid).changes
  push_of_causes v h None bid cause = tt
  push_of_causes v h (Some lock) None cause = either_causes w event v (is_full v (text ∷ [])) _ _ tt (locked_causes v h lock (holder_at (digest h) v.moment v.leases) (cause lock refl))
  push_of_causes v h (Some lock) (Some bid) cause = tt

  push_by_causes : (v : World) (found : Option Head) → ((h : Head) (l : Lock) → found ≡ Some h → h.lock ≡ Some l → Locking h l) → HaveCauses w event false [] v (unique_push_by v text score found).changes
  push_by_causes v None cause = tt
  push_by_causes v (Some h) cause = push_of_causes v h h.lock h.bid (λ l is. cause h l refl is)

  pub unique_push_causes : (v : World) → ((h : Head) (l : Lock) → head text ≡ Some h → h.lock ≡ Some l → Locking h l) → HaveCauses w event false [] v (unique_push v text score).changes
  unique_push_causes v cause = push_by_causes v (head text) cause
