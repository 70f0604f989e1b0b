-- What moves come from. Each that takes a row away, puts a text back, or is the store's own push has its cause in the event, or in a change before it.
use Rattle.std.specs.Prelude.{◌≡◌, ℕ, ℤ, nat_abs, pos, List, [], ◌∷◌, Option, Some, None, Ok, Bool, true, false, ◌||◌}
use Rattle.std.specs.List.{list_any}
use Rattle.sk_resp.specs.Spelling.{Bytes}
use Rattle.sk_cmd.specs.Table.{IsRead}
use Rattle.sk_cmd.specs.declared.command.Command.{Command}
use Rattle.sk_cmd.specs.declared.command.Command.TheVariants as command
use Rattle.sk_cmd.specs.declared.command.PlainCommand.{PlainCommand}
use Rattle.sk_cmd.specs.declared.command.PlainCommand.TheVariants as plain
use Rattle.sk_cmd.specs.declared.command.ScriptCommand.{ScriptCommand}
use Rattle.sk_cmd.specs.declared.command.ScriptCommand.TheVariants as script
use Rattle.sk_payload.specs.Head.{head}
use Rattle.sk_payload.specs.declared.head.Head.{Head}
use Rattle.sk_payload.specs.declared.head.Lock.{Lock}
use Rattle.sk_payload.specs.Digest.{digest}
use Rattle.sk_value.specs.Action.{action_of}
use Rattle.sk_batch.specs.declared.event.Event.TheVariants.{Returned}
use Rattle.sk_places.specs.declared.origin.Origin.TheVariants.{Inner}
use Rattle.sk_model.specs.declared.limits.Limits.{Limits}
use Rattle.sk_seats.specs.declared.phase.Phase.TheVariants.{Plain}
use Rattle.sk_seats.specs.Phases.{works_of}
use Rattle.sk_seats.specs.Works.{is_buried_as, is_held_as}
use Rattle.sk_model.specs.World.{World, first, phase_of}
use Rattle.sk_model.specs.Change.{Add, Take, Trim, PutBack, Free, Change, Moves, Passes, Locks, Unlocks, Elects, TakesSlot, Notifies, changed}
use Rattle.sk_leases.specs.Leased.{is_led_by_another, last, leads}
use Rattle.sk_model.specs.Periodic.{is_above, is_in_time, is_process}
use Rattle.sk_model.specs.Reading.{Words}
use Rattle.sk_model.specs.Seats.{releases}
use Rattle.sk_model.specs.Event.{Event, Ask, Cut, Run, Step, after}
use Rattle.sk_model.specs.Once.{called_by, is_burial, is_dead_set}

-- ## Causes in the event

-- the seat sends this command, read from its words
abbrev pub Sends : ℕ → Command → Event → Type 0
Sends seat c (Ask other now words) = (other ≡ seat) × IsRead words (Ok c)
Sends seat c (Cut other) = ⊥

-- the commands that take rows away
abbrev pub removes : PlainCommand → Bool
removes (plain.Del keys) = true
removes (plain.Lrem key count text) = true
removes (plain.Zrem key members) = true
removes (plain.Zremrangebyrank key first last) = true
removes (plain.Zremrangebyscore key least greatest) = true
removes plain.Flushall = true
removes other = false

-- A client takes rows away: a seat that is Plain before the event.
pub record IsRemoval (w : World) (event : Event) : Type 0 where
  pub seat : ℕ
  pub c : PlainCommand
  pub sent : Sends seat (command.Plain c) event
  pub phase : phase_of w seat ≡ Plain
  pub takes : removes c ≡ true

-- This seat releases a job of this text, which it has put back or is done with.
pub record IsRelease (w : World) (seat : ℕ) (text : Bytes) (event : Event) : Type 0 where
  pub key : Bytes
  pub sent : Sends seat (command.Plain (plain.Lrem key (pos 1) text)) event
  pub release : releases (phase_of w seat) (action_of (plain.Lrem key (pos 1) text)) ≡ true

-- A seat puts this text back: it follows a payload that the seat holds after a failure, or is that payload itself, where it has no head.
pub record IsPutBack (w : World) (text : Bytes) (event : Event) : Type 0 where
  pub seat : ℕ
  pub c : Command
  pub sent : Sends seat c event
  pub held : list_any (is_buried_as text) (works_of (phase_of w seat)) ≡ true

-- A seat that holds a payload of this job, which names this batch, says SK.OK.
pub record IsReturn (w : World) (bid jid : Bytes) (event : Event) : Type 0 where
  pub seat : ℕ
  pub text : Bytes
  pub h : Head
  pub sent : Sends seat (command.Script (script.Ok text)) event
  pub held : list_any (is_held_as text) (works_of (phase_of w seat)) ≡ true
  pub head_is : head text ≡ Some h
  pub jid_is : h.jid ≡ jid
  pub bid_is : h.bid ≡ Some bid

-- A seat pushes this job under its lock: SK.UPUSH, of a text whose head has the lock.
pub record IsLocking (digest_of jid : Bytes) (seconds : ℕ) (event : Event) : Type 0 where
  pub seat : ℕ
  pub text : Bytes
  pub score : Option ℤ
  pub h : Head
  pub lock : Lock
  pub sent : Sends seat (command.Script (script.Upush text score)) event
  pub head_is : head text ≡ Some h
  pub lock_is : h.lock ≡ Some lock
  pub digest_is : digest h ≡ digest_of
  pub jid_is : h.jid ≡ jid
  pub seconds_is : lock.seconds ≡ seconds

-- the text of a job that starts or has returned
abbrev pub text_told : ScriptCommand → Option Bytes
text_told (script.Start text) = Some text
text_told (script.Ok text) = Some text
text_told other = None

-- A seat that holds a payload of this job, with this digest, says SK.START or SK.OK.
pub record IsUnlocking (w : World) (digest_of jid : Bytes) (event : Event) : Type 0 where
  pub seat : ℕ
  pub c : ScriptCommand
  pub text : Bytes
  pub h : Head
  pub sent : Sends seat (command.Script c) event
  pub told : text_told c ≡ Some text
  pub held : list_any (is_held_as text) (works_of (phase_of w seat)) ≡ true
  pub head_is : head text ≡ Some h
  pub digest_is : digest h ≡ digest_of
  pub jid_is : h.jid ≡ jid

-- This process is alive and makes itself the leader, while no other one leads: SK.LEAD.
pub record IsLeading (w : World) (ident : Bytes) (event : Event) : Type 0 where
  pub seat : ℕ
  pub now : ℕ
  pub words : Words
  pub event_is : event ≡ Ask seat now words
  pub read : IsRead words (Ok (command.Script (script.Lead ident)))
  pub process : is_process (changed w (Passes now)) ident ≡ true
  pub free : is_led_by_another ident (changed w (Passes now)).moment (changed w (Passes now)).leases ≡ false

-- The leader of that moment pushes this job for this slot of its loop, which is above the loop's last one, and open: SK.CRON.
pub record IsSlot (w : World) (loop : Bytes) (slot : ℕ) (text : Bytes) (event : Event) : Type 0 where
  pub seat : ℕ
  pub now : ℕ
  pub words : Words
  pub ident : Bytes
  pub number : ℤ
  pub event_is : event ≡ Ask seat now words
  pub read : IsRead words (Ok (command.Script (script.Cron ident loop number text)))
  pub slot_is : nat_abs number ≡ slot
  pub leads : leads ident (changed w (Passes now)).moment (changed w (Passes now)).leases ≡ true
  pub rises : is_above slot (last loop w.leases) ≡ true
  pub timely : is_in_time (changed w (Passes now)) slot ≡ true

-- ## Each change

-- w: the world before the event. buried: whether a text came into the dead set earlier in the event. due: the callback of the firing just before it, or
-- the job of the slot.
abbrev pub HasCause : World → Event → Bool → List Change → Change → Type 0
HasCause w event buried due (Moves (Take row from)) = IsRemoval w event
HasCause w event buried due (Moves (Trim row)) = (is_dead_set row.place ≡ true) × (buried ≡ true)
HasCause w event buried due (Moves (Free seat text)) = IsRelease w seat text event
HasCause w event buried due (Moves (PutBack row)) = IsPutBack w row.text event
HasCause w event buried due (Moves (Add row end Inner)) = due ≡ Moves (Add row end Inner) ∷ []
HasCause w event buried due (Notifies Returned bid jid) = IsReturn w bid jid event
HasCause w event buried due (Locks digest_of jid seconds) = IsLocking digest_of jid seconds event
HasCause w event buried due (Unlocks digest_of jid) = IsUnlocking w digest_of jid event
HasCause w event buried due (Elects ident) = IsLeading w ident event
HasCause w event buried due (TakesSlot loop slot text) = IsSlot w loop slot text event
HasCause w event buried due other = Unit {0}

-- v: the world that the changes before these left
abbrev pub HaveCauses : World → Event → Bool → List Change → World → List Change → Type 0
HaveCauses w event buried due v [] = Unit {0}
HaveCauses w event buried due v (change ∷ changes) =
    HasCause w event buried due change × HaveCauses w event (buried || is_burial change) (called_by v change) (changed v change) changes

-- ## Every run

abbrev pub CausesFrom : World → List Step → Type 0
CausesFrom w [] = Unit {0}
CausesFrom w (step ∷ steps) = HaveCauses w step.event false [] w step.outcome.changes × CausesFrom (after w step) steps

abbrev pub MovesHaveCauses : Type 0
MovesHaveCauses = (limits : Limits) (steps : List Step) → Run (first limits) steps → CausesFrom (first limits) steps
