-- While a lock stands, a unique push under its digest is turned away.
use Rattle.std.proofs.Common.{◌≡◌, ◌⊎◌, ◌≢◌, ℕ, List, [], ◌∷◌, refl, sym, ap, subst, ◌∙◌, Bool, true, false, cond, inl, inr}
use Rattle.std.specs.Prelude.{ℤ, Option, Some, None, Ok, Err}
use Rattle.sk_resp.specs.Spelling.{Bytes}
use Rattle.sk_resp.specs.declared.refusal.Refusal.TheVariants.{Full}
use Rattle.sk_cmd.proofs.AgreeTable.{one_command}
use Rattle.sk_cmd.specs.Fault.{fault_say}
use Rattle.sk_cmd.specs.Reading.{Read}
use Rattle.sk_cmd.specs.Table.{IsRead}
use Rattle.sk_cmd.specs.declared.cmd_fault.CmdFault.{CmdFault}
use Rattle.sk_cmd.specs.declared.cmd_fault.CmdFault.TheVariants as fault
use Rattle.sk_cmd.specs.declared.command.Command.{Command}
use Rattle.sk_cmd.specs.declared.command.Command.TheVariants as command
use Rattle.sk_cmd.specs.declared.command.ScriptCommand.TheVariants as script
use Rattle.sk_payload.specs.Head.{head}
use Rattle.sk_payload.specs.declared.head.Head.{Head}
use Rattle.sk_payload.specs.declared.head.Lock.{Lock}
use Rattle.sk_leases.specs.Leased.{holder_at}
use Rattle.sk_model.specs.World.{World, first}
use Rattle.sk_model.specs.Change.{Passes, changed}
use Rattle.sk_payload.specs.Digest.{digest}
use Rattle.sk_model.specs.Event.{Event, Ask, Cut, ResultsIn, Happens, Run, Step, after}
use Rattle.sk_model.specs.Laws.{IsTurnedAway, KeepsHolder, OneHolder, OneHolderFrom, holder_then}
use Rattle.sk_model.specs.Outcome.{Outcome, refuses, tells}
use Rattle.sk_model.specs.Reading.{Words}
use Rattle.sk_model.specs.Room.{is_full}
use Rattle.sk_model.specs.Step.{MayComeTo, at_moment, outcome}
use Rattle.sk_model.specs.Unique.{or_holder, push_locked, unique_push, unique_push_by, unique_push_of}

-- ## What it comes to

-- where the store is full it is refused, and else the holder is named
full_or_held : (w : World) (h : Head) (lock : Lock) (text : Bytes) (score : Option ℤ) (now : ℕ) (holder : Bytes) (b : Bool) (refusal : Outcome) → IsTurnedAway holder (at_moment now refusal)
    → IsTurnedAway holder (at_moment now (cond b refusal (or_holder (Some holder) (push_locked w h lock text score))))
full_or_held w h lock text score now holder true refusal away = away
full_or_held w h lock text score now holder false refusal away = record { reply = inl refl; still = refl }

push_of_away : (w : World) (text : Bytes) (score : Option ℤ) (h : Head) (lock : Option Lock) (bid : Option Bytes) (now : ℕ) (holder : Bytes) → holder_at (digest h) w.moment w.leases ≡ Some holder
    → IsTurnedAway holder (at_moment now (unique_push_of w text score h lock bid))
push_of_away w text score h None bid now holder held = record { reply = inr refl; still = refl }
push_of_away w text score h (Some lock) None now holder held =
    subst (λ (found : Option Bytes). IsTurnedAway holder (at_moment now (cond (is_full w (text ∷ [])) (refuses Full) (or_holder found (push_locked w h lock text score))))) (sym held)
    (full_or_held w h lock text score now holder (is_full w (text ∷ [])) (refuses Full) (record { reply = inr refl; still = refl }))
push_of_away w text score h (Some lock) (Some bid) now holder held = record { reply = inr refl; still = refl }

push_away : (w : World) (text : Bytes) (score : Option ℤ) (h : Head) (now : ℕ) (holder : Bytes) → head text ≡ Some h → holder_at (digest h) w.moment w.leases ≡ Some holder
    → IsTurnedAway holder (at_moment now (unique_push w text score))
push_away w text score h now holder is held =
    subst (λ (found : Option Head). IsTurnedAway holder (at_moment now (unique_push_by w text score found))) (sym is) (push_of_away w text score h h.lock h.bid now holder held)

-- ## Every event

-- words that are read as a command are read as no fault but want of memory
fault_away : (words : Words) (fault : CmdFault) (c : Command) (holder : Bytes) → IsRead words (Err fault) → IsRead words (Ok c) → IsTurnedAway holder (tells (fault_say fault))
fault_away words fault.Memory c holder read is = record { reply = inr refl; still = refl }
fault_away words fault.Unknown c holder read is = absurd (cc (one_command words (Err fault.Unknown) (Ok c) read is (λ e. cc e) (λ e. cc e)))
fault_away words (fault.Arity name) c holder read is = absurd (cc (one_command words (Err (fault.Arity name)) (Ok c) read is (λ e. cc e) (λ e. cc e)))
fault_away words fault.NotInt c holder read is = absurd (cc (one_command words (Err fault.NotInt) (Ok c) read is (λ e. cc e) (λ e. cc e)))
fault_away words fault.NotScore c holder read is = absurd (cc (one_command words (Err fault.NotScore) (Ok c) read is (λ e. cc e) (λ e. cc e)))
fault_away words fault.BadBound c holder read is = absurd (cc (one_command words (Err fault.BadBound) (Ok c) read is (λ e. cc e) (λ e. cc e)))
fault_away words fault.Syntax c holder read is = absurd (cc (one_command words (Err fault.Syntax) (Ok c) read is (λ e. cc e) (λ e. cc e)))

abbrev pub read_as : Command → Read Command
read_as c = Ok c

pub same_command : (c d : Command) → read_as c ≡ read_as d → c ≡ d
same_command c d e = cc e

module _ (w : World) (seat now : ℕ) (text : Bytes) (score : Option ℤ) (h : Head) (holder : Bytes) (is : head text ≡ Some h) (held : holder_then (digest h) now w ≡ Some holder) where
  steps_away : (o : Outcome) → MayComeTo w seat now (command.Script (script.Upush text score)) o → IsTurnedAway holder o
  steps_away o (inl e) = subst (IsTurnedAway holder) (sym e) (push_away (changed w (Passes now)) text score h now holder is held)
  steps_away o (inr (may, e)) = subst (IsTurnedAway holder) (sym e) (record { reply = inr refl; still = refl })

  gives_away : (words : Words) (r : Read Command) (o : Outcome) → IsRead words r → IsRead words (Ok (command.Script (script.Upush text score))) → ResultsIn w seat now r o → IsTurnedAway holder o
  gives_away words (Ok c) o read push gives =
      let same = same_command c (command.Script (script.Upush text score)) (one_command words (Ok c) (Ok (command.Script (script.Upush text score))) read push (λ e. cc e) (λ e. cc e)) in
      steps_away o (subst (λ (c : Command). MayComeTo w seat now c o) same gives)
  gives_away words (Err fault) o read push e = subst (IsTurnedAway holder) (sym e) (fault_away words fault (command.Script (script.Upush text score)) holder read push)

keeps_holder : (w : World) (event : Event) (o : Outcome) → Happens w event o → KeepsHolder w event o
keeps_holder w (Ask seat now words) o (r, read, gives) = λ text score h holder push is held. gives_away w seat now text score h holder is held words r o read push gives
keeps_holder w (Cut seat) o e = tt

-- ## Every run

holders_from : (w : World) (steps : List Step) → Run w steps → OneHolderFrom w steps
holders_from w [] run = tt
holders_from w (step ∷ steps) run = (keeps_holder w step.event step.outcome run.0, holders_from (after w step) steps run.1)

pub one_holder : OneHolder
one_holder limits steps run = holders_from (first limits) steps run
