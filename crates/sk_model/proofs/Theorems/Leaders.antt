-- While one process leads no other one comes to; and the slots of periodic jobs rise.
use Rattle.std.proofs.Common.{◌≡◌, ◌==◌, ◌⊎◌, ℕ, List, [], ◌∷◌, refl, sym, ap, subst, ◌∙◌, arith, Bool, true, false, ◌&&◌, ◌||◌, cond, inl, inr}
use Rattle.std.specs.Prelude.{Ok, Err}
use Rattle.std.specs.List.{list_any}
use Rattle.std.specs.Str.{bytes_eq}
use Rattle.std.proofs.lemmas.Slice.Eq.{bytes_eq-Decides}
use Rattle.sk_resp.specs.Spelling.{Bytes}
use Rattle.sk_resp.specs.declared.refusal.Refusal.TheVariants.{NoProcess}
use Rattle.sk_cmd.proofs.AgreeTable.{one_command}
use Rattle.sk_cmd.specs.Fault.{fault_say}
use Rattle.sk_cmd.specs.Reading.{Read}
use Rattle.sk_cmd.specs.Table.{IsRead}
use Rattle.sk_cmd.specs.declared.cmd_fault.CmdFault.{CmdFault}
use Rattle.sk_cmd.specs.declared.cmd_fault.CmdFault.TheVariants as fault
use Rattle.sk_cmd.specs.declared.command.Command.{Command}
use Rattle.sk_cmd.specs.declared.command.Command.TheVariants as command
use Rattle.sk_cmd.specs.declared.command.ScriptCommand.TheVariants as script
use Rattle.sk_leases.specs.Leased.{is_led_by_another}
use Rattle.sk_seats.specs.declared.phase.Phase.{Phase}
use Rattle.sk_seats.specs.declared.phase.Phase.TheVariants.{Plain, Joined}
use Rattle.sk_model.specs.World.{World, first, phase_of}
use Rattle.sk_model.specs.Causes.{CausesFrom, HasCause, HaveCauses, IsSlot}
use Rattle.sk_model.specs.Change.{Change, TakesSlot, Passes, changed}
use Rattle.sk_model.specs.Event.{Event, Ask, Cut, ResultsIn, Happens, Run, Step, after}
use Rattle.sk_model.specs.Laws.{IsNotLed, KeepsLeader, OneLeader, OneLeaderFrom, SlotsRise, SlotsRiseFrom, is_mark}
use Rattle.sk_model.specs.Once.{called_by, is_burial}
use Rattle.sk_model.specs.Outcome.{Outcome, refuses, tells}
use Rattle.sk_model.specs.Periodic.{is_process, lead, lead_as}
use Rattle.sk_model.specs.Reading.{Words}
use Rattle.sk_model.specs.Seats.{where_plain}
use Rattle.sk_model.specs.Step.{MayComeTo, at_moment}
use Rattle.sk_model.proofs.Theorems.Causes.{moves_have_causes}
use Rattle.sk_model.proofs.Theorems.LockHolders.{same_command}

-- ## One process leads

lead_not : (w : World) (ident : Bytes) (now : ℕ) (process : Bool) → is_led_by_another ident w.moment w.leases ≡ true → IsNotLed (at_moment now (cond process (lead_as w ident (is_led_by_another ident w.moment w.leases)) (refuses NoProcess)))
lead_not w ident now true other = subst (λ b. IsNotLed (at_moment now (lead_as w ident b))) (sym other) (record { reply = inl refl; still = refl })
lead_not w ident now false other = record { reply = inr refl; still = refl }

by_phase : (w : World) (ident : Bytes) (now : ℕ) (phase : Phase) → is_led_by_another ident w.moment w.leases ≡ true → IsNotLed (at_moment now (where_plain phase (lead w ident)))
by_phase w ident now Plain other = lead_not w ident now (is_process w ident) other
by_phase w ident now (Joined name works) other = record { reply = inr refl; still = refl }

fault_not : (words : Words) (fault : CmdFault) (c : Command) → IsRead words (Err fault) → IsRead words (Ok c) → IsNotLed (tells (fault_say fault))
fault_not words fault.Memory c read is = record { reply = inr refl; still = refl }
fault_not words fault.Unknown c read is = absurd (cc (one_command words (Err fault.Unknown) (Ok c) read is (λ e. cc e) (λ e. cc e)))
fault_not words (fault.Arity name) c read is = absurd (cc (one_command words (Err (fault.Arity name)) (Ok c) read is (λ e. cc e) (λ e. cc e)))
fault_not words fault.NotInt c read is = absurd (cc (one_command words (Err fault.NotInt) (Ok c) read is (λ e. cc e) (λ e. cc e)))
fault_not words fault.NotScore c read is = absurd (cc (one_command words (Err fault.NotScore) (Ok c) read is (λ e. cc e) (λ e. cc e)))
fault_not words fault.BadBound c read is = absurd (cc (one_command words (Err fault.BadBound) (Ok c) read is (λ e. cc e) (λ e. cc e)))
fault_not words fault.Syntax c read is = absurd (cc (one_command words (Err fault.Syntax) (Ok c) read is (λ e. cc e) (λ e. cc e)))

module _ (w : World) (seat now : ℕ) (ident : Bytes) (other : is_led_by_another ident (changed w (Passes now)).moment (changed w (Passes now)).leases ≡ true) where
  steps_not : (o : Outcome) → MayComeTo w seat now (command.Script (script.Lead ident)) o → IsNotLed o
  steps_not o (inl e) = subst IsNotLed (sym e) (by_phase (changed w (Passes now)) ident now (phase_of w seat) other)
  steps_not o (inr (may, e)) = subst IsNotLed (sym e) (record { reply = inr refl; still = refl })

  gives_not : (words : Words) (r : Read Command) (o : Outcome) → IsRead words r → IsRead words (Ok (command.Script (script.Lead ident))) → ResultsIn w seat now r o → IsNotLed o
  gives_not words (Ok c) o read leads gives =
      let same = same_command c (command.Script (script.Lead ident)) (one_command words (Ok c) (Ok (command.Script (script.Lead ident))) read leads (λ e. cc e) (λ e. cc e)) in
      steps_not o (subst (λ (c : Command). MayComeTo w seat now c o) same gives)
  gives_not words (Err fault) o read leads e = subst IsNotLed (sym e) (fault_not words fault (command.Script (script.Lead ident)) read leads)

keeps_leader : (w : World) (event : Event) (o : Outcome) → Happens w event o → KeepsLeader w event o
keeps_leader w (Ask seat now words) o (r, read, gives) = λ ident leads other. gives_not w seat now ident other words r o read leads gives
keeps_leader w (Cut seat) o e = tt

leaders_from : (w : World) (steps : List Step) → Run w steps → OneLeaderFrom w steps
leaders_from w [] run = tt
leaders_from w (step ∷ steps) run = (keeps_leader w step.event step.outcome run.0, leaders_from (after w step) steps run.1)

pub one_leader : OneLeader
one_leader limits steps run = leaders_from (first limits) steps run

-- ## Slots rise

both_of : (a b : Bool) → a && b ≡ true → (a ≡ true) × (b ≡ true)
both_of true b e = (refl, e)
both_of false b e = absurd (cc e)

same_number : (m n : ℕ) → m == n ≡ true → m ≡ n
same_number m n e = grind (arith, e)

-- the cause of a slot that a change gives a loop
module _ (w : World) (event : Event) (loop : Bytes) (slot : ℕ) where
  abbrev Caused : Type 0
  Caused = (text : Bytes) × IsSlot w loop slot text event

  mark_caused : (other : Bytes) (number : ℕ) (text : Bytes) → bytes_eq other loop && (number == slot) ≡ true → IsSlot w other number text event → Caused
  mark_caused other number text is cause =
      let both = both_of (bytes_eq other loop) (number == slot) is in
      let named : other ≡ loop = (bytes_eq-Decides other loop).0 both.0 in
      let same : number ≡ slot = same_number number slot both.1 in
      (text, subst (λ (n : ℕ). IsSlot w loop n text event) same (subst (λ (l : Bytes). IsSlot w l number text event) named cause))

  change_caused : (b : Bool) (due : List Change) (change : Change) → is_mark loop slot change ≡ true → HasCause w event b due change → Caused
  change_caused b due (TakesSlot other number text) is cause = mark_caused other number text is cause
  change_caused b due other is cause = absurd (cc is)

  slot_caused : (b : Bool) (due : List Change) (v : World) (changes : List Change) → list_any (is_mark loop slot) changes ≡ true → HaveCauses w event b due v changes → Caused
  slot_caused b due v [] some h = absurd (cc some)
  slot_caused b due v (change ∷ changes) some h =
      by_test (is_mark loop slot change) refl (λ k. slot_caused (b || is_burial change) (called_by v change) (changed v change) changes k h.1)
    where
      by_test : (m : Bool) → is_mark loop slot change ≡ m → (list_any (is_mark loop slot) changes ≡ true → Caused) → Caused
      by_test true is rest = change_caused b due change is h.0
      by_test false is rest = rest (grind (arith, is, some))

rises_from : (w : World) (steps : List Step) → CausesFrom w steps → SlotsRiseFrom w steps
rises_from w [] causes = tt
rises_from w (step ∷ steps) causes = (λ loop slot some. slot_caused w step.event loop slot false [] w step.outcome.changes some causes.0, rises_from (after w step) steps causes.1)

pub slots_rise : SlotsRise
slots_rise limits steps run = rises_from (first limits) steps (moves_have_causes limits steps run)
