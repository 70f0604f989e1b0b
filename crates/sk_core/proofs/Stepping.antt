-- What a step comes to, and that it keeps the laws.
use Rattle.std.proofs.Common.{◌≡◌, ℕ, ℤ, refl, sym, ap, subst, ◌∙◌, arith, pos, ◌&&◌, Bool, true, false}
use Rattle.std.specs.Prelude.{List, Some, None, cond}
use Rattle.std.specs.Ordering.{int_cmp, is_eq}
use Rattle.std.specs.Str.{bytes_eq}
use Rattle.std.proofs.lemmas.Slice.Eq.{bytes_eq-Decides}
use Rattle.sk_resp.specs.Spelling.{Bytes}
use Rattle.sk_resp.specs.declared.reply.Reply.{Reply}
use Rattle.sk_resp.specs.declared.say.Say.TheVariants as say
use Rattle.sk_cmd.specs.declared.command.Command.{Command}
use Rattle.sk_cmd.specs.declared.command.PlainCommand.{PlainCommand}
use Rattle.sk_cmd.specs.declared.command.ScriptCommand.{ScriptCommand}
use Rattle.sk_payload.specs.Member.{is_name}
use Rattle.sk_value.specs.declared.action.Action.{Action}
use Rattle.sk_value.specs.declared.action.Action.TheVariants as action
use Rattle.sk_value.specs.declared.write_op.WriteOp.TheVariants as edit
use Rattle.sk_key.specs.declared.key_class.KeyClass.{KeyClass}
use Rattle.sk_key.specs.declared.key_class.KeyClass.TheVariants as class
use Rattle.sk_seats.specs.declared.phase.Phase.{Phase}
use Rattle.sk_seats.specs.declared.phase.Phase.TheVariants.{Plain, Joined}
use Rattle.sk_model.specs.Change.{Passes, passed, changed, perform}
use Rattle.sk_seats.specs.declared.work.Work.{Work}
use Rattle.sk_key.specs.Class.{class_of, ident_of, is_private, private_key}
use Rattle.sk_model.specs.declared.limits.Limits.{Limits}
use Rattle.sk_model.specs.Outcome.{Realizes, Outcome, tells}
use Rattle.sk_model.specs.Seats.{has_done, is_worker_action, releases, releases_by, is_worker_write}
use Rattle.sk_model.specs.Step.{MayComeTo, act, at_moment, by_seat, run, script_outcome}
use Rattle.sk_model.specs.Workers.{work}
use Rattle.sk_model.specs.World.{World, first, phase_of}
use Rattle.sk_model.specs.Step.{cut}
use Rattle.sk_model.proofs.Commands.All.{cut_covered, cut_sound, step_covered, step_sound}
use Rattle.sk_model.proofs.Changes.Covered.{covered_none}
use Rattle.sk_model.proofs.Theorems.LiveJobs.{sound_first}
use Rattle.sk_core.specs.Whole.{KeepsLaws}

-- ## A worker's command on keys

either_private : (b : Bool) → is_private (cond b class.Private class.NoPrivate) ≡ true
either_private true = refl
either_private false = refl

listed : (ident : Bytes) → is_private (class_of (private_key ident)) ≡ true
unfolding class_of
listed ident = either_private (is_name 255 (ident_of (private_key ident)))

takes : (k : KeyClass) (count : ℤ) (text : Bytes) → is_private k ≡ true → is_worker_write k (edit.Lrem count text) ≡ true
takes k count text e = grind (arith, e)

-- a release is a worker's command
no_release : (ident : Bytes) (works : List Work) (a : Action) → is_worker_action a ≡ false → releases_by ident works a ≡ false
no_release ident works (action.WriteOp key (edit.Lrem count text)) other = by_key (bytes_eq key (private_key ident)) refl where
  by_key : (b : Bool) → bytes_eq key (private_key ident) ≡ b → has_done works (cond (b && is_eq (int_cmp count (pos 1))) (Some text) None) ≡ false
  by_key true same =
      let is : key ≡ private_key ident = (bytes_eq-Decides key (private_key ident)).0 same in
      absurd (cc (takes (class_of key) count text (ap (λ k. is_private (class_of k)) is ∙ listed ident), other))
  by_key false same = refl
no_release ident works a other = grind (arith, other)

pub releases_not : (phase : Phase) (a : Action) → is_worker_action a ≡ false → releases phase a ≡ false
releases_not Plain a other = refl
releases_not (Joined ident works) a other = no_release ident works a other

-- ## The step

-- what comes about at the moment comes about where that is still to be handed in
at_passed : (w new : World) (now : ℕ) (o : Outcome) (reply : Reply) → Realizes (passed now w) o reply new → Realizes w (at_moment now o) reply new
at_passed w new now o reply k = record { reply_is = k.reply_is; new_is = k.new_is }

pub script_comes : (w mid new : World) (seat now : ℕ) (c : ScriptCommand) (reply : Reply) → mid ≡ passed now w → Realizes mid (run mid seat (phase_of mid seat) c) reply new → Realizes w (script_outcome w seat now c) reply new
script_comes w mid new seat now c reply f comes = at_passed w new now (run (passed now w) seat (phase_of w seat) c) reply (subst (λ m. Realizes m (run m seat (phase_of m seat) c) reply new) f comes)

pub plain_comes : (w mid new : World) (seat now : ℕ) (c : PlainCommand) (reply : Reply) → mid ≡ passed now w → Realizes mid (by_seat mid seat (phase_of mid seat) c) reply new → Realizes w (at_moment now (by_seat (passed now w) seat (phase_of w seat) c)) reply new
plain_comes w mid new seat now c reply f comes = at_passed w new now (by_seat (passed now w) seat (phase_of w seat) c) reply (subst (λ m. Realizes m (by_seat m seat (phase_of m seat) c) reply new) f comes)

-- ## The laws are kept

pub laws_first : (limits : Limits) → KeepsLaws (first limits)
laws_first limits = record { sound = sound_first limits; covered = covered_none limits.batches }

-- so they are by every step
pub steps_keep : (w new : World) (seat now : ℕ) (c : Command) (reply : Reply) → (o : Outcome) × MayComeTo w seat now c o × Realizes w o reply new → KeepsLaws w → KeepsLaws new
steps_keep w new seat now c reply (o, is, comes) k = subst KeepsLaws (sym comes.new_is) (record { sound = step_sound w seat now c o is k.sound; covered = step_covered w seat now c o is k.covered })

-- and by a cut
pub cut_keeps : (w new : World) (seat : ℕ) → new ≡ perform w (cut seat).changes → KeepsLaws w → KeepsLaws new
cut_keeps w new seat is k = subst KeepsLaws (sym is) (record { sound = cut_sound w seat k.sound; covered = cut_covered w seat k.covered })
