-- What want of memory comes to.
use Rattle.std.specs.Prelude.{◌≡◌, ◌≢◌, ◌⊎◌, ℕ, pos, List, [], ◌∷◌, Ok, Err, true, codes}
use Rattle.sk_resp.specs.Spelling.{Bytes}
use Rattle.sk_resp.specs.declared.name.Name.TheVariants.{Lrem}
use Rattle.sk_resp.specs.declared.reply.Reply.TheVariants as reply
use Rattle.sk_resp.specs.declared.say.Say.TheVariants as say
use Rattle.sk_cmd.specs.Fault.{fault_say}
use Rattle.sk_cmd.specs.Reading.{Read}
use Rattle.sk_cmd.specs.Table.{IsRead}
use Rattle.sk_cmd.specs.declared.cmd_fault.CmdFault.TheVariants.{Memory}
use Rattle.sk_cmd.specs.declared.command.Command.{Command}
use Rattle.sk_cmd.specs.declared.command.Command.TheVariants as command
use Rattle.sk_cmd.specs.declared.command.PlainCommand.TheVariants as plain
use Rattle.sk_value.specs.declared.action.Action.TheVariants as action
use Rattle.sk_value.specs.declared.write_op.WriteOp.TheVariants as edit
use Rattle.sk_model.specs.World.{World, phase_of}
use Rattle.sk_model.specs.Seats.{releases}
use Rattle.sk_model.specs.Outcome.{Outcome, tells}
use Rattle.sk_model.specs.Step.{outcome, cut, starves}
use Rattle.sk_model.specs.Event.{Event, Ask, Cut, Happens, Run, Step, world_after}
use Rattle.sk_model.specs.Reading.{Words, is_own, is_word}
use Rattle.sk_model.specs.Run.{Turn, IsTurn}

-- the one outcome of words that were read so
abbrev pub outcome_of : World → ℕ → ℕ → Read Command → Outcome
outcome_of w seat now (Ok c) = outcome w seat now c
outcome_of w seat now (Err fault) = tells (fault_say fault)

-- There was memory for the event: it came to its one outcome.
abbrev pub IsServed : World → Event → Outcome → Type 0
IsServed w (Ask seat now words) o = (r : Read Command) × IsRead words r × (r ≢ Err Memory) × (o ≡ outcome_of w seat now r)
IsServed w (Cut seat) o = o ≡ cut seat

-- There was none: the reply is `-OOM`, and time alone goes on, or nothing changes. A cut never starves.
abbrev pub IsStarved : Event → Outcome → Type 0
IsStarved (Ask seat now words) o = (o ≡ starves now) ⊎ (o ≡ tells say.Oom)
IsStarved (Cut seat) o = ⊥

abbrev pub ServedOrStarved : Type 0
ServedOrStarved = (w : World) (event : Event) (o : Outcome) → Happens w event o → IsServed w event o ⊎ IsStarved event o

-- The words are LREM key 1 payload, a release of what the seat has put back or is done with.
pub record AreRelease (w : World) (seat : ℕ) (words : Words) (key held : Bytes) : Type 0 where
  pub word : Bytes
  pub words_are : words ≡ word ∷ key ∷ codes "1" ∷ held ∷ []
  pub word_is : is_word Lrem word ≡ true
  pub release : releases (phase_of w seat) (action.WriteOp key (edit.Lrem (pos 1) held)) ≡ true

-- A release takes no memory, neither to read its words nor to do it.
abbrev pub ReleasesNeverStarve : Type 0
ReleasesNeverStarve = (w : World) (seat now : ℕ) (words : Words) (key held : Bytes) (o : Outcome) → AreRelease w seat words key held → Happens w (Ask seat now words) o
    → o ≡ outcome w seat now (command.Plain (plain.Lrem key (pos 1) held))

-- A pipe has memory for its own words, a cut among them.
abbrev pub OwnWordsNeverStarve : Type 0
OwnWordsNeverStarve = (w : World) (seat now : ℕ) (words : Words) (t : Turn) → is_own words ≡ true → IsTurn seat now words t → Run w t.steps → t.reply ≢ reply.Say say.Oom

-- No step changes the limits.
abbrev pub LimitsStay : Type 0
LimitsStay = (w : World) (steps : List Step) → (world_after w steps).limits ≡ w.limits
