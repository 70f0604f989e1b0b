-- What the store serves, and what it keeps.
use Rattle.std.specs.Prelude.{ℕ, Bool, ◌||◌, cond}
use Rattle.sk_resp.specs.declared.refusal.Refusal.TheVariants.{OutOfTurn}
use Rattle.sk_resp.specs.declared.reply.Reply.{Reply}
use Rattle.sk_cmd.specs.declared.command.Command.{Command}
use Rattle.sk_value.specs.declared.action.Action.{Action}
use Rattle.sk_seats.specs.Phases.{is_plain}
use Rattle.sk_seats.specs.declared.phase.Phase.{Phase}
use Rattle.sk_model.specs.Covered.{IsCovered}
use Rattle.sk_model.specs.Life.{IsSound}
use Rattle.sk_model.specs.Outcome.{Realizes, Outcome, refuses}
use Rattle.sk_model.specs.Seats.{adds, is_worker_action}
use Rattle.sk_model.specs.Step.{MayComeTo, act}
use Rattle.sk_model.specs.Workers.{work}
use Rattle.sk_model.specs.World.{World}
use Rattle.sk_store.specs.Stored.{IsReady, world}
use Rattle.sk_store.specs.declared.store.Store.{Store}

-- What a seat in this phase sends, by whether its command only reads: a worker's command, or one that all seats may send, or, from a Plain seat, any
-- other.
abbrev pub sent_by : World → ℕ → Phase → Bool → Action → Outcome
sent_by w seat phase reads action = cond (is_worker_action action) (work w seat phase action) (cond (is_plain phase || (reads || adds action)) (act w action) (refuses OutOfTurn))

-- The store did what it makes of the command at this moment, or starved.
abbrev pub AnswersCommand : Store → ℕ → ℕ → Command → Reply → Store → Type 0
AnswersCommand old seat now command reply new = (o : Outcome) × MayComeTo (world old) seat now command o × Realizes (world old) o reply (world new)

-- Each live job is kept, each pushed row is accounted for, and the callbacks that were pushed are no more than were fired.
pub record KeepsLaws (w : World) : Type 0 where
  pub sound : IsSound w
  pub covered : IsCovered w.tally.inner w.batches

-- no step is open, and the laws are kept
pub record StoreInvariant (s : Store) : Type 0 where
  pub ready : IsReady s
  pub laws : KeepsLaws (world s)
