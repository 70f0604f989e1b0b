-- The job that a line of `push` asks for.
use Rattle.std.specs.Prelude.{◌≡◌, ◌∷◌, [], ℕ, None, option_map, true}
use Rattle.sk_base.specs.Yields.{Yields, YieldsAll}
use Rattle.sk_base.specs.declared.clock.Clock as a_clock
use Rattle.sk_base.specs.declared.dice.Dice as a_dice
use Rattle.sk_client.specs.Jid.{jid_of_words}
use Rattle.sk_line.specs.declared.push_line.PushLine.{PushLine}
use Rattle.sk_payload.specs.declared.head.Lock.{Lock}
use Rattle.sk_payload.specs.declared.head.Until.TheVariants.{Success}
use Rattle.sk_app.specs.declared.job.PushJob.{PushJob}

-- a lock until the job succeeds
abbrev pub lock_for : ℕ → Lock
lock_for seconds = record { seconds = seconds; until = Success }

-- The clock gave this moment, and the dice these two words.
abbrev pub Draws : {C D : Type 0} → a_clock.Ghosts C → a_dice.Ghosts D → C → D → C → D → ℕ → ℕ → ℕ → Type 0
Draws OfClock OfDice clock dice clock_after dice_after now_ first second =
    Yields (OfClock.moments clock) now_ (OfClock.moments clock_after) × YieldsAll (OfDice.words dice) (first ∷ second ∷ []) (OfDice.words dice_after)

-- The job of the line, made at this moment, with the id of these two words.
pub record IsJob (line : PushLine) (now_ first second : ℕ) (job : PushJob) : Type 0 where
  pub address : job.address ≡ line.address
  pub due : job.at ≡ line.at
  pub jid : job.draft.jid ≡ jid_of_words first second
  pub class : job.draft.class ≡ line.class
  pub queue : job.draft.queue ≡ line.queue
  pub args : job.draft.args ≡ line.args
  pub retry : job.draft.retry ≡ line.retry
  pub retry_for : job.draft.retry_for ≡ line.retry_for
  pub bid : job.draft.bid ≡ None
  pub lock : job.draft.lock ≡ option_map lock_for line.unique
  pub dead : job.draft.dead ≡ true
  pub created : job.draft.created ≡ now_
