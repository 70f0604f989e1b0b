-- What one command does to a pipe.
use Rattle.std.specs.Prelude.{◌≡◌, Option, Some, None, is_some, cond}
use Rattle.sk_cmd.specs.declared.command.Command.{Command}
use Rattle.sk_model.specs.Change.{perform}
use Rattle.sk_model.specs.Event.{Run}
use Rattle.sk_model.specs.Outcome.{Outcome}
use Rattle.sk_model.specs.Reading.{Words}
use Rattle.sk_model.specs.Run.{State, Turn, IsTurn, after, is_ok, quits}
use Rattle.sk_model.specs.Step.{MayComeTo}
use Rattle.sk_resp.specs.declared.reply.Reply.{Reply}
use Rattle.sk_cmd.specs.declared.command.Command.TheVariants as command
use Rattle.sk_cmd.specs.declared.command.PlainCommand.TheVariants as plain
use Rattle.sk_talk.specs.declared.talk_end.Stop.{Stop}
use Rattle.sk_talk.specs.declared.talk_end.Stop.TheVariants as stop
use Rattle.sk_talk.specs.declared.talker.Answer.{Answer}

-- the word that a QUIT or SHUTDOWN is
abbrev pub word_of : Command → Stop
word_of (command.Plain plain.Shutdown) = stop.Shutdown
word_of other = stop.Quit

abbrev pub stop_of : Command → Option Stop
stop_of c = cond (quits c) (Some (word_of c)) None

-- that word, where it is answered `+OK`
abbrev pub where_ok : Option Stop → Reply → Option Stop
where_ok ends answer = cond (is_ok answer) ends None

-- The words came to a turn: this was answered, and it led from the old state to the new one.
pub record HandlesLine (old : State) (words : Words) (answer : Answer) (new : State) : Type 0 where
  pub turn : Turn
  pub is_turn : IsTurn old.seat old.now words turn
  pub run : Run old.world turn.steps
  pub reply_is : answer.reply ≡ turn.reply
  pub ends_is : is_some answer.stop ≡ turn.ends
  pub new_is : new ≡ after old turn

-- The acting seat handed the store the command, which came to its outcome, or starved.
pub record HandlesCommand (old : State) (command : Command) (answer : Answer) (new : State) : Type 0 where
  pub outcome : Outcome
  pub steps : MayComeTo old.world old.seat old.now command outcome
  pub reply_is : answer.reply ≡ outcome.reply
  pub stop_is : answer.stop ≡ where_ok (stop_of command) outcome.reply
  pub new_is : new ≡ record old { world = perform old.world outcome.changes }
