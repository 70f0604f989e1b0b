-- Runs of a pipe. Its commands are events, and words of its own, which set the seat that acts and the moment.
use Rattle.std.specs.Prelude.{◌≡◌, ◌↔◌, ℕ, List, [], ◌∷◌, ◌++◌, Ok, map, Bool, true, false, ◌||◌, ◌&&◌}
use Rattle.std.specs.Bool.{MatchBool}
use Rattle.sk_resp.specs.declared.reply.Reply.{Reply}
use Rattle.sk_resp.specs.declared.reply.Reply.TheVariants as reply
use Rattle.sk_resp.specs.declared.say.Say.{Say}
use Rattle.sk_resp.specs.declared.say.Say.TheVariants as say
use Rattle.sk_cmd.specs.Table.{IsRead}
use Rattle.sk_cmd.specs.declared.command.Command.{Command}
use Rattle.sk_cmd.specs.declared.command.Command.TheVariants as command
use Rattle.sk_cmd.specs.declared.command.PlainCommand.TheVariants as plain
use Rattle.sk_model.specs.declared.limits.Limits.{Limits}
use Rattle.sk_model.specs.World.{World, first as first_world}
use Rattle.sk_model.specs.Outcome.{Outcome}
use Rattle.sk_model.specs.Event.{Event, Ask, Cut, Step, world_after, Run}
use Rattle.sk_model.specs.Reading.{Words, PipeCommand, Refused, SetTime, ActAs, CutSeat, RunCommand, IsSaid, is_own}

-- ## State and turn

-- the store, the seat that acts, and the moment that a pipe hands it
pub record State : Type 0 where
  pub world : World
  pub seat : ℕ
  pub now : ℕ

abbrev pub first : Limits → State
first limits = record { world = first_world limits; seat = 0; now = 0 }

-- What a command of a pipe came to.
pub record Turn : Type 0 where
  pub reply : Reply
  -- the event that it was; none, where the pipe answered by itself
  pub steps : List Step
  -- the seat that acts from then on, and the moment that the store is handed
  pub seat : ℕ
  pub now : ℕ
  -- whether the pipe ends with it
  pub ends : Bool

abbrev pub after : State → Turn → State
after s t = record { world = world_after s.world t.steps; seat = t.seat; now = t.now }

-- ## The schedule

-- The pipe answers by itself. That is no event, and the store stays as it is.
abbrev pub fixed : ℕ → ℕ → Say → Turn
fixed seat now say = record { reply = reply.Say say; steps = []; seat = seat; now = now; ends = false }

-- An event came to an outcome. The seat and the moment stay as they are.
abbrev pub happened : ℕ → ℕ → Event → Outcome → Bool → Turn
happened seat now event o ends = record { reply = o.reply; steps = record { event = event; outcome = o } ∷ []; seat = seat; now = now; ends = ends }

-- What a word of the pipe's own comes to. SK.CUT is an event.
abbrev pub IsOwnTurn : ℕ → ℕ → PipeCommand → Turn → Type 0
IsOwnTurn seat now (Refused say) t = t ≡ fixed seat now say
IsOwnTurn seat now (SetTime other) t = t ≡ fixed seat other say.Ok
IsOwnTurn seat now (ActAs other) t = t ≡ fixed other now say.Ok
IsOwnTurn seat now (CutSeat other) t = (o : Outcome) × (t ≡ happened seat now (Cut other) o false)
IsOwnTurn seat now (RunCommand c) t = ⊥

-- QUIT and SHUTDOWN
abbrev pub quits : Command → Bool
quits (command.Plain plain.Quit) = true
quits (command.Plain plain.Shutdown) = true
quits other = false

abbrev pub is_ok : Reply → Bool
is_ok (reply.Say say.Ok) = true
is_ok other = false

-- the words are QUIT or SHUTDOWN, and are answered `+OK`
abbrev pub Quits : Words → Reply → Type 0
Quits words reply = (c : Command) × IsRead words (Ok c) × (quits c && is_ok reply ≡ true)

-- All other words are an event: the acting seat hands them to the store. An accepted QUIT or SHUTDOWN ends the pipe.
abbrev pub IsAskTurn : ℕ → ℕ → Words → Turn → Type 0
IsAskTurn seat now words t = (o : Outcome) × ((ends : Bool) × (t ≡ happened seat now (Ask seat now words) o ends) × ((ends ≡ true) ↔ Quits words o.reply))

abbrev pub IsTurn : ℕ → ℕ → Words → Turn → Type 0
IsTurn seat now words t = MatchBool (is_own words) ((said : PipeCommand) × IsSaid words said × IsOwnTurn seat now said t) (IsAskTurn seat now words t)

-- From this seat and moment on, each command comes to its turn. Nothing follows one that ends the pipe.
abbrev pub Schedule : ℕ → ℕ → List Words → List Turn → Type 0
Schedule seat now [] [] = Unit {0}
Schedule seat now (words ∷ commands) (t ∷ turns) = IsTurn seat now words t × MatchBool t.ends ((commands ≡ []) × (turns ≡ [])) (Schedule t.seat t.now commands turns)
Schedule seat now [] (t ∷ turns) = ⊥
Schedule seat now (words ∷ commands) [] = ⊥

-- ## Runs

-- the events of the turns, with what each came to
abbrev pub steps_in : List Turn → List Step
steps_in [] = []
steps_in (t ∷ turns) = t.steps ++ steps_in turns

-- the state that turns lead to
abbrev pub state_after : State → List Turn → State
state_after s [] = s
state_after s (t ∷ turns) = state_after (after s t) turns

abbrev pub replies_in : List Turn → List Reply
replies_in turns = map (λ t. t.reply) turns

-- whether one of them ends the pipe
abbrev pub ended : List Turn → Bool
ended [] = false
ended (t ∷ turns) = t.ends || ended turns

-- The commands are scheduled from the old state on, and their events are one run of the store. These are the replies, this is the new state, and so
-- it is told whether the pipe ends with the last of them.
pub record Answers (old : State) (commands : List Words) (replies : List Reply) (new : State) (ends : Bool) : Type 0 where
  pub turns : List Turn
  pub schedule : Schedule old.seat old.now commands turns
  pub run : Run old.world (steps_in turns)
  pub replies_are : replies ≡ replies_in turns
  pub new_is : new ≡ state_after old turns
  pub ends_is : ended turns ≡ ends
