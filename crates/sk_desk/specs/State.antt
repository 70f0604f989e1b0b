-- What stands behind the lock, and what a seat's command and its cut do to it.
use Rattle.std.specs.Prelude.{◌≡◌, ◌⊎◌, ℕ, ◌+◌, [], false, Option, IfSome}
use Rattle.sk_resp.specs.Spelling.{Bytes}
use Rattle.sk_resp.specs.declared.reply.Reply.{Reply}
use Rattle.sk_resp.specs.declared.reply.Reply.TheVariants as reply
use Rattle.sk_resp.specs.declared.say.Say.TheVariants as say
use Rattle.sk_status.specs.declared.tally.Tally.{Tally}
use Rattle.sk_cmd.specs.declared.command.Command.{Command}
use Rattle.sk_model.specs.Acked.{Acknowledges}
use Rattle.sk_model.specs.Change.{perform}
use Rattle.sk_model.specs.Outcome.{Realizes, Outcome}
use Rattle.sk_model.specs.Reading.{Words}
use Rattle.sk_model.specs.Step.{MayComeTo, cut}
use Rattle.sk_model.specs.World.{World}
use Rattle.sk_desk.specs.Counts.{Counts, HasEvents, ShareView, with_ask, with_cut}
use Rattle.sk_desk.specs.Journal.{IsJournal}
use Rattle.sk_desk.specs.Log.{AllAnswered, EntersCut, IsText, Log, Writes, ask_entry, with_entry}
use Rattle.sk_desk.specs.Writing.{IsKeptUp, Spelling, Writing}

-- the store's world, what its book has logged and what it has written, where it tells that, and the total of the ledgers
pub record StateView : Type 0 where
  pub world : World
  pub log : Option Log
  pub writing : Option Writing
  pub total : Counts

-- No entry waits, and the entries are a journal from the start to this world. Each Ask has its reply, unless memory was wanting.
pub record IsLogged (start w : World) (log : Log) : Type 0 where
  pub closed : log.waiting ≡ []
  pub answered : log.starved ≡ false → AllAnswered log.entries
  pub journal : IsJournal start log.entries w

-- how many rows clients have pushed into a store
abbrev pub pushed_in : World → ℕ
pushed_in w = w.tally.outside

-- The total is the number of rows that clients have pushed since the start, and the book is a journal of all that was asked and cut since.
pub record IsConsistent (start : World) (s : StateView) : Type 0 where
  pub counted : s.total.rows + pushed_in start ≡ pushed_in s.world
  pub logged : IfSome s.log (IsLogged start s.world)
  pub events : IfSome s.log (λ log. HasEvents s.total.asks s.total.cuts log.entries)

-- What holds each time that the lock is got: that, the store has the limits that it had at the start, and what the book has written is what a log keeps of
-- the run since.
pub record IsKept (spells : Spelling) (start : World) (s : StateView) : Type 0 where
  pub limits_are : s.world.limits ≡ start.limits
  pub consistent : IsConsistent start s
  pub kept_up : IfSome s.writing (IsKeptUp spells start s.world)

-- Each row that was pushed had no head, or its job was there already, is live, or has ended.
abbrev pub IsBalanced : Tally → Type 0
IsBalanced t = t.outside + t.inner ≡ t.bare + t.again + t.live + t.returned + t.discarded + t.deleted + t.trimmed + t.muddled

-- ## A seat's command

-- The store did the command and gave its reply, or starved. The share and the total grew by this command, with the rows that the reply acknowledges,
-- and just this Ask was entered.
pub record Asked (old new : StateView) (seat now : ℕ) (words : Words) (c : Command) (answer : Reply) (mine mine' : ShareView) : Type 0 where
  pub outcome : Outcome
  pub steps : MayComeTo old.world seat now c outcome
  pub comes : Realizes old.world outcome answer new.world
  pub acked : Acknowledges c answer mine.counts.rows mine'.counts.rows
  pub mine_is : mine' ≡ record mine { counts = with_ask acked.added mine.counts }
  pub total_is : new.total ≡ with_ask acked.added old.total
  pub text : Option Bytes
  pub is_text : IsText answer text
  pub entered : Writes old.log (with_entry (ask_entry seat now words text)) new.log

-- The book found no memory for the entry, and nothing changed.
pub record Unasked (old new : StateView) (answer : Reply) (mine mine' : ShareView) : Type 0 where
  pub says : answer ≡ reply.Say say.Oom
  pub same : new ≡ old
  pub mine_same : mine' ≡ mine

abbrev pub Asks : StateView → StateView → ℕ → ℕ → Words → Command → Reply → ShareView → ShareView → Type 0
Asks old new seat now words c answer mine mine' = Asked old new seat now words c answer mine mine' ⊎ Unasked old new answer mine mine'

-- ## A cut

-- The seat was cut off, just this Cut was entered, and the total grew by it.
pub record Quits (old new : StateView) (seat : ℕ) : Type 0 where
  pub world_is : new.world ≡ perform old.world (cut seat).changes
  pub entered : EntersCut seat old.log new.log
  pub total_is : new.total ≡ with_cut old.total
