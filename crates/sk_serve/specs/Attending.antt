-- What the session of one connection of a server comes to.
use Rattle.std.specs.Prelude.{◌≡◌, ℕ, None, Bool, true, false, Result}
use Rattle.sk_base.specs.Outside.{Rose}
use Rattle.sk_base.specs.declared.clock.Clock as a_clock
use Rattle.sk_base.specs.declared.failed.Failed.{Failed}
use Rattle.sk_base.specs.declared.sink.Sink as a_sink
use Rattle.sk_base.specs.declared.source.Source as a_source
use Rattle.sk_desk.specs.declared.desk.Desk as a_desk
use Rattle.sk_held.specs.Holding.{IsSince}
use Rattle.sk_held.specs.declared.settler.Settler as a_settler
use Rattle.sk_talk.specs.declared.talk_end.TalkEnd.TheVariants as end
use Rattle.sk_serve.specs.HeldSession.{IsHeldSession}
use Rattle.sk_serve.specs.Session.{IsSession}
use Rattle.sk_serve.specs.declared.attend.Ending.{Ending}

module _ {D K C : Type 0} (Desk : a_desk.Ghosts D) (Source : a_source.Ghosts C) (Sink : a_sink.Ghosts C) (Clock : a_clock.Ghosts K) where
  -- Its replies went to the connection at once. A fault of that was its end only where the count of those rose.
  pub record IsPrompt (desk : D) (clock : K) (conn : C) (how : Ending) (desk' : D) (clock' : K) (conn' : C) : Type 0 where
    pub session : IsSession Desk.wants_words Desk.calls Desk.acked Clock.moments Source.left Sink.taken desk clock conn how.end desk' clock' conn'
    pub read_fault : how.end ≡ end.ReadFault → Rose (Source.read_faults conn) (Source.read_faults conn')
    pub write_fault : how.end ≡ end.WriteFault → Rose (Sink.write_faults conn) (Sink.write_faults conn')
    pub settled : how.unsettled ≡ false

  -- They waited for a settler. The connection took something only where that settled, and what it found stored is stored; and it is unsettled where the
  -- settler failed, and only there.
  pub record IsHeld {W : Type 0} (Settler : a_settler.Ghosts W) (desk : D) (clock : K) (conn : C) (how : Ending) (desk' : D) (clock' : K) (conn' : C) : Type 0 where
    pub handed : Result (Unit {0}) Failed
    pub session : IsHeldSession Desk Source Sink Clock desk clock conn how.end desk' clock' conn' handed
    pub settler : W
    pub settler' : W
    pub since : IsSince (Sink.taken conn) (Settler.settled settler) (Sink.taken conn') (Settler.settled settler') (Settler.stored settler')
    pub failed : how.unsettled ≡ true → Rose (Settler.settle_faults settler) (Settler.settle_faults settler')
    pub passed : how.unsettled ≡ false → Settler.settle_faults settler' ≡ Settler.settle_faults settler

-- As replies wait or don't, it is the one or the other.
abbrev pub IsAttended : {D K C W : Type 0} → Bool → a_desk.Ghosts D → a_source.Ghosts C → a_sink.Ghosts C → a_clock.Ghosts K → a_settler.Ghosts W → D → K → C → Ending → D → K → C → Type 0
IsAttended true Desk Source Sink Clock Settler desk clock conn how desk' clock' conn' = IsHeld Desk Source Sink Clock Settler desk clock conn how desk' clock' conn'
IsAttended false Desk Source Sink Clock Settler desk clock conn how desk' clock' conn' = IsPrompt Desk Source Sink Clock desk clock conn how desk' clock' conn'

-- ## On a new seat

-- how many rows the replies of a session acknowledged, and how it ended
pub record Summary : Type 0 where
  pub acknowledged : ℕ
  pub how : Ending

-- a desk of which only the rows that it acknowledged are told
abbrev pub counting : Bool → a_desk.Ghosts ℕ
counting wants_words = record { wants_words = wants_words; acked = λ rows. rows; calls = λ rows. None }

-- what comes of a session, with the clock and the connection before it and after
abbrev pub Attending : Type 0 → Type 0 → Type 1
Attending C K = Summary → K → C → K → C → Type 0

-- The session, on a new seat whose desk tells no calls, came to this.
abbrev pub Attends : {C K W : Type 0} → Bool → Bool → a_source.Ghosts C → a_sink.Ghosts C → a_clock.Ghosts K → a_settler.Ghosts W → Attending C K
Attends holds_back wants_words Source Sink Clock Settler s clock conn clock' conn' =
    IsAttended holds_back (counting wants_words) Source Sink Clock Settler 0 clock conn s.how s.acknowledged clock' conn'

-- The same of a session whose desk wants no words, and whose replies don't wait.
abbrev pub IsAtOnce : {C K : Type 0} → a_source.Ghosts C → a_sink.Ghosts C → a_clock.Ghosts K → Attending C K
IsAtOnce Source Sink Clock s clock conn clock' conn' = IsPrompt (counting false) Source Sink Clock 0 clock conn s.how s.acknowledged clock' conn'
