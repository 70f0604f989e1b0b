-- The turns of a poller in its thread, each with the link, the clock and the dice of that thread.
use Rattle.std.specs.Prelude.{◌≡◌, ◌+◌, ℕ, true, false, List, Option, Some, None, is_some, Result, Ok, Err, refl}
use Rattle.sk_link.specs.Call.{Call}
use Rattle.sk_poller.specs.Stage.{PollTurn, Watch, watch_of}
use Rattle.sk_poller.specs.declared.report.PollFault.{PollFault}
use Rattle.sk_poller.specs.declared.report.PollReport.{PollReport}
use Rattle.sk_launcher.specs.Turning.{Advances, WentOn}
use Rattle.sk_launcher.specs.declared.poller_thread.PollerThread.{PollerThread}

-- A poller with its link and its dice, the moments and words that its clock and its dice are going to give, and what came of its turns.
pub record PollState (Link Dice : Type 0) : Type 0 where
  pub link : Link
  pub moments : Option (ℕ → ℕ)
  pub dice : Dice
  pub words : Option (ℕ → ℕ)
  pub watch : Watch
  -- how many turns had an answer
  pub taken : ℕ
  pub fault : Option PollFault

-- a poller in its thread, by what its clock and its dice tell
abbrev pub poller_of : {Link C D : Type 0} → (C → Option (ℕ → ℕ)) → (D → Option (ℕ → ℕ)) → PollerThread Link C D → PollState Link D
poller_of moments words p = record {
  link = p.link;
  moments = moments p.clock;
  dice = p.dice;
  words = words p.dice;
  watch = watch_of p.poller;
  taken = p.taken;
  fault = p.fault;
}

-- one whose dice tells no words, as a process gives it
abbrev pub own_poller : {Link C D : Type 0} → (C → Option (ℕ → ℕ)) → PollerThread Link C D → PollState Link D
own_poller moments p = poller_of moments (λ _. None) p

-- what a turn's answer is noted as
abbrev pub IsNoted : {Link Dice : Type 0} → PollState Link Dice → Result PollReport PollFault → PollState Link Dice → Type 0
IsNoted a (Ok report) b = (b.fault ≡ None) × (b.taken ≡ a.taken + 1)
IsNoted a (Err f) b = (b.fault ≡ Some f) × (b.taken ≡ a.taken)

-- A turn led from one state to the other, by its own events.
pub record PollerTurn {Link Dice : Type 0} (Carried : Link → Link → List Call → Type 0)
    (a : PollState Link Dice) (result : Result PollReport PollFault) (b : PollState Link Dice) : Type 0 where
  pub whole : a.fault ≡ None
  pub turn : PollTurn (Carried a.link b.link) a.moments b.moments a.words b.words a.watch result
  pub watch_same : b.watch ≡ a.watch
  pub noted : IsNoted a result b

-- A poller went on with its turns, and took no more than so many in all.
abbrev pub PollerAdvances : {Link Dice : Type 0} → (Link → Link → List Call → Type 0) → ℕ → PollState Link Dice → PollState Link Dice → Type 0
PollerAdvances Carried turns a b = Advances (WentOn (PollerTurn Carried)) (λ p. p.taken) turns a b

-- ## Laws of a turn

pub begins : {Link Dice : Type 0} (Carried : Link → Link → List Call → Type 0) (a b : PollState Link Dice)
    (result : Result PollReport PollFault) → PollerTurn Carried a result b → is_some a.fault ≡ false
begins Carried a b result turn = rw turn.whole refl

pub ends : {Link Dice : Type 0} (Carried : Link → Link → List Call → Type 0) (a b : PollState Link Dice) (fault : PollFault) →
    PollerTurn Carried a (Err fault) b → is_some b.fault ≡ true
ends Carried a b fault turn = rw turn.noted.0 refl
