-- What a pipe over a file does to the file before it talks, and that it does or doesn't talk.
use Rattle.std.specs.Prelude.{◌≡◌, ◌≢◌, ◌⊎◌, ◌<◌, ◌+◌, ◌^◌, ℕ, List, [], length, Option}
use Rattle.sk_disk.specs.Images.{Images}
use Rattle.sk_log.specs.File.{Begins, Body, IsAt, records}
use Rattle.sk_log.specs.Reading.{OnlyRead}
use Rattle.sk_log.specs.declared.fault.LogFault.{LogFault}
use Rattle.sk_log.specs.declared.fault.LogFault.TheVariants as fault
use Rattle.sk_resp.specs.Spelling.{Bytes}
use Rattle.sk_model.specs.declared.limits.Limits.{Limits}
use Rattle.sk_model.specs.Event.{Step, world_after}
use Rattle.sk_model.specs.World.{World, first}
use Rattle.sk_aof.specs.Appends.{Appends}
use Rattle.sk_aof.specs.Cuts.{AllPlain, CutsOff, CutsStop, LeavesCuts}
use Rattle.sk_aof.specs.Stored.{HoldsRun, IsSameInTime, IsStored}
use Rattle.sk_aof.specs.Talking.{Talked}
use Rattle.sk_aof.specs.declared.log_end.LogEnd.{LogEnd}
use Rattle.sk_aof.specs.declared.log_end.LogEnd.TheVariants.{Fault}

-- The file has no bytes.
abbrev pub IsEmpty : Images → Type 0
IsEmpty reads = (c : List ℕ) → reads c → c ≡ []

-- It has bytes, and doesn't begin as a log does.
abbrev pub IsNoLog : List ℕ → Type 0
IsNoLog c = (c ≢ []) × (Begins c → ⊥)

module _ {D : Type 0} (reads may_leave : D → Images) (moment : D → ℕ) (left_since : D → ℕ → Images) where
  -- ## Before the talk

  -- The file was empty, and is the log of an empty store now.
  pub record IsMade (limits : Limits) (old : D) (store : ℕ × World) (new : D) : Type 0 where
    pub empty : IsEmpty (reads old)
    pub ready : IsAt [] store.0 (may_leave new)
    pub world_is : store.1 ≡ first limits

  -- The log was opened, and nothing was written: the store is what its entries lead to, and where these were logged of a run, the run's last world.
  pub record IsOpened (limits : Limits) (old : D) (gate : ℕ) (w : World) (new : D) : Type 0 where
    pub only_read : OnlyRead reads may_leave moment left_since old new
    pub stored : IsStored limits (reads old) (may_leave new) gate w
    pub holds : (steps : List Step) → HoldsRun limits steps (reads old) → IsSameInTime (world_after (first limits) steps) w

  -- It was opened, and then its seats were cut off: none is a worker's now, and the cuts are in the log.
  pub record IsReopened (limits : Limits) (old : D) (store : ℕ × World) (new : D) : Type 0 where
    pub gate : ℕ
    pub world : World
    pub disk : D
    pub opened : IsOpened limits old gate world disk
    pub cuts : CutsOff may_leave moment left_since gate disk world store.0 new store.1
    pub plain : AllPlain store.1

  abbrev pub IsReady : Limits → D → ℕ × World → D → Type 0
  IsReady limits old store new = IsMade limits old store new ⊎ IsReopened limits old store new

  -- ## No talk

  -- The log was opened, but it can't take the cuts: a crash at any moment leaves it with the first few of them.
  pub record StaysUncut (limits : Limits) (old new : D) (why : LogFault) : Type 0 where
    pub gate : ℕ
    pub world : World
    pub disk : D
    pub opened : IsOpened limits old gate world disk
    pub left : LeavesCuts may_leave moment left_since gate disk new
    pub last : World
    pub stop : CutsStop may_leave moment left_since gate disk world last why

  -- The log couldn't be opened, and nothing was written; or it can't take the cuts.
  abbrev pub StaysShut : Limits → D → D → LogFault → Type 0
  StaysShut limits old new why = (OnlyRead reads may_leave moment left_since old new × (why ≢ fault.Full)) ⊎ StaysUncut limits old new why

  -- The same, or no log could be made of an empty file.
  abbrev pub StopsBefore : Limits → D → D → LogFault → Type 0
  StopsBefore limits old new why = StaysShut limits old new why ⊎ (IsEmpty (reads old) × (why ≡ fault.Disk))

  -- ## A full file

  -- Bodies were put into the log that was made or opened, and with the next ones the file would have more than 2^50 bytes.
  pub record FillsUp (limits : Limits) (old : D) : Type 0 where
    pub store : ℕ × World
    pub disk : D
    pub begun : IsMade limits old store disk ⊎ IsOpened limits old store.0 store.1 disk
    pub bodies : List Body
    pub gate : ℕ
    pub now : D
    pub appends : Appends may_leave moment left_since bodies store.0 disk gate now
    pub next : List Body
    pub too_long : 2 ^ 50 < gate + length (records next) + 1

  -- ## The pipe

  module _ {S K : Type 0} (left : S → Option Bytes) (taken : K → Option Bytes) where
    -- There was no talk: nothing was read and nothing written.
    pub record NeverTalked (limits : Limits) (source source' : S) (sink sink' : K) (old new : D) (result : LogEnd) : Type 0 where
      pub why : LogFault
      pub is_end : result ≡ Fault why
      pub unread : left source' ≡ left source
      pub unwritten : taken sink' ≡ taken sink
      pub stops : StopsBefore limits old new why

    -- It was made ready, and then talked over.
    pub record TalkedOver (limits : Limits) (source source' : S) (sink sink' : K) (old new : D) (result : LogEnd) : Type 0 where
      pub store : ℕ × World
      pub disk : D
      pub ready : IsReady limits old store disk
      pub talked : Talked may_leave moment left_since left taken source source' sink sink' store disk new result

    abbrev pub Pipes : Limits → S → S → K → K → D → D → LogEnd → Type 0
    Pipes limits source source' sink sink' old new result =
        TalkedOver limits source source' sink sink' old new result ⊎ NeverTalked limits source source' sink sink' old new result
