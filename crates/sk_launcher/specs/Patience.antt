-- Launches one after another, where the server goes away and comes back.
use Rattle.std.specs.Prelude.{◌≡◌, ◌+◌, ◌++◌, ◌∷◌, [], ℕ, List, Option, Some, None, Result, true, Ok, Err, codes, if◌then◌else◌, nat_le}
use Rattle.std.specs.Fmt.{decimal}
use Rattle.sk_resp.specs.Spelling.{Bytes}
use Rattle.sk_link.specs.Call.{Call}
use Rattle.sk_link.specs.Wire.{WireState}
use Rattle.sk_launcher.specs.Counting.{no_turns, total_from}
use Rattle.sk_launcher.specs.Faults.{is_away}
use Rattle.sk_launcher.specs.Launching.{Given, Launched, closed, launched, starved}
use Rattle.sk_launcher.specs.declared.counts.Counts.{Counts}
use Rattle.sk_launcher.specs.declared.launch_end.LaunchEnd.{LaunchEnd}
use Rattle.sk_launcher.specs.declared.launch_fault.LaunchFault.{LaunchFault}
use Rattle.sk_launcher.specs.declared.work_settings.WorkSettings.{WorkSettings}

-- ## Names

-- the name of the process of the n-th launch: from the second on with a number behind it
abbrev pub numbered : Bytes → ℕ → Bytes
numbered ident n = if nat_le n 1 then ident else ident ++ (codes "-" ++ decimal n)

-- The n-th launch has these settings, with its own name.
pub record IsSettingsAt (settings : WorkSettings) (n : ℕ) (own : WorkSettings) : Type 0 where
  pub first : n ≡ 1 → own ≡ settings
  pub same : own ≡ record settings { ident = numbered settings.ident n; loops = own.loops }
  pub loops : own.loops.items ≡ settings.loops.items

-- ## Ends

-- the counts, or the fault
abbrev pub either : Option LaunchFault → Counts → Result Counts LaunchFault
either None counts = Ok counts
either (Some f) counts = Err f

abbrev pub result_of : LaunchEnd → Result Counts LaunchFault
result_of end = either end.fault end.counts

-- The launch was ended by a server that is away.
abbrev pub IsLost : LaunchEnd → Type 0
IsLost end = (f : LaunchFault) × (end.fault ≡ Some f) × (is_away f ≡ true)

module _ {Conn Delay : Type 0} {Carried : WireState Conn → WireState Conn → List Call → Type 0} {Answers : Delay → ℕ → ℕ → Type 0}
    {DoorFailed : Type 0} {settings : WorkSettings} {rules : List Delay} {before after : Given Conn Delay} where
  -- the counts of each worker of a launch
  abbrev pub workers_counts : (result : Result Counts LaunchFault) → Launched Carried Answers DoorFailed settings rules before after result → List Counts
  workers_counts result (closed failed same) = []
  workers_counts result (starved same) = []
  workers_counts result (launched result' launch) = launch.counts

-- A launch ended so, where these had been counted before it: it is told by its own clause, and the counts of its workers were added.
pub record LaunchEnded {Conn Delay : Type 0} (Carried : WireState Conn → WireState Conn → List Call → Type 0) (Answers : Delay → ℕ → ℕ → Type 0)
    (DoorFailed : Type 0) (settings : WorkSettings) (rules : List Delay) (before after : Given Conn Delay) (sum : Counts) (end : LaunchEnd) : Type 0 where
  pub own : Result Counts LaunchFault
  pub launch : Launched Carried Answers DoorFailed settings rules before after own
  pub own_is : own ≡ either end.fault (total_from no_turns (workers_counts own launch))
  pub counted : end.counts ≡ total_from sum (workers_counts own launch)

-- ## One after another

-- So many launches led from one state to the other, each ended by a server that is away; and so many turns were counted.
pub data Lost {S : Type 0} (Launch : ℕ → Counts → S → LaunchEnd → S → Type 0) (from : S) : ℕ → Counts → S → Type 0 where
  none : Lost Launch from 0 no_turns from
  one_more : (n : ℕ) (sum : Counts) (mid to : S) (end : LaunchEnd) → Lost Launch from n sum mid → Launch (n + 1) sum mid end to → IsLost end →
      Lost Launch from (n + 1) end.counts to

-- Launches were made, and this came of it: all but the last were ended by a server that is away, and the last says what it came to, with the counts of
-- all. Without patience there was one.
pub record Outlasts {S : Type 0} (Launch : ℕ → Counts → S → LaunchEnd → S → Type 0) (patience : ℕ) (from to : S)
    (result : Result Counts LaunchFault) : Type 0 where
  pub lost : ℕ
  pub sum : Counts
  pub mid : S
  pub end : LaunchEnd
  pub away : Lost Launch from lost sum mid
  pub last : Launch (lost + 1) sum mid end to
  pub result_is : result ≡ result_of end
  pub once : patience ≡ 0 → lost ≡ 0
