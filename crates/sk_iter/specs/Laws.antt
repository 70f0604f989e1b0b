-- What holds of each call of `iterate`, and of calls that go through a run of the store one after another.
use Rattle.std.specs.Prelude.{◌≡◌, ◌⊎◌, ◌≤◌, ◌<◌, ◌+◌, ◌++◌, ◌∷◌, ◌&&◌, [], ℕ, true, nat_le, List, Option, Some, None, Ok, filter, length, unwrap_or, if◌then◌else◌}
use Rattle.std.specs.List.{AllByRecursion}
use Rattle.sk_resp.specs.Spelling.{Bytes}
use Rattle.sk_worker.specs.Run.{is_returned}
use Rattle.sk_iter.specs.Calls.{IterCall}
use Rattle.sk_iter.specs.Event.{Event, ItemRun, asked, ran, runs}
use Rattle.sk_iter.specs.Request.{get_words, set_words}
use Rattle.sk_iter.specs.declared.iter_end.IterEnd.TheVariants.{Done}

-- ## One call

-- The items are consecutive from this index on, and all returned but perhaps the last.
abbrev pub AreConsecutive : ℕ → List ItemRun → Type 0
AreConsecutive first [] = Unit {0}
AreConsecutive first (item ∷ []) = item.index ≡ first
AreConsecutive first (item ∷ next ∷ items) = (item.index ≡ first) × (is_returned item.outcome ≡ true) × AreConsecutive (first + 1) (next ∷ items)

-- They are so from the cursor on. Where none was read, no item was run.
abbrev pub AreFromCursor : Option ℕ → List ItemRun → Type 0
AreFromCursor None items = items ≡ []
AreFromCursor (Some cursor) items = AreConsecutive cursor items

abbrev pub ItemsInOrder : IterCall → Type 0
ItemsInOrder call = AreFromCursor call.cursor (runs call.events)

-- Each request is the GET, or saves a number that is at most the first index that hasn't returned; it is this one before the events.
abbrev pub SavesFrom : Bytes → ℕ → List Event → Type 0
SavesFrom jid first [] = Unit {0}
SavesFrom jid first (asked call ∷ events) =
    ((call.request ≡ get_words jid) ⊎ ((saved : ℕ) × (call.request ≡ set_words jid saved) × (saved ≤ first))) × SavesFrom jid first events
SavesFrom jid first (ran item ∷ events) = SavesFrom jid (if is_returned item.outcome then first + 1 else first) events

abbrev pub SavesReturned : Bytes → IterCall → Type 0
SavesReturned jid call = SavesFrom jid (unwrap_or call.cursor 0) call.events

-- ## Several calls

-- It holds of each of the calls and each later one.
abbrev pub OfLater : (IterCall → IterCall → Type 0) → List IterCall → Type 0
OfLater R [] = Unit {0}
OfLater R (call ∷ more) = AllByRecursion (R call) more × OfLater R more

-- It holds of each of the calls and those before it.
abbrev pub OfEarlier : (List IterCall → IterCall → Type 0) → List IterCall → List IterCall → Type 0
OfEarlier R earlier [] = Unit {0}
OfEarlier R earlier (call ∷ more) = R earlier call × OfEarlier R (earlier ++ call ∷ []) more

-- the items that they ran, in order
abbrev pub all_runs : List IterCall → List ItemRun
all_runs [] = []
all_runs (call ∷ more) = runs call.events ++ all_runs more

-- One of them is the item with this index, and returned.
abbrev pub HasReturned : List ItemRun → ℕ → Type 0
HasReturned [] index = ⊥
HasReturned (item ∷ items) index = ((item.index ≡ index) × (is_returned item.outcome ≡ true)) ⊎ HasReturned items index

-- how many of them returned
abbrev pub returned_count : List ItemRun → ℕ
returned_count items = length (filter (λ item. is_returned item.outcome) items)

-- how many of them returned, and stand at this index or above it
abbrev pub again_count : ℕ → List ItemRun → ℕ
again_count cursor items = length (filter (λ item. is_returned item.outcome && nat_le cursor item.index) items)

-- The cursor that a call reads is at least each cursor read before.
abbrev pub CursorsRise : List IterCall → Type 0
CursorsRise calls = OfLater (λ one later. (c d : ℕ) → one.cursor ≡ Some c → later.cursor ≡ Some d → c ≤ d) calls

-- Every index below it has returned in an earlier call.
abbrev pub BelowReturned : List IterCall → Type 0
BelowReturned calls = OfEarlier (λ earlier call. (c index : ℕ) → call.cursor ≡ Some c → index < c → HasReturned (all_runs earlier) index) [] calls

-- None below it is run again, in the call itself or a later one.
abbrev pub AreFrom : ℕ → IterCall → Type 0
AreFrom c call = AllByRecursion (λ item. c ≤ item.index) (runs call.events)

abbrev pub NoneRunAgain : List IterCall → Type 0
NoneRunAgain calls =
    AllByRecursion (λ call. (c : ℕ) → call.cursor ≡ Some c → AreFrom c call) calls
    × OfLater (λ one later. (c : ℕ) → one.cursor ≡ Some c → AreFrom c later) calls

-- Of the items that returned in a call, at most `every` are run again by the next one, and by all later ones: they run items from their cursor on.
abbrev pub FewRunAgain : List IterCall → Type 0
FewRunAgain calls = OfLater (λ one later. (d : ℕ) → later.cursor ≡ Some d → again_count d (runs one.events) ≤ one.bounds.every) calls

-- After Done every index below the length has returned.
abbrev pub DoneIsAll : List IterCall → Type 0
DoneIsAll calls = OfEarlier (λ earlier call. call.result ≡ Some (Ok Done) → (index : ℕ) → index < call.bounds.len →
    HasReturned (all_runs (earlier ++ call ∷ [])) index) [] calls
