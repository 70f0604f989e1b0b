-- When stories and a journal are alike, and where they differ.
use Rattle.std.specs.Prelude.{◌≡◌, ◌≢◌, ◌==◌, ◌≤◌, ◌+◌, ◌++◌, ◌∷◌, ℕ, List, [], Option, Some, None, get_or, length, map, take, if◌then◌else◌}
use Rattle.std.specs.List.{flat_map, slice_get}
use Rattle.sk_compare.specs.Exchange.{Exchange, FitsMemory, WasAnswered, exchange_of, text_in}
use Rattle.sk_compare.specs.declared.difference.Difference.{Difference}
use Rattle.sk_desk.specs.declared.entry.Ask.{Ask}
use Rattle.sk_desk.specs.declared.entry.Deed.{Deed}
use Rattle.sk_desk.specs.declared.entry.Deed.TheVariants as deed
use Rattle.sk_desk.specs.declared.entry.Entry.{Entry}
pub use Rattle.sk_desk.specs.Log.{AllAnswered, HasReply}
use Rattle.sk_lane.specs.declared.story.Story.{Story}

-- ## What is told of a seat, and what a journal has of it

-- what a story tells of a seat: its asks where that is its own
abbrev pub told_by : ℕ → Story → List Exchange
told_by s story = if story.seat == s then map exchange_of story.asks.items else []

-- what stories tell of a seat, one after another
abbrev pub told : List Story → ℕ → List Exchange
told stories s = flat_map (told_by s) stories

abbrev pub with_deed : Deed → List Exchange → List Exchange
with_deed (deed.Ask ask) xs = exchange_of ask ∷ xs
with_deed deed.Cut xs = xs

-- the asks of a seat in a journal
abbrev pub noted : List Entry → ℕ → List Exchange
noted [] s = []
noted (e ∷ entries) s = if e.seat == s then with_deed e.deed (noted entries s) else noted entries s

-- The journal has of each seat what is told of it, each ask once and in order.
pub record Alike (told noted : ℕ → List Exchange) : Type 0 where
  pub each : (s : ℕ) → told s ≡ noted s

-- The first place of a seat at which there is another ask in the one than in the other, or only in one of them. There the texts differ, too, unless one
-- of the two asks has no reply.
pub record DiffersAt (told noted : ℕ → List Exchange) (d : Difference) : Type 0 where
  pub before : take d.place (told d.seat) ≡ take d.place (noted d.seat)
  pub other : slice_get (told d.seat) d.place ≢ slice_get (noted d.seat) d.place
  pub told_is : d.told ≡ text_in (slice_get (told d.seat) d.place)
  pub noted_is : d.noted ≡ text_in (slice_get (noted d.seat) d.place)
  pub texts : WasAnswered (slice_get (told d.seat) d.place) → WasAnswered (slice_get (noted d.seat) d.place) → d.told ≢ d.noted

-- what a comparison answers
abbrev pub Compares : (ℕ → List Exchange) → (ℕ → List Exchange) → Option Difference → Type 0
Compares told noted None = Alike told noted
Compares told noted (Some d) = DiffersAt told noted d

-- ## A walk through a journal

-- of a list that has what is told of each seat at the seat's number
abbrev pub told_at : List (List Exchange) → ℕ → List Exchange
told_at table s = get_or table s []

-- how many asks of a seat were met, by a list of these numbers
abbrev pub met_at : List ℕ → ℕ → ℕ
met_at met s = get_or met s 0

-- Before the rest the journal has of each seat the asks that were met.
pub record HasMet (told : ℕ → List Exchange) (met : ℕ → ℕ) (all rest : List Entry) : Type 0 where
  pub each : (s : ℕ) → noted all s ≡ take (met s) (told s) ++ noted rest s
  pub within : (s : ℕ) → met s ≤ length (told s)

-- The next ask that is told of the seat is this one, and now it was met.
pub record Meets (told : ℕ → List Exchange) (met : ℕ → ℕ) (seat : ℕ) (x : Exchange) (met_now : ℕ → ℕ) : Type 0 where
  pub next : slice_get (told seat) (met seat) ≡ Some x
  pub counted : met_now seat ≡ met seat + 1
  pub others : (s : ℕ) → s ≢ seat → met_now s ≡ met s

-- What came next was met, where it is an ask.
abbrev pub Passes : (ℕ → List Exchange) → (ℕ → ℕ) → ℕ → Deed → (ℕ → ℕ) → Type 0
Passes told met seat (deed.Ask ask) met_now = Meets told met seat (exchange_of ask) met_now
Passes told met seat deed.Cut met_now = (s : ℕ) → met_now s ≡ met s

-- It is an ask, and the next one that is told of the seat is another, or there is none.
pub record Strays (told : ℕ → List Exchange) (met : ℕ → ℕ) (seat : ℕ) (d : Deed) (ask : Ask) : Type 0 where
  pub asks : d ≡ deed.Ask ask
  pub other : slice_get (told seat) (met seat) ≢ Some (exchange_of ask)

-- The next entry was passed, by how many asks of each seat are met now.
abbrev pub PassesOne : List (List Exchange) → List ℕ → Entry → List ℕ → Type 0
PassesOne table met e met_now = Passes (told_at table) (met_at met) e.seat e.deed (met_at met_now)

-- The next entry is this ask, which strays, and nothing was met.
abbrev pub StraysAt : List (List Exchange) → List ℕ → Entry → List ℕ → Ask → Type 0
StraysAt table met e met_now ask = (met_now ≡ met) × Strays (told_at table) (met_at met) e.seat e.deed ask

-- what is told of a seat behind what was met, beside this of the journal
pub record IsDifference (told : ℕ → List Exchange) (met : ℕ → ℕ) (seat : ℕ) (x : Option Exchange) (d : Difference) : Type 0 where
  pub seat_is : d.seat ≡ seat
  pub place_is : d.place ≡ met seat
  pub told_is : d.told ≡ text_in (slice_get (told seat) (met seat))
  pub noted_is : d.noted ≡ text_in x
  pub told_fits : FitsMemory d.told
  pub noted_fits : FitsMemory d.noted
