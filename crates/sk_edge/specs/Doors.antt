-- What ears and doors tell of the connections that they are going to give.
use Rattle.std.specs.Prelude.{◌≡◌, ◌⊎◌, ◌≤◌, ◌∷◌, ◌++◌, ◌+◌, ◌^◌, ℕ, List, [], Option, Some, None, length, take, drop, replicate}
use Rattle.std.specs.List.{AllZip}
use Rattle.sk_edge.specs.Collected.{Collected}

-- It gave the first of what it tells, and the rest is left.
abbrev pub GivesFirst : {T : Type 0} → Option (List T) → T → Option (List T) → Type 0
GivesFirst None item after = after ≡ None
GivesFirst {T} (Some before) item after = (rest : List T) × (before ≡ item ∷ rest) × (after ≡ Some rest)

-- It was nudged so many times more, where it tells that. It tells it as long as a 64-bit counter can.
abbrev pub IsNudged : Option ℕ → ℕ → Option ℕ → Type 0
IsNudged None times after = after ≡ None
IsNudged (Some before) times after = (after ≡ Some (before + times)) ⊎ ((after ≡ None) × (2 ^ 64 ≤ before + times))

-- the first lists, and the empty one where there are no more
abbrev pub first_lists : {T : Type 0} → ℕ → List (List T) → List (List T)
first_lists count lists = take count (lists ++ replicate count [])

-- It is empty, with room for as many as there are of these.
abbrev pub IsRoomFor : {C : Type 0} → Option (Collected C) → List C → Type 0
IsRoomFor room conns = room ≡ Some (record { items = []; room = length conns })

-- It hears these connections, has room to keep as many, and wasn't nudged yet.
abbrev pub IsEar : {E C : Type 0} → (E → Option (List C)) → (E → Option (Collected C)) → (E → Option ℕ) → E → List C → Type 0
IsEar heard kept nudged ear conns = (heard ear ≡ Some conns) × IsRoomFor (kept ear) conns × (nudged ear ≡ Some 0)

-- The first of these ears hears the first list that the door tells, the next the next, and those past the last list nothing.
abbrev pub Listens : {E C : Type 0} → (E → Option (List C)) → (E → Option (Collected C)) → (E → Option ℕ)
    → Option (List (List C)) → List E → Option (List (List C)) → Type 0
Listens heard kept nudged None ears after = after ≡ None
Listens heard kept nudged (Some lists) ears after =
    AllZip (IsEar heard kept nudged) ears (first_lists (length ears) lists)
    × (after ≡ Some (drop (length ears) lists))
