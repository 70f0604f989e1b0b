-- The queues of a worker, and in which order a turn asks them (Sidekiq's wiki, "Advanced Options", section "Queues").
use Rattle.std.specs.Prelude.{◌≡◌, ◌≤◌, ◌<◌, ◌⊎◌, ◌+◌, ◌-◌, ◌%◌, ◌==◌, ℕ, Bool, true, false, not, List, [], ◌∷◌, length, filter, map, take, replicate, get_or, swap, Option, Some, None, is_some, if◌then◌else◌, bytes_eq}
use Rattle.std.specs.List.{range_with_len, flat_map, list_any}
use Rattle.std.specs.Option.{option_map_or}
use Rattle.sk_base.specs.Name.{IsName}
use Rattle.sk_base.specs.declared.limits.TheConstants.{LONGEST_NAME, MOST_QUEUES, MOST_WEIGHT}
use Rattle.sk_resp.specs.Spelling.{Bytes}
use Rattle.sk_policy.specs.declared.order_fault.OrderFault.{OrderFault}
use Rattle.sk_policy.specs.declared.order_fault.OrderFault.TheVariants as fault

pub record Order : Type 0 where
  pub names : List Bytes
  -- None: the order is strict
  pub weights : Option (List ℕ)

abbrev pub strict_order : List Bytes → Order
strict_order names = record { names = names; weights = None }

-- queues with their weights
abbrev pub weighted_order : List (Bytes × ℕ) → Order
weighted_order queues = record { names = map (λ queue. queue.0) queues; weights = Some (map (λ queue. queue.1) queues) }

-- A queue's place is its index among the names.
abbrev pub name_at : Order → ℕ → Bytes
name_at order place = get_or order.names place []

-- a queue of a strict order weighs 1
abbrev pub weight_at : Order → ℕ → ℕ
weight_at order place = option_map_or (λ weights. get_or weights place 0) order.weights 1

-- The name at this place stands at an earlier one too.
abbrev pub stands_before : Order → ℕ → Bool
stands_before order place = list_any (bytes_eq (name_at order place)) (take place order.names)

-- ## Which lists are orders

-- Nothing is wrong at this place.
pub record IsQueue (order : Order) (place : ℕ) : Type 0 where
  pub room : place < MOST_QUEUES
  pub name : IsName LONGEST_NAME (name_at order place)
  pub new : stands_before order place ≡ false
  pub some : 1 ≤ weight_at order place
  pub most : weight_at order place ≤ MOST_WEIGHT

-- There is such a place, and nothing is wrong before it.
pub record IsFirst (order : Order) (place : ℕ) : Type 0 where
  pub there : place < length order.names
  pub before : (k : ℕ) → k < place → IsQueue order k

pub record IsOrder (order : Order) : Type 0 where
  pub some : 0 < length order.names
  pub queues : (k : ℕ) → k < length order.names → IsQueue order k

-- the first wrong place, and what is wrong there
abbrev pub IsFault : Order → OrderFault → Type 0
IsFault order fault.Empty = order.names ≡ []
IsFault order (fault.Name i) = IsFirst order i × (i < MOST_QUEUES → IsName LONGEST_NAME (name_at order i) → ⊥)
IsFault order (fault.Repeated i) = IsFirst order i × (i < MOST_QUEUES) × IsName LONGEST_NAME (name_at order i) × (stands_before order i ≡ true)
IsFault order (fault.Weight i) = IsFirst order i × (i < MOST_QUEUES) × IsName LONGEST_NAME (name_at order i) × (stands_before order i ≡ false)
    × ((weight_at order i ≡ 0) ⊎ (MOST_WEIGHT < weight_at order i))
IsFault order fault.Memory = Unit {0}

-- ## Turns

-- each place as often as its weight says, in list order
abbrev pub lot : Order → List ℕ
lot order = flat_map (λ place. replicate (weight_at order place) place) (range_with_len 0 (length order.names))

-- A Fisher-Yates shuffle from this index down: each word chooses the element, up to the index, that changes places with the one there.
abbrev pub shuffled : ℕ → List ℕ → List ℕ → List ℕ
shuffled i [] xs = xs
shuffled i (word ∷ words) xs = shuffled (i - 1) words (swap xs i (word % (i + 1)))

-- each element where it stands first
abbrev pub firsts : List ℕ → List ℕ
firsts [] = []
firsts (x ∷ xs) = x ∷ filter (λ y. not (y == x)) (firsts xs)

-- how many words a turn draws: one for each index but the first
abbrev pub draws : Order → ℕ
draws order = if is_some order.weights then length (lot order) - 1 else 0

-- the places in the order of a turn that drew these words
abbrev pub places : Order → List ℕ → List ℕ
places order words =
    if is_some order.weights then firsts (shuffled (length (lot order) - 1) words (lot order)) else range_with_len 0 (length order.names)

-- the queues in that order
abbrev pub queues_in : Order → List ℕ → List Bytes
queues_in order words = map (name_at order) (places order words)
