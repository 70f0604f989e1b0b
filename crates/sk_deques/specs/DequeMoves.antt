-- Edits of one deque among others, and an item that goes from deque to deque.
use Rattle.std.specs.Prelude.{◌<◌, ◌≤◌, ℕ, zero, suc, List, [], ◌∷◌, ◌++◌, Option, Some, None, length, map, option_map, slice_get, slice_index_or}
use Rattle.std.specs.List.{insert, remove}
use Rattle.sk_undo.specs.Versions.{Versions}
use Rattle.sk_deques.specs.Deque.{Deque, cut_at, put_at}

-- the value at a place, changed
abbrev pub changed_at : {X : Type 0} → ℕ → (X → X) → List X → List X
changed_at n f [] = []
changed_at zero f (x ∷ xs) = f x ∷ xs
changed_at (suc n) f (x ∷ xs) = x ∷ changed_at n f xs

-- ## Lists

module _ {T : Type 0} where
  -- a list by its number; none where there is no such list
  abbrev pub list_at : ℕ → List (List T) → List T
  list_at n ls = slice_index_or ls n []

  -- with an item put in
  abbrev pub with_item : ℕ → ℕ → T → List (List T) → List (List T)
  with_item n i x ls = changed_at n (λ l. insert l i x) ls

  -- without the item at a place
  abbrev pub without_item : ℕ → ℕ → List (List T) → List (List T)
  without_item n i ls = changed_at n (λ l. remove l i) ls

  -- without any of its items
  abbrev pub emptied : ℕ → List (List T) → List (List T)
  emptied n ls = changed_at n (λ l. []) ls

  -- There is such an item, and memory for it where it goes.
  pub record IsMove (from i to j : ℕ) (ls : List (List T)) (spaces : List ℕ) : Type 0 where
    pub out : from < length ls
    pub onto : to < length ls
    pub item : i < length (list_at from ls)
    pub place : j ≤ length (list_at to (without_item from i ls))
    pub room : length (list_at to (without_item from i ls)) < slice_index_or spaces to 0

  -- one more list, without items, in what stands and in what stood
  abbrev pub with_list : Versions (List (List T)) → Versions (List (List T))
  with_list s = record { current = s.current ++ [] ∷ []; saved = option_map (λ ls. ls ++ [] ∷ []) s.saved }

-- ## Deques

module _ {K T : Type 0} where
  abbrev pub with_moved : Option (K × T) → ℕ → ℕ → K → List (List (K × T)) → List (List (K × T))
  with_moved None to j tag ls = ls
  with_moved (Some e) to j tag ls = with_item to j (tag, e.1) ls

  -- the item at the place `i` of the list `from` goes to the place `j` of the list `to`, with another tag
  abbrev pub moved : ℕ → ℕ → ℕ → ℕ → K → List (List (K × T)) → List (List (K × T))
  moved from i to j tag ls = with_moved (slice_get (list_at from ls) i) to j tag (without_item from i ls)

module _ {T : Type 0} where
  abbrev pub lists_of : List (Deque T) → List (List T)
  lists_of xs = map (λ l. l.items) xs

  abbrev pub spaces_of : List (Deque T) → List ℕ
  spaces_of xs = map (λ l. l.space) xs

  abbrev pub items_at : ℕ → List (Deque T) → List T
  items_at n xs = list_at n (lists_of xs)

  abbrev pub space_at : ℕ → List (Deque T) → ℕ
  space_at n xs = slice_index_or (spaces_of xs) n 0

  pub record IsCarry (from i to j : ℕ) (xs : List (Deque T)) : Type 0 where
    pub out : from < length xs
    pub onto : to < length xs
    pub item : i < length (items_at from xs)
    pub place : j ≤ length (items_at to (changed_at from (cut_at i) xs))
    pub room : length (items_at to (changed_at from (cut_at i) xs)) < space_at to xs

module _ {K T : Type 0} where
  abbrev pub put_down : Option (K × T) → ℕ → ℕ → K → List (Deque (K × T)) → List (Deque (K × T))
  put_down None to j tag xs = xs
  put_down (Some e) to j tag xs = changed_at to (put_at j (tag, e.1)) xs

  -- the same of an item of a deque
  abbrev pub carried : ℕ → ℕ → ℕ → ℕ → K → List (Deque (K × T)) → List (Deque (K × T))
  carried from i to j tag xs = put_down (slice_get (items_at from xs) i) to j tag (changed_at from (cut_at i) xs)
