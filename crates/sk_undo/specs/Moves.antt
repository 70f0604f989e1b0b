-- An entry that is moved within its list.
use Rattle.std.specs.Prelude.{ℕ, zero, suc, List, [], ◌∷◌, Option, Some, None, slice_get}
use Rattle.std.specs.List.{insert, remove}

module _ {K T : Type 0} where
  -- the entry at a place has another tag
  abbrev pub with_tag : ℕ → K → List (K × T) → List (K × T)
  with_tag at tag [] = []
  with_tag zero tag (e ∷ xs) = (tag, e.1) ∷ xs
  with_tag (suc at) tag (e ∷ xs) = e ∷ with_tag at tag xs

  abbrev pub put_down : Option (K × T) → ℕ → K → List (K × T) → List (K × T)
  put_down None to tag xs = xs
  put_down (Some e) to tag xs = insert xs to (tag, e.1)

  -- the item at `from` stands at `to`, with another tag
  abbrev pub moved : ℕ → ℕ → K → List (K × T) → List (K × T)
  moved from to tag xs = put_down (slice_get xs from) to tag (remove xs from)
