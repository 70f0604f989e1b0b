-- The log of an open step, and what it leads back to.
use Rattle.std.specs.Prelude.{◌≡◌, ◌<◌, ◌≤◌, Bool, false, List, [], ◌∷◌, length}
use Rattle.std.specs.List.{insert, remove}
use Rattle.sk_undo.specs.Balance.{most}
use Rattle.sk_undo.specs.Moves.{moved}
use Rattle.sk_undo.specs.declared.edit.Edit.{Edit}
use Rattle.sk_undo.specs.declared.edit.Edit.TheVariants.{Put, Taken, Moved}

module _ {K T : Type 0} where
  -- the list before this edit
  abbrev pub taken_back : Edit K T → List (K × T) → List (K × T)
  taken_back (Put i) xs = remove xs i
  taken_back (Taken i e spare) xs = insert xs i e
  taken_back (Moved from to tag) xs = moved to from tag xs

  -- the list before these edits, the newest of which is the last
  abbrev pub before : List (Edit K T) → List (K × T) → List (K × T)
  before [] xs = xs
  before (e ∷ es) xs = taken_back e (before es xs)

  -- the edit can be taken back
  abbrev pub Fits : Edit K T → List (K × T) → Type 0
  Fits (Put i) xs = i < length xs
  Fits (Taken i e spare) xs = (i ≤ length xs) × (length xs < most)
  Fits (Moved from to tag) xs = (from < length xs) × (to < length xs)

  -- each edit can be taken back, once the newer ones are
  abbrev pub AllFit : List (Edit K T) → List (K × T) → Type 0
  AllFit [] xs = Unit {0}
  AllFit (e ∷ es) xs = Fits e (before es xs) × AllFit es xs

  -- the log can be taken back, and is empty where no step is open
  pub record IsSound (es : List (Edit K T)) (xs : List (K × T)) (in_step : Bool) : Type 0 where
    pub fit : AllFit es xs
    pub idle : in_step ≡ false → es ≡ []
