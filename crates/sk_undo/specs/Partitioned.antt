-- Tests that split a list in two.
use Rattle.std.specs.Prelude.{Bool, true, false, cond, List, [], ◌∷◌}

module _ {T : Type 0} where
  -- every item passes
  abbrev pub all_pass : (T → Bool) → List T → Bool
  all_pass t [] = true
  all_pass t (x ∷ xs) = cond (t x) (all_pass t xs) false

  -- once an item passes, all behind it do
  abbrev pub is_partitioned : (T → Bool) → List T → Bool
  is_partitioned t [] = true
  is_partitioned t (x ∷ xs) = cond (t x) (all_pass t xs) (is_partitioned t xs)
