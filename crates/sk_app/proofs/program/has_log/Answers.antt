use Rattle.std.proofs.Common.{rules, ◌≡◌, ◌∙◌, Bool, List, [], ◌∷◌, ap, map, refl, string_bytes}
use Rattle.std.proofs.lemmas.Iterator.{YieldsList-from_slice}
use Rattle.std.proofs.lemmas.Iterator.Search.{any_from_yields_List}
use Rattle.std.specs.List.{list_any}
use Rattle.std.specs.Prelude.{◌||◌}
use Rattle.sk_app.specs.Programs.{is_log}
use Rattle.sk_app.proofs.program.has_log.Goals as goal

-- a test of what is made of each element
any_map : {X Y : Type 0} (test : Y → Bool) (make : X → Y) (xs : List X) → list_any (λ x. test (make x)) xs ≡ list_any test (map make xs)
any_map test make [] = refl
any_map test make (x ∷ xs) = ap (λ b. test (make x) || b) (any_map test make xs)

pub returns : goal.returns
returns c =
    any_from_yields_List (λ word. is_log (string_bytes word)) _ _ c.any.result c.any.ensures.ran
    (YieldsList-from_slice c.args.words.now c.iter.ensures.rest) (λ word b q is. search rules)
    ∙ any_map is_log string_bytes c.args.words.now
