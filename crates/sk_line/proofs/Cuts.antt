-- The parts of a text, as the code has them.
use Rattle.std.proofs.Common.{◌≡◌, ◌∙◌, ◌<◌, ◌-◌, ◌++◌, List, [], ◌∷◌, length, take, get_or, map, ap, arith, refl, sym}
use Rattle.std.specs.List.{join_by}
use Rattle.std.proofs.lemmas.List.{get_or-map, length-map, take-map}
use Rattle.std.proofs.lemmas.List.Folds.{flat_map-map}
use Rattle.clap.specs.Words.{Text}
use Rattle.sk_line.specs.Work.{front_parts, joined, last_part}

pub joined_map : {A : Type 0} (f : A → Text) (between : Text) (xs : List A) → join_by f between xs ≡ joined between (map f xs)
joined_map f between [] = refl
joined_map f between (x ∷ xs) = ap (λ t. f x ++ t) (sym (flat_map-map (λ y. between ++ y) f xs))

pub front_map : {A : Type 0} (f : A → Text) (xs : List A) → front_parts (map f xs) ≡ map f (take (length xs - 1) xs)
front_map f xs = ap (λ n. take (n - 1) (map f xs)) (length-map xs f) ∙ take-map f (length xs - 1) xs

pub last_map : {A : Type 0} (f : A → Text) (xs : List A) (d : A) → 0 < length xs → last_part (map f xs) ≡ f (get_or xs (length xs - 1) d)
last_map f xs d some = ap (λ n. get_or (map f xs) (n - 1) []) (length-map xs f) ∙ get_or-map f xs (length xs - 1) d [] (omega arith)
