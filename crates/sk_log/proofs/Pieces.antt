-- A piece of a file that was read ahead, and a piece of that.
use Rattle.std.proofs.Common.{◌≡◌, ◌≤◌, ◌+◌, ◌-◌, ℕ, List, length, take, drop, sym, ◌∙◌, ap, true, arith, length-drop}
use Rattle.std.proofs.lemmas.List.{drop-drop, drop-take, length-take, take-take}
use Rattle.sk_log.specs.Reading.{Fills}

inner : (s len kept : ℕ) (xs : List ℕ) → s + len ≤ kept → take len (drop s (take kept xs)) ≡ take len (drop s xs)
inner s len kept xs le =
    let sum : s + (kept - s) ≡ kept = omega (arith, le) in
    ap (λ (n : ℕ). take len (drop s (take n xs))) (sym sum) ∙ ap (λ (l : List ℕ). take len l) (drop-take s (kept - s) xs) ∙ take-take len (kept - s) (drop s xs) (omega (arith, le))

module _ (items : List ℕ) (skip kept len : ℕ) (le : skip + len ≤ kept) (fits : kept ≤ length items) (piece : List ℕ) (is : piece ≡ take len (drop skip items)) where
  pub piece_long : length piece ≡ len
  piece_long = omega (arith, ap length is, length-take len (drop skip items), length-drop skip items, le, fits)

  pub piece_stands : (c : List ℕ) (from at : ℕ) → at ≡ from + skip → take kept items ≡ take (length (take kept items)) (drop from c) → Fills (drop at c) piece true
  piece_stands c from at at_is stands =
      let whole : length (take kept items) ≡ kept = omega (arith, length-take kept items, fits) in
      let there : take kept items ≡ take kept (drop from c) = stands ∙ ap (λ (n : ℕ). take n (drop from c)) whole in
      let reaches : kept ≤ length (drop from c) = omega (arith, whole, ap length there, length-take kept (drop from c)) in
      let same : take len (drop skip items) ≡ take len (drop at c) =
      sym (inner skip len kept items le) ∙ ap (λ (l : List ℕ). take len (drop skip l)) there ∙ inner skip len kept (drop from c) le ∙ ap (λ (l : List ℕ). take len l) (drop-drop skip from c)
      ∙ ap (λ (n : ℕ). take len (drop n c)) (sym at_is) in (
        omega (arith, piece_long, reaches, length-drop from c, length-drop at c, at_is, le),
        is ∙ same ∙ ap (λ (n : ℕ). take n (drop at c)) (sym piece_long),
      )
