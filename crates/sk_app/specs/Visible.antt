-- How the text of a server is shown.
use Rattle.std.specs.Prelude.{◌++◌, [], ◌∷◌, ℕ, List, Bool, true, false, codes}
use Rattle.hex.specs.Hex.{encode_lower}
use Rattle.sk_base.specs.Name.{is_visible}

abbrev pub shown_as : ℕ → Bool → List ℕ
shown_as b true = b ∷ []
shown_as b false = codes "\\x" ++ encode_lower (b ∷ [])

-- a control character of ASCII as `\x` and its two digits, any other byte as it is
abbrev pub shown : ℕ → List ℕ
shown b = shown_as b (is_visible b)
