-- A piece of a file that was read ahead.
use Rattle.std.specs.Prelude.{◌≡◌, ℕ, List, length, take, drop}
use Rattle.sk_disk.specs.Images.{Images}

pub record Piece : Type 0 where
  pub from : ℕ
  pub bytes : List ℕ

-- It stands in the file at its place.
abbrev pub Stands : List ℕ → Piece → Type 0
Stands c p = p.bytes ≡ take (length p.bytes) (drop p.from c)

-- It is in whatever a read gives.
abbrev pub Shows : Images → Piece → Type 0
Shows reads p = (c : List ℕ) → reads c → Stands c p
