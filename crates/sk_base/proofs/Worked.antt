-- Worked rows, computed from the definitions.
use Rattle.std.proofs.Common.{◌≡◌, [], refl}
use Rattle.std.specs.Prelude.{codes}
use Rattle.sk_base.specs.Score.{fraction, millionths, without_zeros}

cut : millionths (codes "007") (codes "1234569") ≡ 7123456
cut = refl

filled : millionths (codes "0") (codes "05") ≡ 50000
filled = refl

shortest : fraction (without_zeros (codes "500000")) ≡ codes ".5"
shortest = refl

no_point : fraction (without_zeros (codes "000000")) ≡ []
no_point = refl
