-- A difference as a line, and the two texts in hex on a line each.
use Rattle.std.specs.Prelude.{◌++◌, ◌∷◌, codes}
use Rattle.std.specs.Fmt.{decimal}
use Rattle.hex.specs.Hex.{encode_lower}
use Rattle.sk_resp.specs.Spelling.{Bytes, lf}
use Rattle.sk_compare.specs.declared.difference.Difference.{Difference}

abbrev pub difference_text : Difference → Bytes
difference_text d = codes "differs seat " ++ (decimal d.seat ++ (codes " place " ++ (decimal d.place ++ (lf ∷ (encode_lower d.told ++ (lf ∷ encode_lower d.noted))))))
