-- When `==` says that two are the same.
use Rattle.std.proofs.Common.{◌≡◌, ◌↔◌, List, Bool, true}
use Rattle.std.specs.Cmp.Lexicographic.{pointwise}
use Rattle.std.specs.Str.{bytes_eq}
use Rattle.std.proofs.lemmas.Slice.Eq.{bytes_eq-Decides, slice_eq-Decides}
use Rattle.sk_resp.specs.Spelling.{Bytes}

pub same_bytes : (a b : Bytes) (r : Bool) → r ≡ bytes_eq a b → r ≡ true ↔ a ≡ b
same_bytes a b r is = rw is (bytes_eq-Decides a b)

pub same_words : (a b : List Bytes) (r : Bool) → r ≡ pointwise bytes_eq a b → r ≡ true ↔ a ≡ b
same_words a b r is = slice_eq-Decides bytes_eq-Decides a b r is
