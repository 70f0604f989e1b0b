-- The order of words: by their bytes.
use Rattle.std.specs.Prelude.{List, Bool}
use Rattle.std.specs.Ordering.{nat_cmp}
use Rattle.std.specs.BTreeMap.{is_at}
use Rattle.std.specs.Cmp.Lexicographic.{slice_cmp}
use Rattle.std.specs.List.{list_any}
use Rattle.std.specs.declared.cmp.Ordering.{Ordering}
use Rattle.sk_resp.specs.Spelling.{Bytes}

abbrev pub text_cmp : Bytes → Bytes → Ordering
text_cmp = slice_cmp nat_cmp

-- the text is one of these
abbrev pub is_member : Bytes → List Bytes → Bool
is_member text members = list_any (is_at (text_cmp text)) members
