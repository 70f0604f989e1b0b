-- Entries by text: in the order of the texts' bytes, each text once.
use Rattle.std.specs.Prelude.{List, [], ◌∷◌, Option}
use Rattle.std.specs.BTreeMap.{insert_entry, is_at}
use Rattle.std.specs.Map.{lookup, remove_entry}
use Rattle.sk_resp.specs.Spelling.{Bytes}
use Rattle.sk_resp.specs.WordOrder.{text_cmp}

module _ {V : Type 0} where
  -- the value under the text
  abbrev pub at : Bytes → List (Bytes × V) → Option V
  at text entries = lookup (is_at (text_cmp text)) entries

  -- with this value under the text
  abbrev pub with_text : Bytes → V → List (Bytes × V) → List (Bytes × V)
  with_text text value entries = insert_entry text_cmp entries text value

  abbrev pub without_text : Bytes → List (Bytes × V) → List (Bytes × V)
  without_text text entries = remove_entry (is_at (text_cmp text)) entries

  -- each entry put in, the last one first, so that of two with one text the first counts
  abbrev pub in_order : List (Bytes × V) → List (Bytes × V)
  in_order [] = []
  in_order (entry ∷ entries) = with_text entry.0 entry.1 (in_order entries)
