-- Maps from texts, as which sets, hashes and the keys are kept: pairs in the order of the texts' bytes, each text once.
use Rattle.std.specs.Prelude.{List, [], ◌∷◌, Option, Some, None}
use Rattle.std.specs.BTreeMap.{is_at, insert_entry}
use Rattle.std.specs.Map.{remove_entry, set_value}
use Rattle.sk_resp.specs.Spelling.{Bytes}
use Rattle.sk_resp.specs.WordOrder.{text_cmp}

-- each text has its value; of one text given twice the last value stands
abbrev pub with_pairs : {V : Type 0} → List (Bytes × V) → List (Bytes × V) → List (Bytes × V)
with_pairs [] pairs = pairs
with_pairs (pair ∷ more) pairs = with_pairs more (insert_entry text_cmp pairs pair.0 pair.1)

abbrev pub without_texts : {V : Type 0} → List Bytes → List (Bytes × V) → List (Bytes × V)
without_texts [] pairs = pairs
without_texts (text ∷ more) pairs = without_texts more (remove_entry (is_at (text_cmp text)) pairs)

-- ## Taking back

-- the text has the value that it had, or none
abbrev pub put_back : {V : Type 0} → Bytes → Option V → List (Bytes × V) → List (Bytes × V)
put_back text None pairs = remove_entry (is_at (text_cmp text)) pairs
put_back text (Some value) pairs = set_value (is_at (text_cmp text)) pairs value

-- of several writes, each with what its text had before, the last is taken back first
abbrev pub all_put_back : {V : Type 0} → List (Bytes × Option V) → List (Bytes × V) → List (Bytes × V)
all_put_back [] pairs = pairs
all_put_back (write ∷ later) pairs = put_back write.0 write.1 (all_put_back later pairs)
