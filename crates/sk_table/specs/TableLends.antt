-- What a table is once a value that it lent comes back.
use Rattle.std.specs.Prelude.{List, Option}
use Rattle.std.specs.Borrow.{LendsIf, RattleType, MutBor, Fml}
use Rattle.std.specs.BTreeMap.{is_at}
use Rattle.std.specs.Map.{set_value}
use Rattle.sk_resp.specs.Spelling.{Bytes}
use Rattle.sk_resp.specs.WordOrder.{text_cmp}
use Rattle.sk_table.specs.contracts.text_table.TextTable.{the_row}
use Rattle.sk_table.specs.declared.text_key.TextKey.{Ghosts}

module _ (K V : RattleType) (key : Ghosts K.Denot) where
  -- what stands under the text is what was written; where nothing stands there the table is as it was
  abbrev pub lends_at : MutBor (List (Bytes × V.Denot)) → Bytes → Option (MutBor V.Denot) → Fml
  lends_at table text value = LendsIf (the_row K V key) V table value (set_value (is_at (text_cmp text)) table.now) table.now
