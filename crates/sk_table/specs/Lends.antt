-- What is left behind where a value is lent: it with what was written to it.
use Rattle.std.specs.Prelude.{List, Option}
use Rattle.std.specs.Borrow.{LendsIf, RattleType, MutBor, Fml}
use Rattle.sk_resp.specs.Spelling.{Bytes}
use Rattle.sk_table.specs.Slots.{place_of, with_value}
use Rattle.sk_table.specs.contracts.bucket.Bucket as bucket
use Rattle.sk_table.specs.declared.slot.Slot.{Slot}

module _ (K V : RattleType) where
  abbrev pub lends_value : (K.Denot → Bytes) → MutBor (List (Slot K.Denot V.Denot)) → Bytes → Option (MutBor V.Denot) → Fml
  lends_value text_of slots text value = LendsIf (bucket.the_row K V) V slots value (with_value slots.now (place_of text_of text slots.now)) slots.now
