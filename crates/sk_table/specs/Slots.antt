-- The entries of a bucket, with the hashes of their texts.
use Rattle.std.specs.Prelude.{◌≡◌, ◌%◌, ◌+◌, ℕ, zero, suc, Bool, List, [], ◌∷◌, Option, cond, map, nat_eq}
use Rattle.std.specs.BTreeMap.{is_at}
use Rattle.std.specs.List.{AllByRecursion, IsDistinct, position_or_len}
use Rattle.std.specs.Map.{keys_of}
use Rattle.std.specs.Ordering.{eq_by_cmp}
use Rattle.sk_resp.specs.Spelling.{Bytes}
use Rattle.sk_resp.specs.WordOrder.{text_cmp}
use Rattle.sk_table.specs.Entries.{at}
use Rattle.sk_table.specs.Hashing.{address, hash_of}
use Rattle.sk_table.specs.declared.slot.Slot.{Slot}

module _ {K V : Type 0} (text_of : K → Bytes) where
  abbrev pub has_text : Bytes → Slot K V → Bool
  has_text text slot = is_at (text_cmp text) (text_of slot.key)

  -- the index of the text's entry, or how many entries there are
  abbrev pub place_of : Bytes → List (Slot K V) → ℕ
  place_of text slots = position_or_len (has_text text) slots

  abbrev pub entries_of : List (Slot K V) → List (Bytes × V)
  entries_of slots = map (λ slot. (text_of slot.key, slot.value)) slots

  -- what stands under the text
  abbrev pub value_in : Bytes → List (Slot K V) → Option V
  value_in text slots = at text (entries_of slots)

  -- each hash is that of its text
  abbrev pub AreHashed : List (Slot K V) → Type 0
  AreHashed slots = AllByRecursion (λ slot. slot.hash ≡ hash_of (text_of slot.key)) slots

  abbrev pub AreDistinct : List (Slot K V) → Type 0
  AreDistinct slots = IsDistinct (eq_by_cmp text_cmp) (keys_of (entries_of slots))

  -- the entries of a bucket: each at its address, and no text twice
  pub record IsBucket (half count here : ℕ) (slots : List (Slot K V)) : Type 0 where
    pub hashed : AreHashed slots
    pub placed : AllByRecursion (λ slot. address half count slot.hash ≡ here) slots
    pub distinct : AreDistinct slots

  -- with this key in the place of the one of its text
  abbrev pub with_key : K → List (Slot K V) → List (Slot K V)
  with_key key [] = []
  with_key key (slot ∷ slots) = cond (has_text (text_of key) slot) (record slot { key = key } ∷ slots) (slot ∷ with_key key slots)

module _ {K V : Type 0} where
  -- with this value in the entry at the index
  abbrev pub with_value : List (Slot K V) → ℕ → V → List (Slot K V)
  with_value [] place value = []
  with_value (slot ∷ slots) zero value = record slot { value = value } ∷ slots
  with_value (slot ∷ slots) (suc place) value = slot ∷ with_value slots place value

  -- among twice `half` addresses the hash has this one
  abbrev pub goes_to : ℕ → ℕ → Slot K V → Bool
  goes_to half address slot = nat_eq (slot.hash % (half + half)) address
