-- The first row of a text at a place, and the first copy of the text there.
use Rattle.std.proofs.Common.{◌≡◌, ◌+◌, ℕ, pos, Bool, true, false, List, [], ◌∷◌, Some, None, slice_get, arith, refl, sym, ap, ap₂, ◌∙◌}
use Rattle.std.specs.List.{remove}
use Rattle.std.specs.Str.{bytes_eq}
use Rattle.std.proofs.lemmas.Slice.Eq.{bytes_eq-Decides}
use Rattle.sk_resp.specs.Spelling.{Bytes}
use Rattle.sk_cmd.specs.declared.argument.Side.TheVariants.{Left}
use Rattle.sk_places.specs.declared.row.Place.{Place}
use Rattle.sk_places.specs.declared.row.Row.{Row}
use Rattle.sk_places.specs.Entries.{Item}
use Rattle.sk_places.specs.RowLists.{listed, start_of}
use Rattle.sk_places.specs.Rows.{is_at, is_same, row_at, row_of, rows_at, without_first}
use Rattle.sk_places.specs.Segments.{StandsAt}

has_text : (text : Bytes) (rows : List Row) (row : Row) → row_of text rows ≡ Some row → bytes_eq text row.text ≡ true
has_text text [] row h = cc h
has_text text (other ∷ rows) row h = cases (bytes_eq text other.text) refl (has_text text rows row)
  where
    cases : (b : Bool) → bytes_eq text other.text ≡ b → (row_of text rows ≡ Some row → bytes_eq text row.text ≡ true) → bytes_eq text row.text ≡ true
    cases true e again = (let f : row_of text (other ∷ rows) ≡ Some other = grind (arith, e) in let o : Some other ≡ Some row = sym f ∙ h in let s : other ≡ row = cc o in sym (ap (λ (r : Row). bytes_eq text r.text) s) ∙ e)
    cases false e again = (let f : row_of text (other ∷ rows) ≡ row_of text rows = grind (arith, e) in again (sym f ∙ h))

-- what was found at a place is there
module _ (place : Place) (text : Bytes) (rows : List Row) (at : ℕ) (item : Item) (stands : StandsAt Left (row_of text (rows_at place rows)) (start_of place rows + at) rows) (there : slice_get rows (start_of place rows + at) ≡ Some (listed place item)) where
  found : row_of text (rows_at place rows) ≡ Some (listed place item)
  found = sym stands.there ∙ there

  pub copy_taken : item.0 ≡ pos 0 → without_first (is_same (row_at place text)) rows ≡ remove rows (start_of place rows + at)
  copy_taken zero =
      let t : item.1 ≡ text = sym ((bytes_eq-Decides text item.1).0 (has_text text (rows_at place rows) (listed place item) found)) in
      let e : listed place item ≡ row_at place text = ap₂ (λ score t. listed place (score, t)) zero t in
      ap (λ row. without_first (is_same row) rows) (sym e) ∙ stands.taken (listed place item) found

-- where no row has the text, none is a copy of it
pub no_copy : (place : Place) (text : Bytes) (rows : List Row) → row_of text (rows_at place rows) ≡ None → without_first (is_same (row_at place text)) rows ≡ rows
no_copy place text [] h = refl
no_copy place text (row ∷ rows) h = cases (is_at place row) (bytes_eq text row.text) refl refl (no_copy place text rows)
  where
    cases : (a b : Bool) → is_at place row ≡ a → bytes_eq text row.text ≡ b → (row_of text (rows_at place rows) ≡ None → without_first (is_same (row_at place text)) rows ≡ rows) → without_first (is_same (row_at place text)) (row ∷ rows) ≡ row ∷ rows
    cases true true e f again = absurd (grind (arith, e, f, h))
    cases true false e f again = grind (arith, e, f, h, again)
    cases false b e f again = grind (arith, e, h, again)
