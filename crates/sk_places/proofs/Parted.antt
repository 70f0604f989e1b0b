-- A list of rows in three parts: those before a place, the place's own, and those behind it.
use Rattle.std.proofs.Common.{◌≡◌, ◌+◌, ◌<◌, ℕ, zero, suc, Bool, true, not, List, [], ◌∷◌, ◌++◌, length, filter, slice_get, refl, arith, ap, ap₂, ◌∙◌}
use Rattle.std.specs.List.{insert, remove, position_or_len}
use Rattle.std.specs.Ordering.{is_eq, is_le, is_lt, ordering_reverse, ordering_then}
use Rattle.std.specs.declared.cmp.Ordering.{Ordering}
use Rattle.std.specs.declared.cmp.Ordering.TheVariants.{Less, Equal, Greater}
use Rattle.sk_cmd.specs.declared.argument.Side.{Side}
use Rattle.sk_cmd.specs.declared.argument.Side.TheVariants.{Left, Right}
use Rattle.sk_undo.specs.Partitioned.{all_pass}
use Rattle.sk_places.specs.declared.row.Place.{Place}
use Rattle.sk_places.specs.declared.row.Place.TheVariants.{Queue, Private, Set}
use Rattle.sk_places.specs.declared.row.Row.{Row}
use Rattle.sk_places.specs.Entries.{Item}
use Rattle.sk_places.specs.RowLists.{is_list, listed, start_of}
use Rattle.sk_places.specs.Rows.{insert_after, is_at, place_cmp, put_row, rows_at, stands_before, within_cmp}
use Rattle.sk_places.specs.PlaceOrder.{place_total}
use Rattle.sk_places.proofs.Order.{itself}

-- ## Lists

module _ {X : Type 0} (t : X → Bool) where
  pub all_append : (xs ys : List X) → all_pass t xs ≡ true → all_pass t ys ≡ true → all_pass t (xs ++ ys) ≡ true
  all_append [] ys h k = k
  all_append (x ∷ xs) ys h k = grind (arith, h, all_append xs ys)

  pub all_less : (p : X → Bool) → ((x : X) → p x ≡ true → t x ≡ true) → (xs : List X) → all_pass p xs ≡ true → all_pass t xs ≡ true
  all_less p less [] h = refl
  all_less p less (x ∷ xs) h = grind (arith, h, less x, all_less p less xs)

  pub filter_past : (xs ys : List X) → all_pass (λ x. not (t x)) xs ≡ true → filter t (xs ++ ys) ≡ filter t ys
  filter_past [] ys h = refl
  filter_past (x ∷ xs) ys h = grind (arith, h, filter_past xs ys)

  pub filter_none : (xs : List X) → all_pass (λ x. not (t x)) xs ≡ true → filter t xs ≡ []
  filter_none [] h = refl
  filter_none (x ∷ xs) h = grind (arith, h, filter_none xs)

  pub filter_whole : (xs : List X) → all_pass t xs ≡ true → filter t xs ≡ xs
  filter_whole [] h = refl
  filter_whole (x ∷ xs) h = grind (arith, h, filter_whole xs)

  pub filter_all : (xs ys : List X) → all_pass t xs ≡ true → filter t (xs ++ ys) ≡ xs ++ filter t ys
  filter_all [] ys h = refl
  filter_all (x ∷ xs) ys h = grind (arith, h, filter_all xs ys)

  pub position_past : (xs ys : List X) → all_pass (λ x. not (t x)) xs ≡ true → position_or_len t (xs ++ ys) ≡ length xs + position_or_len t ys
  position_past [] ys h = omega arith
  position_past (x ∷ xs) ys h = grind (arith, h, position_past xs ys)

  pub position_here : (xs : List X) → all_pass t xs ≡ true → position_or_len t xs ≡ 0
  position_here [] h = refl
  position_here (x ∷ xs) h = grind (arith, h)

module _ {X : Type 0} where
  pub remove_past : (xs ys : List X) (i : ℕ) → remove (xs ++ ys) (length xs + i) ≡ xs ++ remove ys i
  remove_past [] ys i = let e : 0 + i ≡ i = omega arith in ap (remove ys) e
  remove_past (x ∷ xs) ys i = let e : suc (length xs) + i ≡ suc (length xs + i) = omega arith in ap (remove (x ∷ xs ++ ys)) e ∙ ap (λ l. x ∷ l) (remove_past xs ys i)

  pub remove_within : (xs ys : List X) (i : ℕ) → i < length xs → remove (xs ++ ys) i ≡ remove xs i ++ ys
  remove_within [] ys i h = absurd (omega (arith, h))
  remove_within (x ∷ xs) ys zero h = refl
  remove_within (x ∷ xs) ys (suc i) h = ap (λ l. x ∷ l) (remove_within xs ys i (omega (arith, h)))

  pub get_past : (xs ys : List X) (i : ℕ) → slice_get (xs ++ ys) (length xs + i) ≡ slice_get ys i
  get_past [] ys i = let e : 0 + i ≡ i = omega arith in ap (slice_get ys) e
  get_past (x ∷ xs) ys i = let e : suc (length xs) + i ≡ suc (length xs + i) = omega arith in ap (slice_get (x ∷ xs ++ ys)) e ∙ get_past xs ys i

  pub get_within : (xs ys : List X) (i : ℕ) → i < length xs → slice_get (xs ++ ys) i ≡ slice_get xs i
  get_within [] ys i h = absurd (omega (arith, h))
  get_within (x ∷ xs) ys zero h = refl
  get_within (x ∷ xs) ys (suc i) h = get_within xs ys i (omega (arith, h))

  pub insert_end : (xs : List X) (x : X) → insert xs (length xs) x ≡ xs ++ x ∷ []
  insert_end [] x = refl
  insert_end (y ∷ xs) x = ap (λ l. y ∷ l) (insert_end xs x)

-- ## Rows that are put in

module _ (t : Row → Bool) (new : Row) where
  pub after_past : (us vs : List Row) → all_pass t us ≡ true → insert_after t new (us ++ vs) ≡ us ++ insert_after t new vs
  after_past [] vs h = refl
  after_past (r ∷ us) vs h = grind (arith, h, after_past us vs)

  pub after_none : (us : List Row) → all_pass (λ r. not (t r)) us ≡ true → insert_after t new us ≡ new ∷ us
  after_none [] h = refl
  after_none (r ∷ us) h = grind (arith, h)

  pub after_within : (us vs : List Row) → all_pass (λ r. not (t r)) vs ≡ true → insert_after t new (us ++ vs) ≡ insert_after t new us ++ vs
  after_within [] vs h = after_none vs h
  after_within (r ∷ us) vs h = grind (arith, after_within us vs h)

-- ## The order of places

pub turned : (p q : Place) (o : Ordering) → place_cmp q p ≡ o → place_cmp p q ≡ ordering_reverse o
turned p q o e = place_total.antisymm p q ∙ ap ordering_reverse e

pub less_is : (o : Ordering) → is_lt o ≡ true → o ≡ Less
less_is Less h = refl
less_is Equal h = cc h
less_is Greater h = cc h

before_turned : (p q : Place) → is_lt (place_cmp q p) ≡ true → place_cmp p q ≡ Greater
before_turned p q h = turned p q Less (less_is (place_cmp q p) h)

pub not_here_before : (p : Place) (row : Row) → is_lt (place_cmp row.place p) ≡ true → not (is_at p row) ≡ true
not_here_before p row h = ap (λ o. not (is_eq o)) (before_turned p row.place h)

pub not_here_behind : (p : Place) (row : Row) → is_lt (place_cmp p row.place) ≡ true → not (is_at p row) ≡ true
not_here_behind p row h = ap (λ o. not (is_eq o)) (less_is (place_cmp p row.place) h)

not_reached : (p : Place) (row : Row) → is_lt (place_cmp row.place p) ≡ true → not (is_le (place_cmp p row.place)) ≡ true
not_reached p row h = ap (λ o. not (is_le o)) (before_turned p row.place h)

reached_behind : (p : Place) (row : Row) → is_lt (place_cmp p row.place) ≡ true → is_le (place_cmp p row.place) ≡ true
reached_behind p row h = ap is_le (less_is (place_cmp p row.place) h)

reached_here : (p : Place) (row : Row) → is_at p row ≡ true → is_le (place_cmp p row.place) ≡ true
reached_here p row h = grind (arith, h)

-- a row of an earlier place stands before a new one, and one of a later place doesn't
pub stands_earlier : (end : Side) (new row : Row) → is_lt (place_cmp row.place new.place) ≡ true → stands_before end new row ≡ true
stands_earlier Left new row h = ap (λ o. is_lt (ordering_then o (within_cmp new.place row new))) (less_is (place_cmp row.place new.place) h)
stands_earlier Right new row h = ap (λ o. is_le (ordering_then o (within_cmp new.place row new))) (less_is (place_cmp row.place new.place) h)

pub stands_later : (end : Side) (new row : Row) → is_lt (place_cmp new.place row.place) ≡ true → not (stands_before end new row) ≡ true
stands_later Left new row h = ap (λ o. not (is_lt (ordering_then o (within_cmp new.place row new)))) (before_turned row.place new.place h)
stands_later Right new row h = ap (λ o. not (is_le (ordering_then o (within_cmp new.place row new)))) (before_turned row.place new.place h)

no_order : (p : Place) (row new : Row) → is_list p ≡ true → within_cmp p row new ≡ Equal
no_order (Queue queue) row new h = refl
no_order (Private ident) row new h = refl
no_order (Set set) row new h = cc h

same_turned : (p q : Place) → is_eq (place_cmp p q) ≡ true → place_cmp q p ≡ Equal
same_turned p q h = turned q p Equal (equal_is (place_cmp p q) h)
  where
    equal_is : (o : Ordering) → is_eq o ≡ true → o ≡ Equal
    equal_is Less h = cc h
    equal_is Equal h = refl
    equal_is Greater h = cc h

here_left : (new row : Row) → is_list new.place ≡ true → is_at new.place row ≡ true → not (stands_before Left new row) ≡ true
here_left new row l h = ap₂ (λ o w. not (is_lt (ordering_then o w))) (same_turned new.place row.place h) (no_order new.place row new l)

here_right : (new row : Row) → is_list new.place ≡ true → is_at new.place row ≡ true → stands_before Right new row ≡ true
here_right new row l h = ap₂ (λ o w. is_le (ordering_then o w)) (same_turned new.place row.place h) (no_order new.place row new l)

-- ## Three parts

pub record IsParted (place : Place) (front own back rows : List Row) : Type 0 where
  pub whole : rows ≡ front ++ (own ++ back)
  pub before : all_pass (λ row. is_lt (place_cmp row.place place)) front ≡ true
  pub here : all_pass (is_at place) own ≡ true
  pub behind : all_pass (λ row. is_lt (place_cmp place row.place)) back ≡ true

module _ (place : Place) (front own back rows : List Row) (p : IsParted place front own back rows) where
  pub parted_rows : rows_at place rows ≡ own
  parted_rows =
      ap (rows_at place) p.whole
      ∙ filter_past (is_at place) front (own ++ back) (all_less (λ row. not (is_at place row)) (λ row. is_lt (place_cmp row.place place)) (not_here_before place) front p.before)
      ∙ filter_all (is_at place) own back p.here
      ∙ ap (λ l. own ++ l) (filter_none (is_at place) back (all_less (λ row. not (is_at place row)) (λ row. is_lt (place_cmp place row.place)) (not_here_behind place) back p.behind))
      ∙ nothing_more own
    where
      nothing_more : (xs : List Row) → xs ++ [] ≡ xs
      nothing_more [] = refl
      nothing_more (x ∷ xs) = ap (λ l. x ∷ l) (nothing_more xs)

  -- the rows of other places
  pub parted_others : filter (λ row. not (is_at place row)) rows ≡ front ++ back
  parted_others =
      let t : Row → Bool = λ row. not (is_at place row) in
      ap (filter t) p.whole
      ∙ filter_all t front (own ++ back) (all_less t (λ row. is_lt (place_cmp row.place place)) (not_here_before place) front p.before)
      ∙ ap (λ l. front ++ l) (filter_past t own back (all_less (λ row. not (t row)) (is_at place) (λ row h. ap (λ b. not (not b)) h) own p.here) ∙ filter_whole t back (all_less t (λ row. is_lt (place_cmp place row.place)) (not_here_behind place) back p.behind))

  pub parted_start : start_of place rows ≡ length front
  parted_start =
      let t : Row → Bool = λ row. is_le (place_cmp place row.place) in
      let rest : all_pass t (own ++ back) ≡ true = all_append t own back (all_less t (is_at place) (reached_here place) own p.here) (all_less t (λ row. is_lt (place_cmp place row.place)) (reached_behind place) back p.behind) in
      let past = position_past t front (own ++ back) (all_less (λ row. not (t row)) (λ row. is_lt (place_cmp row.place place)) (not_reached place) front p.before) in
      let none = position_here t (own ++ back) rest in
      ap (start_of place) p.whole ∙ omega (arith, past, none)

  pub parted_get : (i : ℕ) → i < length own → slice_get rows (start_of place rows + i) ≡ slice_get own i
  parted_get i h = ap₂ (λ l n. slice_get l (n + i)) p.whole parted_start ∙ get_past front (own ++ back) i ∙ get_within own back i h

  pub parted_remove : (i : ℕ) → i < length own → remove rows (start_of place rows + i) ≡ front ++ (remove own i ++ back)
  parted_remove i h = ap₂ (λ l n. remove l (n + i)) p.whole parted_start ∙ remove_past front (own ++ back) i ∙ ap (λ l. front ++ l) (remove_within own back i h)

  module _ (new : Row) (there : new.place ≡ place) (list : is_list place ≡ true) where
    earlier : (end : Side) → all_pass (stands_before end new) front ≡ true
    earlier end = all_less (stands_before end new) (λ row. is_lt (place_cmp row.place place)) (λ row h. stands_earlier end new row (ap (λ q. is_lt (place_cmp row.place q)) there ∙ h)) front p.before

    later : (end : Side) → all_pass (λ row. not (stands_before end new row)) back ≡ true
    later end = all_less (λ row. not (stands_before end new row)) (λ row. is_lt (place_cmp place row.place)) (λ row h. stands_later end new row (ap (λ q. is_lt (place_cmp q row.place)) there ∙ h)) back p.behind

    pub parted_left : put_row Left new rows ≡ front ++ (new ∷ own ++ back)
    parted_left =
        let own_later : all_pass (λ row. not (stands_before Left new row)) own ≡ true = all_less (λ row. not (stands_before Left new row)) (is_at place) (λ row h. here_left new row (ap is_list there ∙ list) (ap (λ q. is_at q row) there ∙ h)) own p.here in
        ap (put_row Left new) p.whole
        ∙ after_past (stands_before Left new) new front (own ++ back) (earlier Left)
        ∙ ap (λ l. front ++ l) (after_none (stands_before Left new) new (own ++ back) (all_append (λ row. not (stands_before Left new row)) own back own_later (later Left)))

    pub parted_right : put_row Right new rows ≡ front ++ (own ++ new ∷ back)
    parted_right =
        let own_before : all_pass (stands_before Right new) own ≡ true = all_less (stands_before Right new) (is_at place) (λ row h. here_right new row (ap is_list there ∙ list) (ap (λ q. is_at q row) there ∙ h)) own p.here in
        ap (put_row Right new) p.whole
        ∙ after_past (stands_before Right new) new front (own ++ back) (earlier Right)
        ∙ ap (λ l. front ++ l) (after_past (stands_before Right new) new own back own_before ∙ ap (λ l. own ++ l) (after_none (stands_before Right new) new back (later Right)))

-- an item of a place's deque is at that place
pub at_itself : (place : Place) (item : Item) → is_at place (listed place item) ≡ true
at_itself place item = itself place_cmp place_total place
