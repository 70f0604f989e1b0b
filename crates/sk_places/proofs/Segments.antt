-- A place's rows stand together, and the row that is found there is the nearest of its equals.
use Rattle.std.proofs.Common.{◌≡◌, ◌≤◌, ◌<◌, ◌+◌, ◌-◌, ℕ, zero, suc, Bool, true, false, not, cond, ◌&&◌, List, [], ◌∷◌, ◌++◌, Some, None, length, take, drop, slice_get, refl, sym, arith, ap, ap₂, subst, ◌∙◌, length-take, length-drop}
use Rattle.std.specs.Ordering.{is_lt, is_le, int_cmp}
use Rattle.std.specs.List.{filter, remove, position_or_len, list_any, last_or}
use Rattle.std.specs.Str.{bytes_eq}
use Rattle.std.proofs.lemmas.Bool.Decides.{nat_tests}
use Rattle.std.proofs.lemmas.List.{drop-take}
use Rattle.std.proofs.lemmas.Cmp.{int_cmp_total}
use Rattle.std.specs.declared.cmp.Ordering.TheVariants.{Equal}
use Rattle.sk_undo.specs.Partitioned.{all_pass, is_partitioned}
use Rattle.sk_resp.specs.Spelling.{Bytes}
use Rattle.sk_cmd.specs.declared.argument.Side.{Side}
use Rattle.sk_cmd.specs.declared.argument.Side.TheVariants.{Left, Right}
use Rattle.sk_zset.proofs.Splits.{split, part}
use Rattle.sk_places.specs.declared.row.Place.{Place}
use Rattle.sk_places.specs.declared.row.Row.{Row}
use Rattle.sk_places.specs.Order.{is_ordered}
use Rattle.sk_places.specs.Rows.{place_cmp, is_at, is_same, rows_at, row_at_end, row_of, take_row, first_row}
use Rattle.sk_places.specs.Segments.{IsSegment, StandsAt, is_text}
use Rattle.sk_places.proofs.Lists.{first_gone, last_gone, first_passing, parted, get_part, last_get, none_before, position_within}
use Rattle.sk_places.specs.PlaceOrder.{same_place, place_total}
use Rattle.sk_places.proofs.Order.{itself}
use Rattle.sk_places.proofs.Rising.{partitioned_reached, partitioned_passed}

module _ {X : Type 0} where
  pub filter_same : (p q : X → Bool) → ((x : X) → p x ≡ q x) → (xs : List X) → filter p xs ≡ filter q xs
  filter_same p q same [] = refl
  filter_same p q same (x ∷ xs) = ap₂ (λ b l. cond b (x ∷ l) l) (same x) (filter_same p q same xs)

  pub any_less : (p q : X → Bool) → ((x : X) → p x ≡ true → q x ≡ true) → (xs : List X) → list_any q xs ≡ false → list_any p xs ≡ false
  any_less p q less [] h = refl
  any_less p q less (x ∷ xs) h = grind (arith, less x, h, any_less p q less xs)

  pub any_more : (p : X → Bool) (xs ys : List X) → list_any p xs ≡ false → list_any p ys ≡ false → list_any p (xs ++ ys) ≡ false
  any_more p [] ys h k = k
  any_more p (x ∷ xs) ys h k = grind (arith, h, any_more p xs ys)

  pub sooner : (p q : X → Bool) → ((x : X) → p x ≡ true → q x ≡ true) → (xs : List X) → position_or_len q xs ≤ position_or_len p xs
  sooner p q less [] = omega arith
  sooner p q less (x ∷ xs) = grind (arith, less x, sooner p q less xs)

  -- behind the place of a test that rises all pass
  none_behind : (p q : X → Bool) → ((x : X) → p x ≡ true → q x ≡ false) → (xs : List X) → all_pass p xs ≡ true → list_any q xs ≡ false
  none_behind p q other [] h = refl
  none_behind p q other (x ∷ xs) h = grind (arith, other x, h, none_behind p q other xs)

  pub none_left : (p q : X → Bool) → ((x : X) → p x ≡ true → q x ≡ false) → (xs : List X) → is_partitioned p xs ≡ true → list_any q (drop (position_or_len p xs) xs) ≡ false
  none_left p q other [] h = refl
  none_left p q other (x ∷ xs) h = cases (p x) refl (none_left p q other xs)
    where
      cases : (b : Bool) → p x ≡ b → (is_partitioned p xs ≡ true → list_any q (drop (position_or_len p xs) xs) ≡ false) → list_any q (drop (position_or_len p (x ∷ xs)) (x ∷ xs)) ≡ false
      cases true e again = let z : position_or_len p (x ∷ xs) ≡ 0 = grind (arith, e) in ap (λ n. list_any q (drop n (x ∷ xs))) z ∙ none_behind p q other (x ∷ xs) (grind (arith, e, h))
      cases false e again = let z : position_or_len p (x ∷ xs) ≡ suc (position_or_len p xs) = grind (arith, e) in ap (λ n. list_any q (drop n (x ∷ xs))) z ∙ again (grind (arith, e, h))

  pub part_range : (xs : List X) (first end : ℕ) → first ≤ end → take (end - first) (drop first xs) ≡ drop first (take end xs)
  part_range xs first end h = let e : first + (end - first) ≡ end = omega (arith, h) in sym (drop-take first (end - first) xs) ∙ ap (λ n. drop first (take n xs)) e

-- ## Places

pub segment : (place : Place) (rows : List Row) (first end : ℕ) → is_ordered rows ≡ true → first ≡ position_or_len (λ row. is_le (place_cmp place row.place)) rows → end ≡ position_or_len (λ row. is_lt (place_cmp place row.place)) rows → IsSegment place first end rows
segment place rows first end h begins ends =
    let reached : Row → Bool = λ row. is_le (place_cmp place row.place) in
    let passed : Row → Bool = λ row. is_lt (place_cmp place row.place) in
    let s = split reached passed rows (partitioned_reached place rows h) (partitioned_passed place rows h) in
    let less = sooner passed reached (λ row k. grind (arith, k)) rows in
    let order : first ≤ end = omega (arith, less, begins, ends) in
    let same = filter_same (is_at place) (λ row. reached row && not (passed row)) (λ row. grind arith) rows in
    let size = ap₂ (λ a n. part a (n - a) rows) (sym begins) (sym ends) in
    record {
      order = order;
      within = (let w = position_within passed rows in omega (arith, w, ends));
      inside = same ∙ s.inside ∙ size ∙ part_range rows first end order;
      others = filter_same (λ row. not (is_at place row)) (λ row. not (reached row && not (passed row))) (λ row. grind arith) rows ∙ s.around ∙ ap₂ (λ a b. take a rows ++ drop b rows) (sym begins) (omega (arith, less, begins, ends));
      front = ap (λ n. list_any (is_at place) (take n rows)) begins ∙ any_less (is_at place) reached (λ row k. grind (arith, k)) (take (position_or_len reached rows) rows) (none_before reached rows);
      back = ap (λ n. list_any (is_at place) (drop n rows)) ends ∙ none_left passed (is_at place) (λ row k. grind (arith, k)) rows (partitioned_passed place rows h);
    }

-- ## Rows that are found

pub same_bytes : (text : Bytes) → bytes_eq text text ≡ true
same_bytes [] = refl
same_bytes (x ∷ text) = grind (arith, nat_tests, same_bytes text)

pub same_itself : (row : Row) → is_same row row ≡ true
same_itself row = let p = itself place_cmp place_total row.place in let s = itself int_cmp int_cmp_total row.score in let t = same_bytes row.text in grind (arith, p, s, t)

pub passing : (p : Row → Bool) (xs : List Row) (i : ℕ) (x : Row) → slice_get (filter p xs) i ≡ Some x → p x ≡ true
passing p [] i x h = cc h
passing p (y ∷ xs) i x h = cases (p y) refl i h (passing p xs)
  where
    cases : (b : Bool) → p y ≡ b → (k : ℕ) → slice_get (filter p (y ∷ xs)) k ≡ Some x → ((j : ℕ) (z : Row) → slice_get (filter p xs) j ≡ Some z → p z ≡ true) → p x ≡ true
    cases false e k g again = let f : filter p (y ∷ xs) ≡ filter p xs = grind (arith, e) in again k x (sym (ap (λ l. slice_get l k) f) ∙ g)
    cases true e zero g again = let f : filter p (y ∷ xs) ≡ y ∷ filter p xs = grind (arith, e) in let o : Some y ≡ Some x = sym (ap (λ l. slice_get l 0) f) ∙ g in let s : y ≡ x = cc o in sym (ap p s) ∙ e
    cases true e (suc k) g again = let f : filter p (y ∷ xs) ≡ y ∷ filter p xs = grind (arith, e) in again k x (sym (ap (λ l. slice_get l (suc k)) f) ∙ g)

-- a row of the place is there, so that its equals are at that place
equals : (place : Place) (row : Row) → is_at place row ≡ true → (other : Row) → is_same row other ≡ true → is_at place other ≡ true
equals place row h other s =
    let e : place_cmp place row.place ≡ Equal = grind (arith, h) in
    let p = same_place place row.place e in
    let a : is_at row.place other ≡ true = grind (arith, s) in
    subst (λ q. is_at q other ≡ true) (sym p) a

taken_left : (rows : List Row) (at : ℕ) (row : Row) → slice_get rows at ≡ Some row → list_any (is_same row) (take at rows) ≡ false → take_row Left row rows ≡ remove rows at
taken_left rows at row h none = ap (take_row Left row) (parted rows at row h) ∙ first_gone (is_same row) (take at rows) row (drop (suc at) rows) none (same_itself row)

taken_right : (rows : List Row) (at : ℕ) (row : Row) → slice_get rows at ≡ Some row → list_any (is_same row) (drop (suc at) rows) ≡ false → take_row Right row rows ≡ remove rows at
taken_right rows at row h none = ap (take_row Right row) (parted rows at row h) ∙ last_gone (is_same row) (take at rows) row (drop (suc at) rows) none (same_itself row)

-- what stands at an index of the place
pub there : (place : Place) (rows : List Row) (first end i : ℕ) → IsSegment place first end rows → first + i < end → slice_get (rows_at place rows) i ≡ slice_get rows (first + i)
there place rows first end i s h = ap (λ l. slice_get l i) s.inside ∙ get_part rows first end i h

pub length_at : (place : Place) (rows : List Row) (first end : ℕ) → IsSegment place first end rows → length (rows_at place rows) ≡ end - first
length_at place rows first end s = let d = length-drop first (take end rows) in let t = length-take end rows in let e = ap length s.inside in omega (arith, d, t, e, s.within, s.order)

first_get : (rows : List Row) → first_row rows ≡ slice_get rows 0
first_get [] = refl
first_get (row ∷ rows) = refl

pub end_left : (place : Place) (rows : List Row) (first end : ℕ) → IsSegment place first end rows → first < end → StandsAt Left (row_at_end Left place rows) first rows
end_left place rows first end s h =
    let e : first + 0 ≡ first = omega arith in
    let get = there place rows first end 0 s (omega (arith, h)) ∙ ap (slice_get rows) e in
    let found = first_get (rows_at place rows) ∙ get in
    record {
      within = omega (arith, h, s.within);
      there = sym found;
      taken = λ row is. taken_left rows first row (sym found ∙ is) (any_less (is_same row) (is_at place) (equals place row (passing (is_at place) rows 0 row (get ∙ sym found ∙ is))) (take first rows) s.front);
    }

last_at : (rows : List Row) (n : ℕ) → length rows ≡ suc n → last_or None rows ≡ slice_get rows n
last_at [] n h = absurd (omega (arith, h))
last_at (row ∷ rows) n h = let e : length rows ≡ n = omega (arith, h) in last_get None row rows ∙ ap (slice_get (row ∷ rows)) e

pub end_right : (place : Place) (rows : List Row) (first end : ℕ) → IsSegment place first end rows → first < end → StandsAt Right (row_at_end Right place rows) (end - 1) rows
end_right place rows first end s h =
    let n : ℕ = end - 1 - first in
    let len : length (rows_at place rows) ≡ suc n = (let l = length_at place rows first end s in omega (arith, l, h)) in
    let e : first + n ≡ end - 1 = omega (arith, h) in
    let behind : suc (end - 1) ≡ end = omega (arith, h) in
    let get = there place rows first end n s (omega (arith, h)) ∙ ap (slice_get rows) e in
    let found = last_at (rows_at place rows) n len ∙ get in
    record {
      within = omega (arith, h, s.within);
      there = sym found;
      taken = λ row is. taken_right rows (end - 1) row (sym found ∙ is) (any_less (is_same row) (is_at place) (equals place row (passing (is_at place) rows n row (get ∙ sym found ∙ is))) (drop (suc (end - 1)) rows) (ap (λ k. list_any (is_at place) (drop k rows)) behind ∙ s.back));
    }

-- there is none
nothing : (rows : List Row) → length rows ≡ 0 → rows ≡ []
nothing [] h = refl
nothing (row ∷ rows) h = absurd (omega (arith, h))

pub end_none : (side : Side) (place : Place) (rows : List Row) (first end : ℕ) → IsSegment place first end rows → end ≤ first → row_at_end side place rows ≡ None
end_none Left place rows first end s h = let l = length_at place rows first end s in ap first_row (nothing (rows_at place rows) (omega (arith, l, h)))
end_none Right place rows first end s h = let l = length_at place rows first end s in ap (last_or None) (nothing (rows_at place rows) (omega (arith, l, h)))

-- ## Texts

pub take_more : {X : Type 0} (xs : List X) (first end k : ℕ) → first + k ≤ end → take (first + k) xs ≡ take first xs ++ take k (drop first (take end xs))
take_more [] zero zero zero h = refl
take_more [] zero zero (suc k) h = absurd (omega (arith, h))
take_more [] zero (suc end) zero h = refl
take_more [] zero (suc end) (suc k) h = let e : 0 + suc k ≡ suc (0 + k) = omega arith in ap (λ n. take n []) e
take_more [] (suc first) zero k h = absurd (omega (arith, h))
take_more [] (suc first) (suc end) zero h = let e : suc first + 0 ≡ suc (first + 0) = omega arith in ap (λ n. take n []) e
take_more [] (suc first) (suc end) (suc k) h = let e : suc first + suc k ≡ suc (first + suc k) = omega arith in ap (λ n. take n []) e
take_more (x ∷ xs) zero zero zero h = refl
take_more (x ∷ xs) zero zero (suc k) h = absurd (omega (arith, h))
take_more (x ∷ xs) zero (suc end) zero h = refl
take_more (x ∷ xs) zero (suc end) (suc k) h = let e : 0 + suc k ≡ suc (0 + k) = omega arith in ap (λ n. take n (x ∷ xs)) e ∙ ap (λ l. x ∷ l) (take_more xs 0 end k (omega (arith, h)))
take_more (x ∷ xs) (suc first) zero k h = absurd (omega (arith, h))
take_more (x ∷ xs) (suc first) (suc end) k h = let e : suc first + k ≡ suc (first + k) = omega arith in ap (λ n. take n (x ∷ xs)) e ∙ ap (λ l. x ∷ l) (take_more xs first end k (omega (arith, h)))

pub bytes_same : (xs ys : Bytes) → bytes_eq xs ys ≡ true → xs ≡ ys
bytes_same [] [] h = refl
bytes_same [] (y ∷ ys) h = cc h
bytes_same (x ∷ xs) [] h = cc h
bytes_same (x ∷ xs) (y ∷ ys) h = grind (arith, nat_tests, h, bytes_same xs ys)

same_texts : (text : Bytes) (row : Row) → is_text text row ≡ true → (other : Row) → is_same row other ≡ true → is_text text other ≡ true
same_texts text row h other s =
    let e : text ≡ row.text = bytes_same text row.text h in
    let a : bytes_eq row.text other.text ≡ true = grind (arith, s) in
    subst (λ t. bytes_eq t other.text ≡ true) (sym e) a

pub text_there : (place : Place) (text : Bytes) (rows : List Row) (first end at : ℕ) → IsSegment place first end rows → at ≡ first + position_or_len (is_text text) (drop first (take end rows)) → at < end → StandsAt Left (row_of text (rows_at place rows)) at rows
text_there place text rows first end at s is h =
    let own : List Row = rows_at place rows in
    let k : ℕ = position_or_len (is_text text) own in
    let e : at ≡ first + k = is ∙ ap (λ l. first + position_or_len (is_text text) l) (sym s.inside) in
    let get : slice_get own k ≡ slice_get rows at = there place rows first end k s (omega (arith, e, h)) ∙ ap (slice_get rows) (sym e) in
    let found : row_of text own ≡ slice_get rows at = first_passing (is_text text) own ∙ get in
    record {
      within = omega (arith, h, s.within);
      there = sym found;
      taken = λ row o.
          let is_here : slice_get own k ≡ Some row = get ∙ sym found ∙ o in
          let at_place = passing (is_at place) rows k row is_here in
          let of_text = passing (is_text text) own 0 row (sym (first_get (filter (is_text text) own)) ∙ o) in
          let front = any_less (is_same row) (is_at place) (equals place row at_place) (take first rows) s.front in
          let here = any_less (is_same row) (is_text text) (same_texts text row of_text) (take k own) (none_before (is_text text) own) in
          let split = ap (λ n. take n rows) e ∙ take_more rows first end k (omega (arith, e, h)) ∙ ap (λ l. take first rows ++ take k l) (sym s.inside) in
          taken_left rows at row (sym found ∙ o) (ap (list_any (is_same row)) split ∙ any_more (is_same row) (take first rows) (take k own) front here);
    }

get_past : (rows : List Row) (k : ℕ) → length rows ≤ k → slice_get rows k ≡ None
get_past [] k h = refl
get_past (row ∷ rows) zero h = absurd (omega (arith, h))
get_past (row ∷ rows) (suc k) h = get_past rows k (omega (arith, h))

pub text_none : (place : Place) (text : Bytes) (rows : List Row) (first end at : ℕ) → IsSegment place first end rows → at ≡ first + position_or_len (is_text text) (drop first (take end rows)) → end ≤ at → row_of text (rows_at place rows) ≡ None
text_none place text rows first end at s is h =
    let own : List Row = rows_at place rows in
    let e : at ≡ first + position_or_len (is_text text) own = is ∙ ap (λ l. first + position_or_len (is_text text) l) (sym s.inside) in
    let l = length_at place rows first end s in
    first_passing (is_text text) own ∙ get_past own (position_or_len (is_text text) own) (omega (arith, l, e, h))
