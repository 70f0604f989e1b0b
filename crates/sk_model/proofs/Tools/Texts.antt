-- Tests of texts and places.
use Rattle.std.proofs.Common.{ℤ, ◌<ℤ◌, ◌≡◌, ◌≢◌, refl, sym, ap, ◌∙◌, ◌⊎◌, inl, inr, arith, Bool, true, false}
use Rattle.std.specs.Ordering.{int_cmp, is_eq, MatchOrdering}
use Rattle.std.specs.Cmp.{int_ranks}
use Rattle.std.proofs.lemmas.Int.{ints}
use Rattle.std.specs.declared.cmp.Ordering.{Ordering}
use Rattle.std.specs.declared.cmp.Ordering.TheVariants.{Less, Equal, Greater}
use Rattle.sk_cmd.specs.declared.argument.Scored.TheVariants.{Schedule, Retry, Dead}
use Rattle.std.specs.Str.{bytes_eq}
use Rattle.std.proofs.lemmas.Slice.Eq.{bytes_eq-Decides}
use Rattle.std.proofs.lemmas.Map.Text.{is_eq-slice_cmp}
use Rattle.sk_resp.specs.Spelling.{Bytes}
use Rattle.sk_places.specs.declared.row.Place.{Place}
use Rattle.sk_places.specs.declared.row.Place.TheVariants.{Queue, Private, Set}
use Rattle.sk_places.specs.declared.row.Row.{Row}
use Rattle.sk_places.specs.Rows.{place_cmp, is_at, is_same}

tells : (b : Bool) (P : Type 0) → (b ≡ true → P) → (P → b ≡ true) → ((b ≡ true) × P) ⊎ ((b ≡ false) × (P → ⊥))
tells true P f g = inl (refl, f refl)
tells false P f g = inr (refl, λ p. cc (g p))

-- what the test of two texts tells
pub bytes_tell : (a b : Bytes) → ((bytes_eq a b ≡ true) × (a ≡ b)) ⊎ ((bytes_eq a b ≡ false) × (a ≢ b))
bytes_tell a b = tells (bytes_eq a b) (a ≡ b) (bytes_eq-Decides a b).0 (bytes_eq-Decides a b).1

pub same_bytes : (a : Bytes) → bytes_eq a a ≡ true
same_bytes a = (bytes_eq-Decides a a).1 refl

-- a row is at its place, and is the same as itself
same_place : (place : Place) → is_eq (place_cmp place place) ≡ true
same_place (Queue q) = is_eq-slice_cmp q q ∙ same_bytes q
same_place (Private ident) = is_eq-slice_cmp ident ident ∙ same_bytes ident
same_place (Set Schedule) = refl
same_place (Set Retry) = refl
same_place (Set Dead) = refl

same_score : (x : ℤ) → is_eq (int_cmp x x) ≡ true
same_score x = go (int_cmp x x) (int_ranks x x) where
  go : (r : Ordering) → MatchOrdering r (x <ℤ x) (x ≡ x) (x <ℤ x) → is_eq r ≡ true
  go Less below = absurd (omega (arith, ints, below))
  go Equal same = refl
  go Greater above = absurd (omega (arith, ints, above))

pub score_is : (x y : ℤ) → is_eq (int_cmp x y) ≡ true → x ≡ y
score_is x y e = go (int_cmp x y) (int_ranks x y) e where
  go : (r : Ordering) → MatchOrdering r (x <ℤ y) (x ≡ y) (y <ℤ x) → is_eq r ≡ true → x ≡ y
  go Less below e = absurd (cc e)
  go Equal same e = same
  go Greater above e = absurd (cc e)

pub at_place : (row : Row) → is_at row.place row ≡ true
at_place row = same_place row.place

pub same_row : (row : Row) → is_same row row ≡ true
same_row row = grind (arith, at_place row, same_score row.score, same_bytes row.text)

-- rows that are the same have one text
pub same_text : (row other : Row) → is_same row other ≡ true → row.text ≡ other.text
same_text row other same = grind (arith, bytes_tell)

same_place_is : (a b : Place) → is_eq (place_cmp a b) ≡ true → a ≡ b
same_place_is (Queue a) (Queue b) e = ap Queue ((bytes_eq-Decides a b).0 (sym (is_eq-slice_cmp a b) ∙ e))
same_place_is (Queue a) (Private b) e = absurd (cc e)
same_place_is (Queue a) (Set b) e = absurd (cc e)
same_place_is (Private a) (Queue b) e = absurd (cc e)
same_place_is (Private a) (Private b) e = ap Private ((bytes_eq-Decides a b).0 (sym (is_eq-slice_cmp a b) ∙ e))
same_place_is (Private a) (Set b) e = absurd (cc e)
same_place_is (Set a) (Queue b) e = absurd (cc e)
same_place_is (Set a) (Private b) e = absurd (cc e)
same_place_is (Set Schedule) (Set Schedule) e = refl
same_place_is (Set Schedule) (Set Retry) e = absurd (cc e)
same_place_is (Set Schedule) (Set Dead) e = absurd (cc e)
same_place_is (Set Retry) (Set Schedule) e = absurd (cc e)
same_place_is (Set Retry) (Set Retry) e = refl
same_place_is (Set Retry) (Set Dead) e = absurd (cc e)
same_place_is (Set Dead) (Set Schedule) e = absurd (cc e)
same_place_is (Set Dead) (Set Retry) e = absurd (cc e)
same_place_is (Set Dead) (Set Dead) e = refl

-- and they are one row
pub same_is : (row other : Row) → is_same row other ≡ true → row ≡ other
same_is row other same =
    let place : row.place ≡ other.place = same_place_is row.place other.place (grind arith) in
    let score : row.score ≡ other.score = score_is row.score other.score (grind arith) in
    ap (λ (p : Place). as_row p row.score row.text) place ∙ ap (λ s. as_row other.place s row.text) score ∙ ap (λ t. as_row other.place other.score t) (same_text row other same) where
      as_row : Place → ℤ → Bytes → Row
      as_row p s t = record { place = p; score = s; text = t }
