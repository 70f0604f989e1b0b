-- The rows of a set with one of some texts are those of one text after another.
use Rattle.std.proofs.Common.{◌≡◌, ◌+◌, ◌<◌, ◌≤◌, ℕ, zero, suc, min, Bool, true, false, ◌&&◌, ◌||◌, not, List, [], ◌∷◌, drop, get_or, length, take, refl, sym, arith, ap, ap₂, subst, ◌∙◌}
use Rattle.std.specs.List.{filter, position_or_len}
use Rattle.std.proofs.lemmas.List.{drop_more}
use Rattle.std.proofs.lemmas.List.Sums.{count_by-le-length, length-filter}
use Rattle.sk_resp.specs.Spelling.{Bytes}
use Rattle.sk_resp.specs.WordOrder.{is_member}
use Rattle.sk_undo.specs.Partitioned.{all_pass}
use Rattle.sk_places.specs.declared.ending.Ending.TheVariants.{Deleted}
use Rattle.sk_places.specs.declared.row.Place.{Place}
use Rattle.sk_places.specs.declared.row.Row.{Row}
use Rattle.sk_places.specs.Ends.{texts_of}
use Rattle.sk_places.specs.LiveJobs.{Lived, all_ended}
use Rattle.sk_places.specs.RowFilter.{without_firsts}
use Rattle.sk_places.specs.Rows.{is_at, rows_at}
use Rattle.sk_places.specs.Segments.{is_text}
use Rattle.sk_places.proofs.AnyOrder.{count_in_two, ended_in_two, rest_in_two}
use Rattle.sk_places.proofs.Indexed.{same_jid}
use Rattle.sk_places.proofs.Lists.{place_no, place_yes}
use Rattle.sk_places.proofs.Rising.{all_at}
use Rattle.sk_places.proofs.Sweeps.{all_firsts, at_most_all, take_all}

-- ## Where a text stands, from an index on

from_index : (t : Row → Bool) (rows : List Row) (first end : ℕ) → first ≤ min (position_or_len t rows) end → end ≤ length rows → min (position_or_len t rows) end ≡ first + position_or_len t (drop first (take end rows))
from_index t [] zero zero h w = refl
from_index t [] zero (suc end) h w = absurd (omega (arith, w))
from_index t [] (suc first) end h w = absurd (omega (arith, h))
from_index t (row ∷ rows) zero zero h w = omega arith
from_index t (row ∷ rows) (suc first) zero h w = absurd (omega (arith, h))
from_index t (row ∷ rows) first (suc end) h w = cases first h (t row) refl (λ f g. from_index t rows f end g (omega (arith, w)))
  where
    cases : (f : ℕ) → f ≤ min (position_or_len t (row ∷ rows)) (suc end) → (b : Bool) → t row ≡ b → ((g : ℕ) → g ≤ min (position_or_len t rows) end → min (position_or_len t rows) end ≡ g + position_or_len t (drop g (take end rows))) → min (position_or_len t (row ∷ rows)) (suc end) ≡ f + position_or_len t (drop f (take (suc end) (row ∷ rows)))
    cases zero k true e more = let p = place_yes t row rows e in let q = place_yes t row (take end rows) e in omega (arith, p, q)
    cases zero k false e more = let p = place_no t row rows e in let q = place_no t row (take end rows) e in let m = more 0 (omega arith) in omega (arith, p, q, m)
    cases (suc f) k true e more = let p = place_yes t row rows e in absurd (omega (arith, p, k))
    cases (suc f) k false e more = let p = place_no t row rows e in let m = more f (omega (arith, p, k)) in omega (arith, p, m)

at_own : (place : Place) (t : Row → Bool) (rows : List Row) → all_pass (is_at place) rows ≡ true → position_or_len (λ row. is_at place row && t row) rows ≡ position_or_len t rows
at_own place t [] h = refl
at_own place t (row ∷ rows) h = grind (arith, h, at_own place t rows)

pub found_from : (place : Place) (t : Row → Bool) (rows : List Row) (found at first end : ℕ) → found ≡ position_or_len t (rows_at place rows) → at ≡ min found end → first ≤ at → end ≤ length (rows_at place rows)
    → (at ≡ first + position_or_len (λ row. is_at place row && t row) (drop first (take end (rows_at place rows)))) × (at ≤ end)
found_from place t rows found at first end is least from within =
    let own = at_own place t (rows_at place rows) (all_at place rows) in
    let there = from_index (λ row. is_at place row && t row) (rows_at place rows) first end (omega (arith, own, is, least, from)) within in
    (omega (arith, own, is, least, there), omega (arith, least))

-- ## One text after another

-- the row is at the place and has one of the texts
abbrev pub is_wanted : Place → List Bytes → Row → Bool
is_wanted place members row = is_at place row && is_member row.text members

-- What is left to do for some texts, after which there are these rows and these jobs, and so many rows went.
pub record IsLeft (place : Place) (members : List Bytes) (rows : List Row) (jobs : Lived) (gone : ℕ) (rest : List Row) (ends : Lived) (count : ℕ) : Type 0 where
  pub rest_is : filter (λ row. not (is_wanted place members row)) rows ≡ rest
  pub ends_is : all_ended Deleted (texts_of (filter (is_wanted place members) rows)) jobs ≡ ends
  pub count_is : gone + length (filter (is_wanted place members) rows) ≡ count

one_or_another : (place : Place) (member : Bytes) (members : List Bytes) (row : Row) → is_wanted place (member ∷ members) row ≡ (is_at place row && is_text member row) || is_wanted place members row
one_or_another place member members row = grind (arith, same_jid row.text member)

none_wanted : (place : Place) (rows : List Row) → filter (is_wanted place []) rows ≡ []
none_wanted place [] = refl
none_wanted place (row ∷ rows) = grind (arith, none_wanted place rows)

all_stay : (place : Place) (rows : List Row) → filter (λ row. not (is_wanted place [] row)) rows ≡ rows
all_stay place [] = refl
all_stay place (row ∷ rows) = grind (arith, all_stay place rows)

nothing_left : (members : List Bytes) (i : ℕ) → length members ≤ i → drop i members ≡ []
nothing_left [] zero h = refl
nothing_left [] (suc i) h = refl
nothing_left (member ∷ members) zero h = absurd (omega (arith, h))
nothing_left (member ∷ members) (suc i) h = nothing_left members i (omega (arith, h))

pub all_left : (place : Place) (members : List Bytes) (rows : List Row) (jobs : Lived) → IsLeft place members rows jobs 0 (filter (λ row. not (is_wanted place members row)) rows) (all_ended Deleted (texts_of (filter (is_wanted place members) rows)) jobs) (length (filter (is_wanted place members) rows))
all_left place members rows jobs = record { rest_is = refl; ends_is = refl; count_is = omega arith }

pub none_left : (place : Place) (members : List Bytes) (i : ℕ) (rows rest : List Row) (jobs ends : Lived) (gone count : ℕ) → length members ≤ i → IsLeft place (drop i members) rows jobs gone rest ends count → (rows ≡ rest) × (jobs ≡ ends) × (gone ≡ count)
none_left place members i rows rest jobs ends gone count h left =
    let last = subst (λ ms. IsLeft place ms rows jobs gone rest ends count) (nothing_left members i h) left in
    let none = none_wanted place rows in
    (sym (all_stay place rows) ∙ last.rest_is, ap (λ gone. all_ended Deleted (texts_of gone) jobs) (sym none) ∙ last.ends_is, let n = ap length none in omega (arith, last.count_is, n))

-- the rows with the next text go
pub one_less : (place : Place) (members : List Bytes) (i : ℕ) (member : Bytes) (rows left rest : List Row) (jobs later ends : Lived) (gone n count : ℕ) → i < length members → member ≡ get_or members i member
    → left ≡ filter (λ row. not (is_at place row && is_text member row)) rows → later ≡ all_ended Deleted (texts_of (filter (λ row. is_at place row && is_text member row) rows)) jobs → n ≡ length (filter (λ row. is_at place row && is_text member row) rows)
    → IsLeft place (drop i members) rows jobs gone rest ends count → IsLeft place (drop (i + 1) members) left later (gone + n) rest ends count
one_less place members i member rows left rest jobs later ends gone n count h item left_is later_is n_is before =
    let first : drop i members ≡ member ∷ drop (i + 1) members = drop_more members i member h ∙ ap (λ m. m ∷ drop (i + 1) members) (sym item) in
    let now = subst (λ ms. IsLeft place ms rows jobs gone rest ends count) first before in
    let t : Row → Bool = λ row. is_at place row && is_text member row in
    let u : Row → Bool = is_wanted place (drop (i + 1) members) in
    let v : Row → Bool = is_wanted place (member ∷ drop (i + 1) members) in
    let both : (row : Row) → v row ≡ t row || u row = one_or_another place member (drop (i + 1) members) in
    let fewer = count_in_two t u v both rows in
    let same = ap (λ l. length (filter u l)) left_is in
    record {
      rest_is = ap (filter (λ row. not (u row))) left_is ∙ rest_in_two t u v both rows ∙ now.rest_is;
      ends_is = ap₂ (λ l jobs. all_ended Deleted (texts_of (filter u l)) jobs) left_is later_is ∙ ended_in_two t u v both Deleted rows jobs ∙ now.ends_is;
      count_is = omega (arith, fewer, same, n_is, now.count_is);
    }

-- the same of a sweep for the next text, which takes all its rows
pub one_swept : (place : Place) (members : List Bytes) (i : ℕ) (member : Bytes) (rows rest : List Row) (jobs ends : Lived) (gone n count most : ℕ) → i < length members → member ≡ get_or members i member → length rows ≤ most
    → n ≡ min most (length (filter (λ row. is_at place row && is_text member row) rows)) → IsLeft place (drop i members) rows jobs gone rest ends count
    → (length (without_firsts n (λ row. is_at place row && is_text member row) rows) ≤ most) × IsLeft place (drop (i + 1) members) (without_firsts n (λ row. is_at place row && is_text member row) rows) (all_ended Deleted (texts_of (take n (filter (λ row. is_at place row && is_text member row) rows))) jobs) (gone + n) rest ends count
one_swept place members i member rows rest jobs ends gone n count most h item few is before =
    let t : Row → Bool = λ row. is_at place row && is_text member row in
    let all : n ≡ length (filter t rows) = is ∙ at_most_all t rows most few in
    let left : without_firsts n t rows ≡ filter (λ row. not (t row)) rows = all_firsts t n rows (sym all) in
    let over = ap (λ l. all_ended Deleted (texts_of l) jobs) (take_all n (filter t rows) all) in
    let as_many = ap length left in
    let counted = length-filter (λ row. not (t row)) rows in
    let less = count_by-le-length (λ row. not (t row)) rows in
    (omega (arith, as_many, counted, less, few), one_less place members i member rows (without_firsts n t rows) rest jobs (all_ended Deleted (texts_of (take n (filter t rows))) jobs) ends gone n count h item left over all before)

-- no more go than there are
pub within_all : (place : Place) (members : List Bytes) (rows : List Row) → length (filter (is_wanted place members) rows) ≤ length rows
within_all place members rows = let counted = length-filter (is_wanted place members) rows in let less = count_by-le-length (is_wanted place members) rows in omega (arith, counted, less)
