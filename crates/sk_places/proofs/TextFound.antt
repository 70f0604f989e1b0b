-- The first row of a text in a set stands where its least score and the text have it.
use Rattle.std.proofs.Common.{◌≡◌, ◌<◌, ℕ, ℤ, zero, suc, Bool, true, false, not, ◌&&◌, List, [], ◌∷◌, Option, Some, None, length, refl, sym, arith, ap, ap₂, ◌∙◌}
use Rattle.std.specs.BTreeMap.{is_at as is_match}
use Rattle.std.specs.List.{list_any, position_or_len}
use Rattle.std.specs.Str.{bytes_eq}
use Rattle.std.specs.Cmp.Lexicographic.{slice_cmp}
use Rattle.std.specs.Ordering.{int_cmp, is_eq, is_le, is_lt, nat_cmp, ordering_then}
use Rattle.std.specs.declared.cmp.Ordering.{Ordering}
use Rattle.std.specs.declared.cmp.Ordering.TheVariants.{Less, Equal, Greater}
use Rattle.std.proofs.lemmas.Bool.Decides.{nat_tests}
use Rattle.std.proofs.lemmas.Cmp.{int_cmp_total, nat_list_cmp_total, tied_itself}
use Rattle.std.proofs.lemmas.Int.{ints}
use Rattle.sk_resp.specs.Spelling.{Bytes}
use Rattle.sk_cmd.specs.declared.argument.Scored.{Scored}
use Rattle.sk_undo.specs.Partitioned.{all_pass}
use Rattle.sk_zset.specs.Pair.{pair_cmp}
use Rattle.sk_places.specs.LiveJobs.{one_if}
use Rattle.sk_places.specs.declared.row.Place.{Place}
use Rattle.sk_places.specs.declared.row.Place.TheVariants.{Queue, Private, Set}
use Rattle.sk_places.specs.declared.row.Row.{Row}
use Rattle.sk_places.specs.Order.{is_first, is_ordered}
use Rattle.sk_places.specs.PlaceOrder.{place_total, same_place, same_text}
use Rattle.sk_places.specs.Rows.{is_at, pair_of, place_cmp, row_cmp, rows_at}
use Rattle.sk_places.specs.Segments.{is_text}
use Rattle.sk_places.specs.TextIndex.{IsLeastScore, IsTextIndex, count_in, is_below, is_from, is_key, key_at, key_of, rows_with}
use Rattle.sk_places.specs.TextKey.{Key, key_cmp, key_in}
use Rattle.sk_places.proofs.Lists.{place_no, place_yes}
use Rattle.sk_places.proofs.Rising.{all_at, ordered_filter, set_cmp}
use Rattle.sk_places.proofs.TextIndexed.{key_itself, rows_more, same_key}

-- ## Tests of a row

same_bytes : (xs ys : Bytes) → bytes_eq xs ys ≡ true → xs ≡ ys
same_bytes [] [] h = refl
same_bytes [] (y ∷ ys) h = absurd (cc h)
same_bytes (x ∷ xs) [] h = absurd (cc h)
same_bytes (x ∷ xs) (y ∷ ys) h = grind (arith, nat_tests, h, same_bytes xs ys)

bytes_itself : (xs : Bytes) → bytes_eq xs xs ≡ true
bytes_itself [] = refl
bytes_itself (x ∷ xs) = grind (arith, nat_tests, bytes_itself xs)

both : (a b : Bool) → a && b ≡ true → (a ≡ true) × (b ≡ true)
both true true h = (refl, refl)
both true false h = absurd (cc h)
both false b h = absurd (cc h)

-- a row of the text, with a lesser score
abbrev is_lesser : Bytes → Option ℤ → Row → Bool
is_lesser text least row = is_text text row && is_below row.score least

-- a row of the text, with this score
abbrev is_pair : ℤ → Bytes → Row → Bool
is_pair score text row = is_text text row && is_eq (int_cmp row.score score)

-- ## Rows with a key

-- a row of the set and the text has the key of its score
has_key : (set : Scored) (text : Bytes) (row : Row) → is_at (Set set) row ≡ true → is_text text row ≡ true → is_key (key_of row) (key_in set text row.score) ≡ 1
has_key set text row h t =
    let p : Set set ≡ row.place = same_place (Set set) row.place (grind (arith, h)) in
    let k : key_of row ≡ Some (key_in set row.text row.score) = ap (λ place. key_at place row.score row.text) (sym p) in
    let w : text ≡ row.text = same_bytes text row.text t in
    ap (λ o. is_key o (key_in set text row.score)) (k ∙ ap (λ w. Some (key_in set w row.score)) (sym w)) ∙ ap one_if (key_itself (key_in set text row.score))

none_lesser : (set : Scored) (text : Bytes) (least : Option ℤ) (rows : List Row) → ((score : ℤ) → is_below score least ≡ true → rows_with (key_in set text score) rows ≡ 0) → all_pass (λ row. not (is_lesser text least row)) (rows_at (Set set) rows) ≡ true
none_lesser set text least [] h = refl
none_lesser set text least (row ∷ rows) h = cases (is_at (Set set) row) (is_lesser text least row) refl refl (none_lesser set text least rows less)
  where
    less : (score : ℤ) → is_below score least ≡ true → rows_with (key_in set text score) rows ≡ 0
    less score l = let m = rows_more (key_in set text score) row rows in let z = h score l in omega (arith, m, z)

    cases : (a b : Bool) → is_at (Set set) row ≡ a → is_lesser text least row ≡ b → all_pass (λ row. not (is_lesser text least row)) (rows_at (Set set) rows) ≡ true → all_pass (λ row. not (is_lesser text least row)) (rows_at (Set set) (row ∷ rows)) ≡ true
    cases false b e f more = grind (arith, e, more)
    cases true false e f more = grind (arith, e, f, more)
    cases true true e f more =
        let p = both (is_text text row) (is_below row.score least) f in
        let k = has_key set text row e p.0 in
        let m = rows_more (key_in set text row.score) row rows in
        let z = h row.score p.1 in
        absurd (omega (arith, k, m, z))

-- a row with the key is one of the set, of the text and with the score
with_key_at : (set : Scored) (text : Bytes) (score : ℤ) (place : Place) (row : Row) → row.place ≡ place → 0 < is_key (key_at place row.score row.text) (key_in set text score) → (is_at (Set set) row ≡ true) × (is_pair score text row ≡ true)
with_key_at set text score (Queue queue) row p h = absurd (omega (arith, h))
with_key_at set text score (Private ident) row p h = absurd (omega (arith, h))
with_key_at set text score (Set other) row p h = cases (is_match (key_cmp (key_in set text score)) (key_in other row.text row.score)) refl h
  where
    cases : (b : Bool) → is_match (key_cmp (key_in set text score)) (key_in other row.text row.score) ≡ b → 0 < one_if b → (is_at (Set set) row ≡ true) × (is_pair score text row ≡ true)
    cases false e n = absurd (omega (arith, n))
    cases true e n =
        let k = same_key (key_in set text score) (key_in other row.text row.score) e in
        let s : set ≡ other = ap (λ (k : Key). k.0) k in
        let t : text ≡ row.text = ap (λ (k : Key). k.1) k in
        let z : score ≡ row.score = ap (λ (k : Key). k.2) k in
        let at : place_cmp (Set set) row.place ≡ Equal = ap₂ (λ a b. place_cmp (Set a) b) s p ∙ tied_itself place_total (Set other) in
        let word : is_text text row ≡ true = ap (λ w. bytes_eq w row.text) t ∙ bytes_itself row.text in
        let level : int_cmp row.score score ≡ Equal = ap (int_cmp row.score) z ∙ tied_itself int_cmp_total row.score in
        (ap is_eq at, ap₂ (λ a b. a && b) word (ap is_eq level))

some_pair : (set : Scored) (text : Bytes) (score : ℤ) (rows : List Row) → 0 < rows_with (key_in set text score) rows → list_any (is_pair score text) (rows_at (Set set) rows) ≡ true
some_pair set text score [] h = absurd (omega (arith, h))
some_pair set text score (row ∷ rows) h = cases (is_key (key_of row) (key_in set text score)) refl (some_pair set text score rows)
  where
    cases : (n : ℕ) → is_key (key_of row) (key_in set text score) ≡ n → (0 < rows_with (key_in set text score) rows → list_any (is_pair score text) (rows_at (Set set) rows) ≡ true) → list_any (is_pair score text) (rows_at (Set set) (row ∷ rows)) ≡ true
    cases zero e more =
        let m = rows_more (key_in set text score) row rows in
        let a = more (omega (arith, h, m, e)) in
        grind (arith, a)
    cases (suc n) e more =
        let p = with_key_at set text score row.place row refl (omega (arith, e)) in
        grind (arith, p.0, p.1)

-- ## No row of the text

no_place : (text : Bytes) (rows : List Row) → all_pass (λ row. not (is_lesser text None row)) rows ≡ true → position_or_len (is_text text) rows ≡ length rows
no_place text [] h = refl
no_place text (row ∷ rows) h = cases (is_text text row) refl (no_place text rows)
  where
    cases : (b : Bool) → is_text text row ≡ b → (all_pass (λ row. not (is_lesser text None row)) rows ≡ true → position_or_len (is_text text) rows ≡ length rows) → position_or_len (is_text text) (row ∷ rows) ≡ length (row ∷ rows)
    cases true e more = absurd (grind (arith, e, h))
    cases false e more = grind (arith, e, h, more)

-- ## The row at the pair's place

-- one before the pair that isn't of a lesser score is of another text
level : (o p : Ordering) → p ≡ Equal → is_lt (ordering_then o p) ≡ true → is_lt o ≡ true
level Less p e h = refl
level Equal p e h = absurd (cc (sym (ap is_lt e) ∙ h))
level Greater p e h = absurd (cc h)

other_text : (score : ℤ) (text : Bytes) (row : Row) → is_from score text row ≡ false → not (is_lesser text (Some score) row) ≡ true → is_text text row ≡ false
other_text score text row u n = cases (is_text text row) refl
  where
    cases : (b : Bool) → is_text text row ≡ b → is_text text row ≡ false
    cases false e = e
    cases true e =
        let w : text ≡ row.text = same_bytes text row.text e in
        let t : slice_cmp nat_cmp row.text text ≡ Equal = ap (slice_cmp nat_cmp row.text) w ∙ tied_itself nat_list_cmp_total row.text in
        let b : is_lt (pair_cmp (pair_of row) (score, text)) ≡ true = grind (arith, u) in
        let l : is_lt (int_cmp row.score score) ≡ true = level (int_cmp row.score score) (slice_cmp nat_cmp row.text text) t b in
        absurd (grind (arith, e, l, n))

-- a row before one of the pair isn't behind the pair
pair_is : (score : ℤ) (text : Bytes) (row : Row) → is_pair score text row ≡ true → pair_of row ≡ (score, text)
pair_is score text row h =
    let p = both (is_text text row) (is_eq (int_cmp row.score score)) h in
    let z : row.score ≡ score = (let e = p.1 in grind (arith, ints, e)) in
    ap₂ (λ a b. (a, b)) z (sym (same_bytes text row.text p.0))

at_most : (set : Scored) (score : ℤ) (text : Bytes) (first : Row) (rows : List Row) → is_at (Set set) first ≡ true → all_pass (is_at (Set set)) rows ≡ true → is_first first rows ≡ true → list_any (is_pair score text) rows ≡ true → is_le (pair_cmp (pair_of first) (score, text)) ≡ true
at_most set score text first [] h all up any = absurd (cc any)
at_most set score text first (row ∷ rows) h all up any = cases (is_pair score text row) refl (at_most set score text first rows h (grind (arith, all)) (grind (arith, up)))
  where
    cases : (b : Bool) → is_pair score text row ≡ b → (list_any (is_pair score text) rows ≡ true → is_le (pair_cmp (pair_of first) (score, text)) ≡ true) → is_le (pair_cmp (pair_of first) (score, text)) ≡ true
    cases true e more =
        let p = sym (same_place (Set set) first.place (grind (arith, h))) in
        let q = sym (same_place (Set set) row.place (grind (arith, all))) in
        let l : is_le (row_cmp first row) ≡ true = grind (arith, up) in
        sym (ap is_le (set_cmp set first row p q ∙ ap (pair_cmp (pair_of first)) (pair_is score text row e))) ∙ l
    cases false e more = more (grind (arith, any, e))

level_text : (o p : Ordering) → is_le (ordering_then o p) ≡ true → is_lt (ordering_then o p) ≡ false → p ≡ Equal
level_text Less p h n = absurd (cc n)
level_text Equal Less h n = absurd (cc n)
level_text Equal Equal h n = refl
level_text Equal Greater h n = absurd (cc h)
level_text Greater p h n = absurd (cc h)

same_first : (set : Scored) (score : ℤ) (text : Bytes) (rows : List Row) → all_pass (is_at (Set set)) rows ≡ true → is_ordered rows ≡ true → all_pass (λ row. not (is_lesser text (Some score) row)) rows ≡ true → list_any (is_pair score text) rows ≡ true → position_or_len (is_text text) rows ≡ position_or_len (is_from score text) rows
same_first set score text [] all up none any = refl
same_first set score text (x ∷ rows) all up none any = cases (is_from score text x) refl (same_first set score text rows (grind (arith, all)) (grind (arith, up)) (grind (arith, none)))
  where
    of_text : is_from score text x ≡ true → (b : Bool) → is_pair score text x ≡ b → is_text text x ≡ true
    of_text e true p = (both (is_text text x) (is_eq (int_cmp x.score score)) p).0
    of_text e false p =
        let l = at_most set score text x rows (grind (arith, all)) (grind (arith, all)) (grind (arith, up)) (grind (arith, any, p)) in
        let n : is_lt (pair_cmp (pair_of x) (score, text)) ≡ false = grind (arith, e) in
        let w = same_text x.text text (level_text (int_cmp x.score score) (slice_cmp nat_cmp x.text text) l n) in
        ap (λ t. bytes_eq t x.text) (sym w) ∙ bytes_itself x.text

    cases : (b : Bool) → is_from score text x ≡ b → (list_any (is_pair score text) rows ≡ true → position_or_len (is_text text) rows ≡ position_or_len (is_from score text) rows) → position_or_len (is_text text) (x ∷ rows) ≡ position_or_len (is_from score text) (x ∷ rows)
    cases true e more = place_yes (is_text text) x rows (of_text e (is_pair score text x) refl) ∙ sym (place_yes (is_from score text) x rows e)
    cases false e more =
        let f : is_text text x ≡ false = other_text score text x e (grind (arith, none)) in
        let p : is_pair score text x ≡ false = ap (λ b. b && is_eq (int_cmp x.score score)) f in
        place_no (is_text text) x rows f ∙ ap suc (more (grind (arith, any, p))) ∙ sym (place_no (is_from score text) x rows e)

-- ## Look-ups

module _ (set : Scored) (text : Bytes) (rows : List Row) (keys : List Key) (index : IsTextIndex rows keys) where
  none_in : (least : Option ℤ) → IsLeastScore set text least keys → all_pass (λ row. not (is_lesser text least row)) (rows_at (Set set) rows) ≡ true
  none_in least n = none_lesser set text least rows (λ score l. sym (index.counts (key_in set text score)) ∙ n.none score l)

  pub absent : IsLeastScore set text None keys → length (rows_at (Set set) rows) ≡ position_or_len (is_text text) (rows_at (Set set) rows)
  absent n = sym (no_place text (rows_at (Set set) rows) (none_in None n))

  pub present : (score : ℤ) → is_ordered rows ≡ true → IsLeastScore set text (Some score) keys → position_or_len (is_from score text) (rows_at (Set set) rows) ≡ position_or_len (is_text text) (rows_at (Set set) rows)
  present score up n =
      let there : 0 < count_in (key_in set text score) keys = n.there in
      let counts = index.counts (key_in set text score) in
      sym (same_first set score text (rows_at (Set set) rows) (all_at (Set set) rows) (ordered_filter (is_at (Set set)) rows up) (none_in (Some score) n) (some_pair set text score rows (omega (arith, there, counts))))
