-- The rows of a set of jobs, in the list of its set, and what an edit of it is to all rows.
use Rattle.std.proofs.Common.{◌≡◌, ◌+◌, ◌<◌, ◌≤◌, ℕ, ℤ, suc, max, Bool, true, false, not, List, [], ◌∷◌, ◌++◌, Some, drop, filter, get_or, length, map, slice_get, take, refl, sym, arith, ap, ap₂, subst, ◌∙◌}
use Rattle.std.specs.List.{count_by, insert, remove, position_or_len}
use Rattle.std.specs.Option.{is_some}
use Rattle.std.specs.Ordering.{is_le, is_lt}
use Rattle.std.specs.declared.cmp.Ordering.{Ordering}
use Rattle.std.specs.declared.cmp.Ordering.TheVariants.{Less, Equal, Greater}
use Rattle.sk_base.specs.declared.bound.Bound.{Bound}
use Rattle.sk_resp.specs.Spelling.{Bytes}
use Rattle.sk_cmd.specs.declared.argument.Scored.{Scored}
use Rattle.sk_cmd.specs.declared.argument.Scored.TheVariants.{Schedule, Retry, Dead}
use Rattle.sk_cmd.specs.declared.argument.Side.{Side}
use Rattle.sk_cmd.specs.declared.argument.Side.TheVariants.{Left, Right}
use Rattle.sk_undo.specs.Partitioned.{all_pass, is_partitioned}
use Rattle.sk_undo.specs.Versions.{Versions, edited}
use Rattle.sk_zset.specs.Bounds.{is_above, is_below}
use Rattle.sk_zset.specs.Pair.{pair_cmp}
use Rattle.sk_places.specs.declared.row_lists.RowLists.{RowLists}
use Rattle.sk_places.specs.declared.row.Place.{Place}
use Rattle.sk_places.specs.declared.row.Place.TheVariants.{Set}
use Rattle.sk_places.specs.declared.row.Row.{Row}
use Rattle.sk_places.specs.Ends.{texts_of}
use Rattle.sk_places.specs.Entries.{Entry, Item, as_row, as_rows}
use Rattle.sk_places.specs.JobSets.{begin_of, comes_before, entry_in, items_of, others_of}
use Rattle.sk_places.specs.RowLists.{AreLists, all_rows, is_of_set, kept_rows, listed, rows_in, rows_in_lists, start_of}
use Rattle.sk_places.specs.Order.{is_ordered}
use Rattle.sk_places.specs.PlaceOrder.{same_place}
use Rattle.sk_places.specs.Rows.{is_at, pair_of, place_cmp, put_row, rows_at, stands_before}
use Rattle.sk_places.specs.Scores.{HasRange}
use Rattle.sk_places.specs.TextIndex.{is_from}
use Rattle.sk_places.proofs.Entries.{length_map, map_get, map_insert, map_map, map_remove, part_map, partitioned_map, position_map}
use Rattle.sk_places.proofs.Listed.{set_others, set_put, set_removed, set_rows}
use Rattle.sk_places.proofs.Lists.{all_insert, all_remove, inserted_after, place_no, place_yes}
use Rattle.sk_places.proofs.Parted.{all_less, filter_none, not_here_behind, position_here, stands_earlier, stands_later, turned}
use Rattle.sk_places.proofs.Rising.{all_filter, ordered_filter, partitioned_above_of, partitioned_behind, partitioned_from, partitioned_passed, partitioned_reached, partitioned_reached_by}
use Rattle.sk_places.proofs.Windows.{below_count, has_range}

pub ordered_behind : (xs ys : List Row) → is_ordered (xs ++ ys) ≡ true → is_ordered ys ≡ true
ordered_behind [] ys h = h
ordered_behind (x ∷ xs) ys h = ordered_behind xs ys (grind (arith, h))

-- an edit of the sets alone
pub sets_edited : (l m : RowLists) (es : List Entry) (rows : List Row) → m.names.list ≡ l.names.list → m.deques.lists ≡ l.deques.lists → m.spare.numbers.items ≡ l.spare.numbers.items → m.sets.list ≡ edited es l.sets.list → all_pass is_of_set (as_rows es) ≡ true → all_rows l.names.list.current l.deques.lists.current es ≡ rows → AreLists l
    → AreLists m × (rows_in m ≡ edited rows (rows_in l))
sets_edited l m es rows names lists spare is sets all a = (
  record {
    named = rw (names, lists) a.named;
    sets = rw is (record { current = sets; saved = a.sets.saved });
    spare = rw (names, lists, spare) a.spare;
    one_step = ap (λ (s : Versions (List (List Item))). is_some s.saved) lists ∙ a.one_step ∙ ap (λ (s : Versions (List Entry)). is_some s.saved) (sym is);
  },
  ap₂ (λ ns s. kept_rows ns.current s m.sets.list) names lists ∙ ap (kept_rows l.names.list.current l.deques.lists) is ∙ ap (λ r. edited r (rows_in l)) all,
)

-- ## The entries of a set

own_rows : (s : Scored) (es : List Entry) → rows_at (Set s) (as_rows es) ≡ map (listed (Set s)) (items_of s es)
own_rows s [] = refl
own_rows s (e ∷ es) = by (place_cmp (Set s) e.0.place) refl (own_rows s es)
  where
    by : (o : Ordering) → place_cmp (Set s) e.0.place ≡ o → rows_at (Set s) (as_rows es) ≡ map (listed (Set s)) (items_of s es) → rows_at (Set s) (as_rows (e ∷ es)) ≡ map (listed (Set s)) (items_of s (e ∷ es))
    by Less o again =
        let a : rows_at (Set s) (as_rows (e ∷ es)) ≡ rows_at (Set s) (as_rows es) = grind (arith, o) in
        let b : items_of s (e ∷ es) ≡ items_of s es = grind (arith, o) in
        a ∙ again ∙ sym (ap (map (listed (Set s))) b)
    by Equal o again =
        let same : Set s ≡ e.0.place = same_place (Set s) e.0.place o in
        let a : rows_at (Set s) (as_rows (e ∷ es)) ≡ as_row e ∷ rows_at (Set s) (as_rows es) = grind (arith, o) in
        let b : items_of s (e ∷ es) ≡ (e.0.score, e.1) ∷ items_of s es = grind (arith, o) in
        a ∙ ap₂ (λ p rows. record { place = p; score = e.0.score; text = e.1 } ∷ rows) (sym same) again ∙ sym (ap (map (listed (Set s))) b)
    by Greater o again =
        let a : rows_at (Set s) (as_rows (e ∷ es)) ≡ rows_at (Set s) (as_rows es) = grind (arith, o) in
        let b : items_of s (e ∷ es) ≡ items_of s es = grind (arith, o) in
        a ∙ again ∙ sym (ap (map (listed (Set s))) b)

begins : (s : Scored) (es : List Entry) → begin_of s es ≡ start_of (Set s) (as_rows es)
begins s es = position_map as_row (λ row. is_le (place_cmp (Set s) row.place)) es

others : (s : Scored) (es : List Entry) → as_rows (others_of s es) ≡ filter (λ row. not (is_at (Set s) row)) (as_rows es)
others s [] = refl
others s (e ∷ es) = grind (arith, others s es)

-- ## Where a row comes in

within_set : (s : Scored) (end : Side) (new item : Item) → stands_before end (listed (Set s) new) (listed (Set s) item) ≡ comes_before end new item
within_set Schedule Left new item = refl
within_set Schedule Right new item = refl
within_set Retry Left new item = refl
within_set Retry Right new item = refl
within_set Dead Left new item = refl
within_set Dead Right new item = refl

position_same : {X : Type 0} (p q : X → Bool) → ((x : X) → p x ≡ q x) → (xs : List X) → position_or_len p xs ≡ position_or_len q xs
position_same p q same [] = refl
position_same p q same (x ∷ xs) = let s = same x in grind (arith, s, position_same p q same xs)

all_same : {X : Type 0} (p q : X → Bool) → ((x : X) → p x ≡ q x) → (xs : List X) → all_pass p xs ≡ all_pass q xs
all_same p q same [] = refl
all_same p q same (x ∷ xs) = let s = same x in grind (arith, s, all_same p q same xs)

partitioned_same : {X : Type 0} (p q : X → Bool) → ((x : X) → p x ≡ q x) → (xs : List X) → is_partitioned p xs ≡ is_partitioned q xs
partitioned_same p q same [] = refl
partitioned_same p q same (x ∷ xs) = let s = same x in grind (arith, s, all_same p q same xs, partitioned_same p q same xs)

-- A test that the rows of earlier places fail and those of later ones pass finds its first row at the place, or behind it.
own_position : (place : Place) (t : Row → Bool) → ((row : Row) → is_lt (place_cmp row.place place) ≡ true → t row ≡ false) → ((row : Row) → is_lt (place_cmp place row.place) ≡ true → t row ≡ true)
    → (rows : List Row) → is_ordered rows ≡ true → position_or_len t rows ≡ start_of place rows + position_or_len t (rows_at place rows)
own_position place t earlier later [] ordered = refl
own_position place t earlier later (row ∷ rows) ordered = by (place_cmp place row.place) refl (own_position place t earlier later rows (grind (arith, ordered)))
  where
    reached : Row → Bool
    reached r = is_le (place_cmp place r.place)

    passed : Row → Bool
    passed r = is_lt (place_cmp place r.place)

    here : (b : Bool) → t row ≡ b → position_or_len t rows ≡ position_or_len t (rows_at place rows) → position_or_len t (row ∷ rows) ≡ position_or_len t (row ∷ rows_at place rows)
    here true is again = place_yes t row rows is ∙ sym (place_yes t row (rows_at place rows) is)
    here false is again = place_no t row rows is ∙ ap suc again ∙ sym (place_no t row (rows_at place rows) is)

    by : (o : Ordering) → place_cmp place row.place ≡ o → position_or_len t rows ≡ start_of place rows + position_or_len t (rows_at place rows) → position_or_len t (row ∷ rows) ≡ start_of place (row ∷ rows) + position_or_len t (rows_at place (row ∷ rows))
    by Less o again =
        let starts = place_yes reached row rows (ap is_le o) in
        let all : all_pass passed rows ≡ true = (let p = partitioned_passed place (row ∷ rows) ordered in grind (arith, o, p)) in
        let none : rows_at place (row ∷ rows) ≡ [] = filter_none (is_at place) (row ∷ rows) (let more = all_less (λ r. not (is_at place r)) passed (λ r h. not_here_behind place r h) rows all in grind (arith, o, more)) in
        let first = place_yes t row rows (later row (ap is_lt o)) in
        let parts = ap₂ (λ n own. n + position_or_len t own) starts none in
        omega (arith, first, parts)
    by Equal o again =
        let starts = place_yes reached row rows (ap is_le o) in
        let all : all_pass reached rows ≡ true = (let p = partitioned_reached place (row ∷ rows) ordered in grind (arith, o, p)) in
        let own : rows_at place (row ∷ rows) ≡ row ∷ rows_at place rows = grind (arith, o) in
        let none = position_here reached rows all in
        let same = here (t row) refl (omega (arith, again, none)) in
        let parts = ap₂ (λ n own. n + position_or_len t own) starts own in
        omega (arith, same, parts)
    by Greater o again =
        let starts = place_no reached row rows (ap is_le o) in
        let own : rows_at place (row ∷ rows) ≡ rows_at place rows = grind (arith, o) in
        let first = place_no t row rows (earlier row (ap is_lt (turned row.place place Greater o))) in
        let parts = ap₂ (λ n own. n + position_or_len t own) starts own in
        omega (arith, first, again, parts)

-- where among all entries a new one of a set comes in
comes_in : (s : Scored) (end : Side) (new : Item) (es : List Entry) → is_ordered (as_rows es) ≡ true → position_or_len (λ row. not (stands_before end (listed (Set s) new) row)) (as_rows es) ≡ begin_of s es + position_or_len (λ item. not (comes_before end new item)) (items_of s es)
comes_in s end new es ordered =
    let t : Row → Bool = λ row. not (stands_before end (listed (Set s) new) row) in
    let own = position_same (λ item. not (comes_before end new item)) (λ item. t (listed (Set s) item)) (λ item. ap not (sym (within_set s end new item))) (items_of s es) in
    own_position (Set s) t (λ row h. ap not (stands_earlier end (listed (Set s) new) row h)) (λ row h. stands_later end (listed (Set s) new) row h) (as_rows es) ordered
    ∙ ap₂ (λ n rows. n + position_or_len t rows) (sym (begins s es)) (own_rows s es)
    ∙ ap (λ n. begin_of s es + n) (sym (position_map (listed (Set s)) t (items_of s es)) ∙ sym own)

-- ## What an edit of a set is to all rows

module _ (l : RowLists) (s : Scored) (a : AreLists l) where
  -- a row that comes
  pub set_put_is : is_ordered (as_rows l.sets.list.current) ≡ true → (m : RowLists) (end : Side) (at : ℕ) (item : Item) → m.names.list ≡ l.names.list → m.deques.lists ≡ l.deques.lists → m.spare.numbers.items ≡ l.spare.numbers.items
      → at ≡ position_or_len (λ i. not (comes_before end item i)) (items_of s l.sets.list.current) → m.sets.list ≡ edited (insert l.sets.list.current (begin_of s l.sets.list.current + at) (entry_in s item)) l.sets.list
      → AreLists m × (rows_in m ≡ edited (put_row end (listed (Set s) item) (rows_in l).current) (rows_in l))
  set_put_is ordered m end at item names lists spare here is =
      let es = l.sets.list.current in
      let new : Row = listed (Set s) item in
      let index : ℕ = begin_of s es + at in
      let entries = map_insert as_row es index (entry_in s item) in
      let all : all_pass is_of_set (as_rows (insert es index (entry_in s item))) ≡ true = ap (all_pass is_of_set) entries ∙ all_insert is_of_set (as_rows es) index new a.sets.current refl in
      let there : index ≡ position_or_len (λ row. not (stands_before end new row)) (as_rows es) = ap (λ n. begin_of s es + n) here ∙ sym (comes_in s end item es ordered) in
      let put : as_rows (insert es index (entry_in s item)) ≡ put_row end new (as_rows es) = entries ∙ ap (λ n. insert (as_rows es) n new) there ∙ sym (inserted_after (stands_before end new) new (as_rows es)) in
      sets_edited l m (insert es index (entry_in s item)) (put_row end new (rows_in l).current) names lists spare is all
      (ap (λ r. rows_in_lists l.names.list.current l.deques.lists.current ++ r) put ∙ sym (set_put l.names.list.current l.deques.lists.current a.named.kinds (Set s) refl end new es refl)) a

  -- a row that goes
  pub set_removed_is : (m : RowLists) (at : ℕ) → m.names.list ≡ l.names.list → m.deques.lists ≡ l.deques.lists → m.spare.numbers.items ≡ l.spare.numbers.items → m.sets.list ≡ edited (remove l.sets.list.current (begin_of s l.sets.list.current + at)) l.sets.list
      → AreLists m × (rows_in m ≡ edited (remove (rows_in l).current (start_of (Set s) (rows_in l).current + at)) (rows_in l))
  set_removed_is m at names lists spare is =
      let es = l.sets.list.current in
      let index : ℕ = begin_of s es + at in
      let entries = map_remove as_row es index in
      sets_edited l m (remove es index) (remove (rows_in l).current (start_of (Set s) (rows_in l).current + at)) names lists spare is
      (ap (all_pass is_of_set) entries ∙ all_remove is_of_set (as_rows es) index a.sets.current)
      (ap (λ r. rows_in_lists l.names.list.current l.deques.lists.current ++ r) (entries ∙ ap (λ n. remove (as_rows es) (n + at)) (begins s es)) ∙ sym (set_removed l.names.list.current l.deques.lists.current a.named.kinds (Set s) refl at es)) a

  -- all rows of the set go
  pub set_emptied_is : (m : RowLists) → m.names.list ≡ l.names.list → m.deques.lists ≡ l.deques.lists → m.spare.numbers.items ≡ l.spare.numbers.items → m.sets.list ≡ edited (others_of s l.sets.list.current) l.sets.list
      → AreLists m × (rows_in m ≡ edited (filter (λ row. not (is_at (Set s) row)) (rows_in l).current) (rows_in l))
  set_emptied_is m names lists spare is =
      let es = l.sets.list.current in
      let left = others s es in
      sets_edited l m (others_of s es) (filter (λ row. not (is_at (Set s) row)) (rows_in l).current) names lists spare is
      (ap (all_pass is_of_set) left ∙ all_filter is_of_set (λ row. not (is_at (Set s) row)) (as_rows es) a.sets.current)
      (ap (λ r. rows_in_lists l.names.list.current l.deques.lists.current ++ r) left ∙ sym (set_others l.names.list.current l.deques.lists.current a.named.kinds (Set s) refl es)) a

-- ## Looks

module _ (l : RowLists) (s : Scored) (a : AreLists l) (items : List Item) (own : items ≡ items_of s l.sets.list.current) where
  in_set : rows_at (Set s) (as_rows l.sets.list.current) ≡ map (listed (Set s)) items
  in_set = own_rows s l.sets.list.current ∙ ap (map (listed (Set s))) (sym own)

  in_all : rows_at (Set s) (rows_in l).current ≡ map (listed (Set s)) items
  in_all = set_rows l.names.list.current l.deques.lists.current a.named.kinds (Set s) refl l.sets.list.current ∙ in_set

  pub set_len : (n : ℕ) → n ≡ length items → n ≡ length (rows_at (Set s) (rows_in l).current)
  set_len n is = is ∙ sym (length_map (listed (Set s)) items) ∙ sym (ap length in_all)

  pub set_within : (at : ℕ) → at < length (rows_at (Set s) (rows_in l).current) → at < length items
  set_within at h = let n = set_len (length items) refl in omega (arith, n, h)

  pub set_end : (end : ℕ) → end ≤ length (rows_at (Set s) (rows_in l).current) → end ≤ length items
  set_end end h = let n = set_len (length items) refl in omega (arith, n, h)

  pub set_get : (at : ℕ) (item : Item) → at < length (rows_at (Set s) (rows_in l).current) → item ≡ get_or items at item → slice_get (rows_at (Set s) (rows_in l).current) at ≡ Some (listed (Set s) item)
  set_get at item h is = ap (λ rows. slice_get rows at) in_all ∙ map_get (listed (Set s)) items at item (set_within at h) is

  pub set_position : (t : Row → Bool) (p : ℕ) → p ≡ position_or_len (λ item. t (listed (Set s) item)) items → p ≡ position_or_len t (rows_at (Set s) (rows_in l).current)
  set_position t p is = is ∙ position_map (listed (Set s)) t items ∙ ap (position_or_len t) (sym in_all)

  part : (i j : ℕ) → map (listed (Set s)) (drop i (take j items)) ≡ drop i (take j (rows_at (Set s) (rows_in l).current))
  part i j = part_map (listed (Set s)) items i j ∙ ap (λ rows. drop i (take j rows)) (sym in_all)

  pub set_range : (t : Row → Bool) (i j p : ℕ) → p ≡ i + position_or_len (λ item. t (listed (Set s) item)) (drop i (take j items)) → p ≡ i + position_or_len t (drop i (take j (rows_at (Set s) (rows_in l).current)))
  set_range t i j p is = is ∙ ap (λ n. i + n) (position_map (listed (Set s)) t (drop i (take j items)) ∙ ap (position_or_len t) (part i j))

  pub set_texts : (i j : ℕ) → map (λ item. item.1) (drop i (take j items)) ≡ map (λ row. row.text) (drop i (take j (rows_at (Set s) (rows_in l).current)))
  set_texts i j = sym (map_map (listed (Set s)) (λ row. row.text) (drop i (take j items))) ∙ ap (map (λ row. row.text)) (part i j)

  pub set_pairs : (i j : ℕ) → map (λ item. item) (drop i (take j items)) ≡ map pair_of (drop i (take j (rows_at (Set s) (rows_in l).current)))
  set_pairs i j = sym (map_map (listed (Set s)) pair_of (drop i (take j items))) ∙ ap (map pair_of) (part i j)

  -- the texts of the rows that went
  pub set_gone : texts_of (rows_at (Set s) (rows_in l).current) ≡ map (λ item. item.1) items
  set_gone = ap texts_of in_all ∙ map_map (listed (Set s)) (λ row. row.text) items

  module _ (ordered : is_ordered (as_rows l.sets.list.current) ≡ true) where
    rises : (t : Row → Bool) → is_partitioned t (rows_at (Set s) (as_rows l.sets.list.current)) ≡ true → is_partitioned (λ item. t (listed (Set s) item)) items ≡ true
    rises t h = partitioned_map (listed (Set s)) t items ∙ ap (is_partitioned t) (sym in_set) ∙ h

    pub reached_rises : (low : Bound) → is_partitioned (λ item. not (is_below low item.0)) items ≡ true
    reached_rises low = rises (λ row. not (is_below low row.score)) (partitioned_reached_by low s (as_rows l.sets.list.current) ordered)

    pub above_rises : (high : Bound) → is_partitioned (λ item. is_above high item.0) items ≡ true
    above_rises high = rises (λ row. is_above high row.score) (partitioned_above_of high s (as_rows l.sets.list.current) ordered)

    pub from_rises : (score : ℤ) (text : Bytes) → is_partitioned (λ item. not (is_lt (pair_cmp item (score, text)))) items ≡ true
    from_rises score text = rises (is_from score text) (partitioned_from score text s (as_rows l.sets.list.current) ordered)

    pub behind_rises : (end : Side) (new : Item) → is_partitioned (λ item. not (comes_before end new item)) items ≡ true
    behind_rises end new =
        let t : Row → Bool = λ row. not (stands_before end (listed (Set s) new) row) in
        partitioned_same (λ item. not (comes_before end new item)) (λ item. t (listed (Set s) item)) (λ item. ap not (sym (within_set s end new item))) items
        ∙ rises t (partitioned_behind end (listed (Set s) new) (rows_at (Set s) (as_rows l.sets.list.current)) (ordered_filter (is_at (Set s)) (as_rows l.sets.list.current) ordered))

    found : (t : Row → Bool) (p : ℕ) → p ≡ position_or_len (λ item. t (listed (Set s) item)) items → p ≡ position_or_len t (rows_at (Set s) (as_rows l.sets.list.current))
    found t p is = is ∙ position_map (listed (Set s)) t items ∙ ap (position_or_len t) (sym in_set)

    same : rows_at (Set s) (as_rows l.sets.list.current) ≡ rows_at (Set s) (rows_in l).current
    same = in_set ∙ sym in_all

    pub set_below : (low : Bound) (p : ℕ) → p ≡ position_or_len (λ item. not (is_below low item.0)) items → p ≡ count_by (λ row. is_below low row.score) (rows_at (Set s) (rows_in l).current)
    set_below low p is = found (λ row. not (is_below low row.score)) p is ∙ sym (below_count low s (as_rows l.sets.list.current) ordered) ∙ ap (count_by (λ row. is_below low row.score)) same

    pub set_scores : (low high : Bound) (p q last : ℕ) → p ≡ position_or_len (λ item. not (is_below low item.0)) items → q ≡ position_or_len (λ item. is_above high item.0) items → last ≡ max q p → HasRange low high p last (rows_at (Set s) (rows_in l).current)
    set_scores low high p q last from to is = subst (λ rows. HasRange low high p last rows) same (has_range low high s (as_rows l.sets.list.current) p q last ordered (found (λ row. not (is_below low row.score)) p from) (found (λ row. is_above high row.score) q to) is)
