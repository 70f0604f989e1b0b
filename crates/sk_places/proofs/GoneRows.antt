-- All rows of a place go at once: what holds of the others.
use Rattle.std.proofs.Common.{◌≡◌, ◌+◌, ◌<◌, ◌≤◌, ℕ, ℤ, zero, suc, Bool, true, false, cond, not, List, [], ◌∷◌, drop, filter, length, slice_index_or, refl, sym, arith, ap, subst, ◌∙◌}
use Rattle.std.specs.Prelude.{IfSome}
use Rattle.std.specs.List.{sum_by}
use Rattle.std.specs.declared.cmp.Ordering.TheVariants.{Equal}
use Rattle.std.proofs.lemmas.List.Sums.{sum_by-cons}
use Rattle.sk_resp.specs.Spelling.{Bytes}
use Rattle.std.specs.BTreeMap.{is_at as is_key_at}
use Rattle.std.specs.Ordering.{is_eq}
use Rattle.sk_cmd.specs.declared.argument.Scored.{Scored}
use Rattle.sk_payload.specs.Head.{jid_of, names}
use Rattle.sk_undo.specs.Partitioned.{all_pass}
use Rattle.sk_undo.specs.Versions.{Versions, edited}
use Rattle.sk_table.specs.Counts.{Counts, count_in as job_count}
use Rattle.sk_table.proofs.Ordered.{IsUp}
use Rattle.sk_places.specs.declared.row.Place.{Place}
use Rattle.sk_places.specs.declared.row.Place.TheVariants.{Queue, Private, Set}
use Rattle.sk_places.specs.declared.row.Row.{Row}
use Rattle.sk_places.specs.declared.row_lists.RowLists.{RowLists}
use Rattle.sk_places.specs.declared.rows.Size.{Size}
use Rattle.sk_places.specs.Ends.{texts_of}
use Rattle.sk_places.specs.GoneRows.{bytes_in, is_in, other_keys, without_jobs}
use Rattle.sk_places.specs.Index.{AreSound, IsIndex, IsSound, without_job}
use Rattle.sk_places.specs.LiveJobs.{one_if}
use Rattle.sk_places.specs.Order.{RowInvariant, bytes_of, is_short}
use Rattle.sk_places.specs.PlaceOrder.{same_place}
use Rattle.sk_places.specs.RowLists.{AreLists, is_list, rows_in}
use Rattle.sk_places.specs.Rows.{is_at, place_cmp, rows_at, rows_of}
use Rattle.sk_places.specs.TextIndex.{AreTextsIndexed, IsTextIndex, count_in, is_key, key_at, key_of, rows_with}
use Rattle.sk_places.specs.TextKey.{Key, key_cmp, key_in}
use Rattle.sk_places.proofs.Indexed.{index_edited, named, rows_more, up_without_job, without_counts}
use Rattle.sk_places.proofs.Rising.{all_at, all_filter, ordered_filter}
use Rattle.sk_places.proofs.TextIndexed.{count_first, no_key, rows_more as keys_more, same_key}

-- ## Those that go, and the others

module _ (t : Row → Bool) where
  sum_parted : (f : Row → ℕ) (rows : List Row) → sum_by f (filter (λ row. not (t row)) rows) + sum_by f (filter t rows) ≡ sum_by f rows
  sum_parted f [] = refl
  sum_parted f (row ∷ rows) = by (t row) refl (sum_parted f rows)
    where
      by : (b : Bool) → t row ≡ b → sum_by f (filter (λ r. not (t r)) rows) + sum_by f (filter t rows) ≡ sum_by f rows → sum_by f (filter (λ r. not (t r)) (row ∷ rows)) + sum_by f (filter t (row ∷ rows)) ≡ sum_by f (row ∷ rows)
      by true e again =
          let a : filter (λ r. not (t r)) (row ∷ rows) ≡ filter (λ r. not (t r)) rows = grind (arith, e) in
          let b : filter t (row ∷ rows) ≡ row ∷ filter t rows = grind (arith, e) in
          let x = ap (sum_by f) a in
          let y = ap (sum_by f) b ∙ sum_by-cons f row (filter t rows) in
          let z = sum_by-cons f row rows in
          omega (arith, x, y, z, again)
      by false e again =
          let a : filter (λ r. not (t r)) (row ∷ rows) ≡ row ∷ filter (λ r. not (t r)) rows = grind (arith, e) in
          let b : filter t (row ∷ rows) ≡ filter t rows = grind (arith, e) in
          let x = ap (sum_by f) a ∙ sum_by-cons f row (filter (λ r. not (t r)) rows) in
          let y = ap (sum_by f) b in
          let z = sum_by-cons f row rows in
          omega (arith, x, y, z, again)

  length_parted : (rows : List Row) → length (filter (λ row. not (t row)) rows) + length (filter t rows) ≡ length rows
  length_parted [] = refl
  length_parted (row ∷ rows) = by (t row) refl (length_parted rows)
    where
      by : (b : Bool) → t row ≡ b → length (filter (λ r. not (t r)) rows) + length (filter t rows) ≡ length rows → length (filter (λ r. not (t r)) (row ∷ rows)) + length (filter t (row ∷ rows)) ≡ length (row ∷ rows)
      by true e again =
          let x : length (filter (λ r. not (t r)) (row ∷ rows)) ≡ length (filter (λ r. not (t r)) rows) = grind (arith, e) in
          let y : length (filter t (row ∷ rows)) ≡ length (row ∷ filter t rows) = grind (arith, e) in
          omega (arith, x, y, again)
      by false e again =
          let x : length (filter (λ r. not (t r)) (row ∷ rows)) ≡ length (row ∷ filter (λ r. not (t r)) rows) = grind (arith, e) in
          let y : length (filter t (row ∷ rows)) ≡ length (filter t rows) = grind (arith, e) in
          omega (arith, x, y, again)

  -- none goes
  pub all_stay : (rows : List Row) → filter t rows ≡ [] → filter (λ row. not (t row)) rows ≡ rows
  all_stay [] h = refl
  all_stay (row ∷ rows) h = by (t row) refl (all_stay rows)
    where
      by : (b : Bool) → t row ≡ b → (filter t rows ≡ [] → filter (λ r. not (t r)) rows ≡ rows) → filter (λ r. not (t r)) (row ∷ rows) ≡ row ∷ rows
      by true e again = let b : filter t (row ∷ rows) ≡ row ∷ filter t rows = grind (arith, e) in absurd (cc (sym b ∙ h))
      by false e again =
          let a : filter (λ r. not (t r)) (row ∷ rows) ≡ row ∷ filter (λ r. not (t r)) rows = grind (arith, e) in
          let b : filter t (row ∷ rows) ≡ filter t rows = grind (arith, e) in
          a ∙ ap (λ l. row ∷ l) (again (sym b ∙ h))

-- ## The index of jobs

up_all : (texts : List Bytes) (index : Counts) → IsUp index → IsUp (without_jobs texts index)
up_all [] index up = up
up_all (text ∷ texts) index up = up_all texts (without_job (jid_of text) index) (up_without_job (jid_of text) index up)

without_all : (rows : List Row) (jid : Bytes) (index : Counts) → IsUp index → ((other : Bytes) → rows_of other rows ≤ job_count other index) → job_count jid (without_jobs (texts_of rows) index) + rows_of jid rows ≡ job_count jid index
without_all [] jid index up enough = omega arith
without_all (row ∷ rows) jid index up enough =
    let there : (other : Bytes) → named (jid_of row.text) other + 0 ≡ 1 → 0 < job_count other index = λ other h. let m = rows_more other row rows in let e = enough other in omega (arith, m, e, h) in
    let less : (other : Bytes) → rows_of other rows ≤ job_count other (without_job (jid_of row.text) index) = λ other. let w = without_counts (jid_of row.text) other index up there in let m = rows_more other row rows in let e = enough other in omega (arith, w, m, e) in
    let w = without_counts (jid_of row.text) jid index up there in
    let m = rows_more jid row rows in
    let again = without_all rows jid (without_job (jid_of row.text) index) (up_without_job (jid_of row.text) index up) less in
    omega (arith, w, m, again)

index_without : (t : Row → Bool) (rows : List Row) (index : Counts) → IsIndex rows index → IsIndex (filter (λ row. not (t row)) rows) (without_jobs (texts_of (filter t rows)) index)
index_without t rows index i = record {
  counts = λ jid.
      let enough : (other : Bytes) → rows_of other (filter t rows) ≤ job_count other index = λ other. let s = sum_parted t (λ r. one_if (names r.text other)) rows in let c = i.counts other in omega (arith, s, c) in
      let w = without_all (filter t rows) jid index i.ordered enough in
      let s = sum_parted t (λ r. one_if (names r.text jid)) rows in
      let c = i.counts jid in
      omega (arith, w, s, c);
  ordered = up_all (texts_of (filter t rows)) index i.ordered;
}

-- ## Their order and their bytes

kept_without : (t : Row → Bool) (rows : List Row) (bytes less : ℕ) → RowInvariant rows bytes → less + bytes_of (filter t rows) ≡ bytes → RowInvariant (filter (λ row. not (t row)) rows) less
kept_without t rows bytes less k e = record {
  ordered = ordered_filter (λ row. not (t row)) rows k.ordered;
  short = all_filter is_short (λ row. not (t row)) rows k.short;
  sum = (let s = sum_parted t (λ row. length row.text) rows in omega (arith, s, e, k.sum));
}

-- ## The index of texts

no_keys : (key : Key) (place : Place) (rows : List Row) → is_list place ≡ true → all_pass (is_at place) rows ≡ true → rows_with key rows ≡ 0
no_keys key place [] list h = refl
no_keys key place (row ∷ rows) list h =
    let equal : place_cmp place row.place ≡ Equal = grind (arith, h) in
    let here : is_list row.place ≡ true = ap is_list (sym (same_place place row.place equal)) ∙ list in
    let none = ap (λ k. is_key k key) (no_key row.place row.score row.text here) in
    let m = keys_more key row rows in
    let again = no_keys key place rows list (grind (arith, h)) in
    omega (arith, none, m, again)

list_without : (place : Place) (rows : List Row) (keys : List Key) → is_list place ≡ true → IsTextIndex rows keys → IsTextIndex (filter (λ row. not (is_at place row)) rows) keys
list_without place rows keys list i = record {
  counts = λ key.
      let none = no_keys key place (rows_at place rows) list (all_at place rows) in
      let s = sum_parted (is_at place) (λ r. is_key (key_of r) key) rows in
      let c = i.counts key in
      omega (arith, none, s, c);
}

either : (b : Bool) (n : ℕ) → n ≡ cond b n n
either true n = refl
either false n = refl

-- how often a key is among those of other sets
others_counted : (set : Scored) (key : Key) (keys : List Key) → count_in key (filter (λ k. not (is_in set k)) keys) ≡ cond (is_in set key) 0 (count_in key keys)
others_counted set key [] = either (is_in set key) 0
others_counted set key (first ∷ keys) = by (is_in set first) (is_key_at (key_cmp key) first) (is_in set key) refl refl refl (others_counted set key keys)
  where
    by : (a b c : Bool) → is_in set first ≡ a → is_key_at (key_cmp key) first ≡ b → is_in set key ≡ c → count_in key (filter (λ k. not (is_in set k)) keys) ≡ cond (is_in set key) 0 (count_in key keys)
        → count_in key (filter (λ k. not (is_in set k)) (first ∷ keys)) ≡ cond (is_in set key) 0 (count_in key (first ∷ keys))
    by true true c a_is b_is c_is again =
        let same : is_in set key ≡ true = ap (is_in set) (same_key key first b_is) ∙ a_is in
        let f : filter (λ k. not (is_in set k)) (first ∷ keys) ≡ filter (λ k. not (is_in set k)) keys = grind (arith, a_is) in
        ap (count_in key) f ∙ again ∙ ap (λ t. cond t 0 (count_in key keys)) same ∙ sym (ap (λ t. cond t 0 (count_in key (first ∷ keys))) same)
    by true false true a_is b_is c_is again =
        let f : filter (λ k. not (is_in set k)) (first ∷ keys) ≡ filter (λ k. not (is_in set k)) keys = grind (arith, a_is) in
        ap (count_in key) f ∙ again ∙ ap (λ t. cond t 0 (count_in key keys)) c_is ∙ sym (ap (λ t. cond t 0 (count_in key (first ∷ keys))) c_is)
    by true false false a_is b_is c_is again =
        let f : filter (λ k. not (is_in set k)) (first ∷ keys) ≡ filter (λ k. not (is_in set k)) keys = grind (arith, a_is) in
        let n = count_first key first keys in
        let z = ap one_if b_is in
        let m : count_in key keys ≡ count_in key (first ∷ keys) = omega (arith, n, z) in
        ap (count_in key) f ∙ again ∙ ap (λ t. cond t 0 (count_in key keys)) c_is ∙ m ∙ sym (ap (λ t. cond t 0 (count_in key (first ∷ keys))) c_is)
    by false true c a_is b_is c_is again =
        let same : is_in set key ≡ false = ap (is_in set) (same_key key first b_is) ∙ a_is in
        let f : filter (λ k. not (is_in set k)) (first ∷ keys) ≡ first ∷ filter (λ k. not (is_in set k)) keys = grind (arith, a_is) in
        let n = count_first key first keys in
        let o = count_first key first (filter (λ k. not (is_in set k)) keys) in
        let later = again ∙ ap (λ t. cond t 0 (count_in key keys)) same in
        let m : count_in key (first ∷ filter (λ k. not (is_in set k)) keys) ≡ count_in key (first ∷ keys) = omega (arith, n, o, later) in
        ap (count_in key) f ∙ m ∙ sym (ap (λ t. cond t 0 (count_in key (first ∷ keys))) same)
    by false false true a_is b_is c_is again =
        let f : filter (λ k. not (is_in set k)) (first ∷ keys) ≡ first ∷ filter (λ k. not (is_in set k)) keys = grind (arith, a_is) in
        let o = count_first key first (filter (λ k. not (is_in set k)) keys) in
        let z = ap one_if b_is in
        let later = again ∙ ap (λ t. cond t 0 (count_in key keys)) c_is in
        let m : count_in key (first ∷ filter (λ k. not (is_in set k)) keys) ≡ 0 = omega (arith, o, z, later) in
        ap (count_in key) f ∙ m ∙ sym (ap (λ t. cond t 0 (count_in key (first ∷ keys))) c_is)
    by false false false a_is b_is c_is again =
        let f : filter (λ k. not (is_in set k)) (first ∷ keys) ≡ first ∷ filter (λ k. not (is_in set k)) keys = grind (arith, a_is) in
        let n = count_first key first keys in
        let o = count_first key first (filter (λ k. not (is_in set k)) keys) in
        let z = ap one_if b_is in
        let later = again ∙ ap (λ t. cond t 0 (count_in key keys)) c_is in
        let m : count_in key (first ∷ filter (λ k. not (is_in set k)) keys) ≡ count_in key (first ∷ keys) = omega (arith, n, o, z, later) in
        ap (count_in key) f ∙ m ∙ sym (ap (λ t. cond t 0 (count_in key (first ∷ keys))) c_is)

-- a row with the key is at the key's set
key_here : (set : Scored) (key : Key) (place : Place) (score : ℤ) (text : Bytes) → 0 < is_key (key_at place score text) key → is_in set key ≡ is_eq (place_cmp (Set set) place)
key_here set key (Queue queue) score text h = absurd (omega (arith, h))
key_here set key (Private ident) score text h = absurd (omega (arith, h))
key_here set key (Set other) score text h = by (is_key_at (key_cmp key) (key_in other text score)) refl
  where
    by : (b : Bool) → is_key_at (key_cmp key) (key_in other text score) ≡ b → is_in set key ≡ is_in set (key_in other text score)
    by true e = ap (is_in set) (same_key key (key_in other text score) e)
    by false e = let z = ap one_if e in absurd (omega (arith, h, z))

rows_others : (set : Scored) (key : Key) (rows : List Row) → rows_with key (filter (λ row. not (is_at (Set set) row)) rows) ≡ cond (is_in set key) 0 (rows_with key rows)
rows_others set key [] = either (is_in set key) 0
rows_others set key (row ∷ rows) = by (is_at (Set set) row) (is_in set key) refl refl (is_key (key_of row) key) refl (rows_others set key rows)
  where
    rest : List Row
    rest = filter (λ r. not (is_at (Set set) r)) rows

    gone : is_at (Set set) row ≡ true → filter (λ r. not (is_at (Set set) r)) (row ∷ rows) ≡ rest
    gone a = grind (arith, a)

    stays : is_at (Set set) row ≡ false → filter (λ r. not (is_at (Set set) r)) (row ∷ rows) ≡ row ∷ rest
    stays a = grind (arith, a)

    by : (a c : Bool) → is_at (Set set) row ≡ a → is_in set key ≡ c → (n : ℕ) → is_key (key_of row) key ≡ n → rows_with key rest ≡ cond (is_in set key) 0 (rows_with key rows)
        → rows_with key (filter (λ r. not (is_at (Set set) r)) (row ∷ rows)) ≡ cond (is_in set key) 0 (rows_with key (row ∷ rows))
    by true true a_is c_is n n_is again =
        let later = again ∙ ap (λ t. cond t 0 (rows_with key rows)) c_is in
        ap (rows_with key) (gone a_is) ∙ later ∙ sym (ap (λ t. cond t 0 (rows_with key (row ∷ rows))) c_is)
    by true false a_is c_is zero n_is again =
        let later = again ∙ ap (λ t. cond t 0 (rows_with key rows)) c_is in
        let m = keys_more key row rows in
        let same : rows_with key rows ≡ rows_with key (row ∷ rows) = omega (arith, m, n_is) in
        ap (rows_with key) (gone a_is) ∙ later ∙ same ∙ sym (ap (λ t. cond t 0 (rows_with key (row ∷ rows))) c_is)
    by true false a_is c_is (suc n) n_is again = absurd (let e = key_here set key row.place row.score row.text (omega (arith, n_is)) in cc (sym c_is ∙ e ∙ a_is))
    by false true a_is c_is zero n_is again =
        let later = again ∙ ap (λ t. cond t 0 (rows_with key rows)) c_is in
        let m = keys_more key row rest in
        let none : rows_with key (row ∷ rest) ≡ 0 = omega (arith, m, n_is, later) in
        ap (rows_with key) (stays a_is) ∙ none ∙ sym (ap (λ t. cond t 0 (rows_with key (row ∷ rows))) c_is)
    by false true a_is c_is (suc n) n_is again = absurd (let e = key_here set key row.place row.score row.text (omega (arith, n_is)) in cc (sym c_is ∙ e ∙ a_is))
    by false false a_is c_is n n_is again =
        let later = again ∙ ap (λ t. cond t 0 (rows_with key rows)) c_is in
        let m = keys_more key row rest in
        let o = keys_more key row rows in
        let same : rows_with key (row ∷ rest) ≡ rows_with key (row ∷ rows) = omega (arith, m, o, later) in
        ap (rows_with key) (stays a_is) ∙ same ∙ sym (ap (λ t. cond t 0 (rows_with key (row ∷ rows))) c_is)

texts_without : (place : Place) (rows : List Row) (keys : List Key) → IsTextIndex rows keys → IsTextIndex (filter (λ row. not (is_at place row)) rows) (other_keys place keys)
texts_without (Queue queue) rows keys i = list_without (Queue queue) rows keys refl i
texts_without (Private ident) rows keys i = list_without (Private ident) rows keys refl i
texts_without (Set set) rows keys i = record { counts = λ key. others_counted set key keys ∙ ap (cond (is_in set key) 0) (i.counts key) ∙ sym (rows_others set key rows) }

-- ## What the caller has of them

bytes_same : (rows : List Row) → bytes_of rows ≡ bytes_in (texts_of rows)
bytes_same [] = refl
bytes_same (row ∷ rows) =
    let a = sum_by-cons (λ r. length r.text) row rows in
    let b = sum_by-cons length row.text (texts_of rows) in
    let again = bytes_same rows in
    omega (arith, a, b, again)

length_same : (rows : List Row) → length rows ≡ length (texts_of rows)
length_same [] = refl
length_same (row ∷ rows) = ap suc (length_same rows)

module _ (l : RowLists) (size size_then : Size) (jobs : Versions Counts) (keys : Versions (List Key)) (sound : IsSound l size size_then jobs keys) (place : Place) (texts : List Bytes) (own : texts_of (rows_at place (rows_in l).current) ≡ texts) where
  abbrev others : List Row
  others = filter (λ row. not (is_at place row)) (rows_in l).current

  gone_bytes : bytes_of (rows_at place (rows_in l).current) ≡ bytes_in texts
  gone_bytes = bytes_same (rows_at place (rows_in l).current) ∙ ap bytes_in own

  gone_length : length (rows_at place (rows_in l).current) ≡ length texts
  gone_length = length_same (rows_at place (rows_in l).current) ∙ ap length own

  pub enough_rows : length texts ≤ size.rows
  enough_rows = let n = length_parted (is_at place) (rows_in l).current in let g = gone_length in let c = sound.count in omega (arith, n, g, c)

  pub enough_bytes : bytes_in texts ≤ size.bytes
  enough_bytes = let n = sum_parted (is_at place) (λ row. length row.text) (rows_in l).current in let g = gone_bytes in let s = sound.sound.kept.sum in omega (arith, n, g, s)

  pub gone_sound : (m : RowLists) (less : Size) (after : Versions Counts) (left : Versions (List Key)) → AreLists m → rows_in m ≡ edited others (rows_in l) → less.rows + length texts ≡ size.rows → less.bytes + bytes_in texts ≡ size.bytes → after ≡ edited (without_jobs texts jobs.current) jobs → left ≡ edited (other_keys place keys.current) keys → IsSound m less size_then after left
  gone_sound m less after left lists rows count bytes index others_left =
      let now : edited (without_jobs (texts_of (rows_at place (rows_in l).current)) jobs.current) jobs ≡ after = ap (λ ts. edited (without_jobs ts jobs.current) jobs) own ∙ sym index in
      record {
        lists = lists;
        sound = subst (λ r. AreSound r less.bytes size_then.bytes after) (sym rows) (subst (AreSound (edited others (rows_in l)) less.bytes size_then.bytes) now (record {
          kept = kept_without (is_at place) (rows_in l).current size.bytes less.bytes sound.sound.kept (let g = gone_bytes in omega (arith, g, bytes));
          was_kept = sound.sound.was_kept;
          index = index_edited (rows_in l) jobs _ _ sound.sound.index (index_without (is_at place) (rows_in l).current jobs.current sound.sound.index.current);
        }));
        texts = subst (λ r. AreTextsIndexed r left) (sym rows) (subst (AreTextsIndexed (edited others (rows_in l))) (sym others_left) (record { current = texts_without place (rows_in l).current keys.current sound.texts.current; saved = sound.texts.saved }));
        count = (let n = length_parted (is_at place) (rows_in l).current in let g = gone_length in let c = sound.count in let e = ap (λ (r : Versions (List Row)). length r.current) rows in omega (arith, n, g, c, e, count));
        few = (let f = sound.few in omega (arith, f, count));
        was_count = subst (λ (r : Versions (List Row)). IfSome r.saved (λ were. size_then.rows ≡ length were)) (sym rows) sound.was_count;
        was_few = sound.was_few;
      }

-- ## One after another

text_next : (texts : List Bytes) (at : ℕ) (text : Bytes) → at < length texts → text ≡ slice_index_or texts at text → drop at texts ≡ text ∷ drop (suc at) texts
text_next [] at text h e = absurd (omega (arith, h))
text_next (x ∷ texts) zero text h e = ap (λ y. y ∷ texts) (sym e)
text_next (x ∷ texts) (suc at) text h e = text_next texts at text (omega (arith, h)) e

pub next_text : (texts : List Bytes) (at : ℕ) (text : Bytes) → at < length texts → text ≡ slice_index_or texts at text → drop at texts ≡ text ∷ drop (at + 1) texts
next_text texts at text h e = let n : suc at ≡ at + 1 = omega arith in text_next texts at text h e ∙ ap (λ k. text ∷ drop k texts) n

pub none_left : (texts : List Bytes) (at : ℕ) → length texts ≤ at → drop at texts ≡ []
none_left [] zero h = refl
none_left [] (suc at) h = refl
none_left (x ∷ texts) zero h = absurd (omega (arith, h))
none_left (x ∷ texts) (suc at) h = none_left texts at (omega (arith, h))
