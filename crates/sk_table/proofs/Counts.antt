-- Counts, and the entries that they are kept as.
use Rattle.std.proofs.Common.{◌≡◌, ◌+◌, ◌-◌, ◌<◌, ◌≤◌, ℕ, zero, suc, Bool, true, false, cond, not, ◌&&◌, List, [], ◌∷◌, ◌++◌, Option, Some, None, length, map, nat_eq, nat_lt, option_map, slice_index_or, take, refl, sym, ap, subst, ◌∙◌, true≢false, arith}
use Rattle.std.specs.Prelude.{filter}
use Rattle.std.specs.BTreeMap.{is_at}
use Rattle.std.specs.List.{AllByRecursion, list_any}
use Rattle.std.specs.List.Sorted.{IsStrictlySortedBy}
use Rattle.std.specs.Map.{keys_of, set_value}
use Rattle.std.specs.Option.{is_some, unwrap_or}
use Rattle.std.specs.Ordering.{is_eq, match_ordering}
use Rattle.std.specs.declared.cmp.Ordering.{Ordering}
use Rattle.std.specs.declared.cmp.Ordering.TheVariants.{Less, Equal, Greater}
use Rattle.std.proofs.lemmas.Bool.Decides.{nat_tests}
use Rattle.sk_resp.specs.Spelling.{Bytes}
use Rattle.sk_resp.specs.WordOrder.{text_cmp}
use Rattle.sk_table.specs.Counts.{Counts, count_in, counted, is_among, len_after, rewound, with_count}
use Rattle.sk_table.specs.CountsInvariant.{AreThere, Keeps}
use Rattle.sk_table.specs.Entries.{at, with_text, without_text}
use Rattle.sk_table.specs.declared.logged.Logged.{Logged}
use Rattle.sk_table.proofs.Ordered.{IsUp, at_itself, at_set, at_with, at_without, none_before, none_behind, nothing_without, same_entries, same_text, up_set, up_with, up_without}

-- ## What counts

abbrev pub some_unless_0 : ℕ → Option ℕ
some_unless_0 n = cond (nat_eq n 0) None (Some n)

abbrev pub kept : Option ℕ → Option ℕ
kept None = None
kept (Some n) = some_unless_0 n

all_counted : (P : Bytes → Type 0) (t : Counts) → AllByRecursion P (keys_of t) → AllByRecursion P (keys_of (counted t))
all_counted P [] h = tt
all_counted P (first ∷ rest) h = by_test (nat_eq first.1 0) (all_counted P rest h.1)
  where
    by_test : (b : Bool) → AllByRecursion P (keys_of (counted rest)) → AllByRecursion P (keys_of (cond (not b) (first ∷ counted rest) (counted rest)))
    by_test true more = more
    by_test false more = (h.0, more)

pub up_counted : (t : Counts) → IsUp t → IsUp (counted t)
unfolding IsStrictlySortedBy
up_counted [] up = tt
up_counted (first ∷ rest) up = by_test (nat_eq first.1 0) (up_counted rest up.1)
  where
    by_test : (b : Bool) → IsUp (counted rest) → IsUp (cond (not b) (first ∷ counted rest) (counted rest))
    by_test true more = more
    by_test false more = (all_counted (λ other. text_cmp first.0 other ≡ Less) rest up.0, more)

up_rest : (first : Bytes × ℕ) (rest : Counts) → IsUp (first ∷ rest) → IsUp rest
unfolding IsStrictlySortedBy
up_rest first rest up = up.1

pub at_counted : (x : Bytes) (t : Counts) → IsUp t → at x (counted t) ≡ kept (at x t)
at_counted x [] up = refl
at_counted x (first ∷ rest) up = by_text (is_at (text_cmp x) first.0) refl (at_counted x rest (up_rest first rest up))
  where
    goal_at : Bool → Bool → Type 0
    goal_at here none = at x (cond (not none) (first ∷ counted rest) (counted rest)) ≡ kept (cond here (Some first.1) (at x rest))

    by_text : (b : Bool) → is_at (text_cmp x) first.0 ≡ b → at x (counted rest) ≡ kept (at x rest) → at x (counted (first ∷ rest)) ≡ kept (at x (first ∷ rest))
    by_text true here more =
        let behind : at x rest ≡ None = ap (λ t. at t rest) (same_text x first.0 here) ∙ none_behind first rest up in
        by_count (nat_eq first.1 0) refl behind
      where
        by_count : (b : Bool) → nat_eq first.1 0 ≡ b → at x rest ≡ None → at x (counted (first ∷ rest)) ≡ kept (at x (first ∷ rest))
        by_count true none behind = grind (arith, here, none, behind, more)
        by_count false none behind = grind (arith, here, none)
    by_text false here more = by_count (nat_eq first.1 0) refl
      where
        by_count : (b : Bool) → nat_eq first.1 0 ≡ b → at x (counted (first ∷ rest)) ≡ kept (at x (first ∷ rest))
        by_count true none = grind (arith, here, none, more)
        by_count false none = grind (arith, here, none, more)

pub alike : (t u : Counts) → IsUp t → IsUp u → ((x : Bytes) → kept (at x t) ≡ kept (at x u)) → counted t ≡ counted u
alike t u up down same = same_entries _ _ (up_counted t up) (up_counted u down) (λ x. at_counted x t up ∙ same x ∙ sym (at_counted x u down))

-- ## So many under a text

pub up_count : (text : Bytes) (n : ℕ) (c : Counts) → IsUp c → IsUp (with_count text n c)
up_count text n c up = by_test (nat_eq n 0)
  where
    by_test : (b : Bool) → IsUp (cond b (without_text text c) (with_text text n c))
    by_test true = up_without text c up
    by_test false = up_with text n c up

pub at_count : (text x : Bytes) (n : ℕ) (c : Counts) → IsUp c → at x (with_count text n c) ≡ cond (is_at (text_cmp text) x) (some_unless_0 n) (at x c)
at_count text x n c up = by_test (nat_eq n 0)
  where
    by_test : (b : Bool) → at x (cond b (without_text text c) (with_text text n c)) ≡ cond (is_at (text_cmp text) x) (cond b None (Some n)) (at x c)
    by_test true = at_without text x c up
    by_test false = at_with text x n c

kept_cond : (b : Bool) (o p : Option ℕ) → kept (cond b o p) ≡ cond b (kept o) (kept p)
kept_cond true o p = refl
kept_cond false o p = refl

-- another count in an entry
pub counted_set : (text : Bytes) (n m : ℕ) (t : Counts) → IsUp t → at text t ≡ Some m → counted (set_value (is_at (text_cmp text)) t n) ≡ with_count text n (counted t)
counted_set text n m t up there = same_entries _ _ (up_counted _ (up_set text n t up)) (up_count text n (counted t) (up_counted t up)) (λ x.
    at_counted x (set_value (is_at (text_cmp text)) t n) (up_set text n t up)
    ∙ ap kept (at_set text x n t ∙ ap (λ o. cond (is_at (text_cmp text) x) (option_map (λ _. n) o) (at x t)) there)
    ∙ kept_cond (is_at (text_cmp text) x) (Some n) (at x t)
    ∙ ap (cond (is_at (text_cmp text) x) (some_unless_0 n)) (sym (at_counted x t up))
    ∙ sym (at_count text x n (counted t) (up_counted t up)))

none_at : (text x : Bytes) (o : Option ℕ) (t : Counts) → kept o ≡ kept (at text t) → kept (cond (is_at (text_cmp text) x) o (at x t)) ≡ kept (at x t)
none_at text x o t none = by_test (is_at (text_cmp text) x) refl
  where
    by_test : (b : Bool) → is_at (text_cmp text) x ≡ b → kept (cond b o (at x t)) ≡ kept (at x t)
    by_test true here = none ∙ ap (λ y. kept (at y t)) (same_text text x here)
    by_test false here = refl

-- an entry that counts none
pub counted_enter : (text : Bytes) (t : Counts) → IsUp t → at text t ≡ None → counted (with_text text 0 t) ≡ counted t
counted_enter text t up none = alike (with_text text 0 t) t (up_with text 0 t up) up (λ x. ap kept (at_with text x 0 t) ∙ none_at text x (Some 0) t (ap kept (sym none)))

-- goes, or comes
pub counted_dropped : (text : Bytes) (t : Counts) → IsUp t → at text t ≡ Some 0 → counted (without_text text t) ≡ counted t
counted_dropped text t up none = alike (without_text text t) t (up_without text t up) up (λ x. ap kept (at_without text x t up) ∙ none_at text x None t (ap kept (sym none)))

-- an entry goes
pub counted_taken : (text : Bytes) (t : Counts) → IsUp t → counted (without_text text t) ≡ with_count text 0 (counted t)
counted_taken text t up = same_entries _ _ (up_counted _ (up_without text t up)) (up_count text 0 (counted t) (up_counted t up)) (λ x.
    at_counted x (without_text text t) (up_without text t up)
    ∙ ap kept (at_without text x t up)
    ∙ kept_cond (is_at (text_cmp text) x) None (at x t)
    ∙ ap (cond (is_at (text_cmp text) x) None) (sym (at_counted x t up))
    ∙ sym (at_count text x 0 (counted t) (up_counted t up)))

kept_count : (o : Option ℕ) → some_unless_0 (unwrap_or (kept o) 0) ≡ kept o
kept_count None = refl
kept_count (Some n) = by_test (nat_eq n 0) refl
  where
    by_test : (b : Bool) → nat_eq n 0 ≡ b → some_unless_0 (unwrap_or (cond b None (Some n)) 0) ≡ cond b None (Some n)
    by_test true e = refl
    by_test false e = ap (λ b. cond b None (Some n)) e

-- as many as there were
pub count_same : (text : Bytes) (t : Counts) → IsUp t → with_count text (count_in text (counted t)) (counted t) ≡ counted t
count_same text t up = same_entries _ _ (up_count text (count_in text (counted t)) (counted t) up') up' (λ x. at_count text x (count_in text (counted t)) (counted t) up' ∙ by_test x (is_at (text_cmp text) x) refl)
  where
    up' : IsUp (counted t)
    up' = up_counted t up

    by_test : (x : Bytes) (b : Bool) → is_at (text_cmp text) x ≡ b → cond b (some_unless_0 (count_in text (counted t))) (at x (counted t)) ≡ at x (counted t)
    by_test x true here = ap (λ o. some_unless_0 (unwrap_or o 0)) (at_counted text t up) ∙ kept_count (at text t) ∙ sym (at_counted text t up) ∙ ap (λ y. at y (counted t)) (same_text text x here)
    by_test x false here = refl

count_kept : (o : Option ℕ) → unwrap_or (kept o) 0 ≡ unwrap_or o 0
count_kept None = refl
count_kept (Some n) = by_test (nat_eq n 0) refl
  where
    by_test : (b : Bool) → nat_eq n 0 ≡ b → unwrap_or (cond b None (Some n)) 0 ≡ n
    by_test true e = grind (arith, e)
    by_test false e = refl

-- what an entry counts is what its text counts
pub count_is : (text : Bytes) (t : Counts) → IsUp t → count_in text (counted t) ≡ count_in text t
count_is text t up = ap (λ o. unwrap_or o 0) (at_counted text t up) ∙ count_kept (at text t)

-- what an entry counts tells whether its text counts
pub is_some_kept : (n : ℕ) (text : Bytes) (t : Counts) → IsUp t → Some n ≡ at text t → nat_lt 0 n ≡ is_some (at text (counted t))
is_some_kept n text t up there = by_test (nat_eq n 0) refl ∙ ap (λ o. is_some (kept o)) there ∙ ap is_some (sym (at_counted text t up))
  where
    by_test : (b : Bool) → nat_eq n 0 ≡ b → nat_lt 0 n ≡ is_some (cond (nat_eq n 0) None (Some n))
    by_test true e = grind (arith, nat_tests, e)
    by_test false e = grind (arith, nat_tests, e)

some_kept : (o : Option ℕ) → is_some (kept o) ≡ not (nat_eq (unwrap_or (kept o) 0) 0)
some_kept None = refl
some_kept (Some n) = by_test (nat_eq n 0) refl
  where
    by_test : (b : Bool) → nat_eq n 0 ≡ b → is_some (cond b None (Some n)) ≡ not (nat_eq (unwrap_or (cond b None (Some n)) 0) 0)
    by_test true e = refl
    by_test false e = sym (ap not e)

-- none counts 0
pub some_counts_some : (text : Bytes) (t : Counts) → IsUp t → is_some (at text (counted t)) ≡ not (nat_eq (count_in text (counted t)) 0)
some_counts_some text t up = ap is_some (at_counted text t up) ∙ some_kept (at text t) ∙ ap (λ o. not (nat_eq (unwrap_or o 0) 0)) (sym (at_counted text t up))

-- ## How many texts count

length_with : (text : Bytes) (n : ℕ) (c : Counts) → IsUp c → length (with_text text n c) ≡ length c + cond (is_some (at text c)) 0 1
length_with text n [] up = refl
length_with text n (first ∷ rest) up = by_order (text_cmp text first.0) refl (length_with text n rest (up_rest first rest up))
  where
    by_order : (o : Ordering) → text_cmp text first.0 ≡ o → length (with_text text n rest) ≡ length rest + cond (is_some (at text rest)) 0 1
        → length (match_ordering o ((text, n) ∷ first ∷ rest) ((first.0, n) ∷ rest) (first ∷ with_text text n rest)) ≡ suc (length rest) + cond (is_some (at text (first ∷ rest))) 0 1
    by_order Less e more = let none = none_before first rest text up e in grind (arith, none)
    by_order Equal e more = let here : is_at (text_cmp text) first.0 ≡ true = ap is_eq e in grind (arith, here)
    by_order Greater e more = let past : is_at (text_cmp text) first.0 ≡ false = ap is_eq e in grind (arith, past, more)

pub length_without : (text : Bytes) (c : Counts) → length (without_text text c) + cond (is_some (at text c)) 1 0 ≡ length c
length_without text [] = refl
length_without text (first ∷ rest) = by_test (is_at (text_cmp text) first.0) refl (length_without text rest)
  where
    by_test : (b : Bool) → is_at (text_cmp text) first.0 ≡ b → length (without_text text rest) + cond (is_some (at text rest)) 1 0 ≡ length rest → length (without_text text (first ∷ rest)) + cond (is_some (at text (first ∷ rest))) 1 0 ≡ length (first ∷ rest)
    by_test true here more = grind (arith, here)
    by_test false here more = grind (arith, here, more)

pub length_count : (text : Bytes) (n : ℕ) (t : Counts) → IsUp t → length (with_count text n (counted t)) ≡ len_after (length (counted t)) (count_in text (counted t)) n
length_count text n t up =
    let some = some_counts_some text t up in
    let more = length_with text n (counted t) (up_counted t up) in
    let less = length_without text (counted t) in
    by_tests (nat_eq n 0) (nat_eq (count_in text (counted t)) 0) refl refl some more less
  where
    by_tests : (a b : Bool) → nat_eq n 0 ≡ a → nat_eq (count_in text (counted t)) 0 ≡ b → is_some (at text (counted t)) ≡ not (nat_eq (count_in text (counted t)) 0)
        → length (with_text text n (counted t)) ≡ length (counted t) + cond (is_some (at text (counted t))) 0 1 → length (without_text text (counted t)) + cond (is_some (at text (counted t))) 1 0 ≡ length (counted t)
        → length (with_count text n (counted t)) ≡ len_after (length (counted t)) (count_in text (counted t)) n
    by_tests true true e f some more less = grind (arith, e, f, some, less)
    by_tests true false e f some more less = grind (arith, e, f, some, less)
    by_tests false true e f some more less = grind (arith, e, f, some, more)
    by_tests false false e f some more less = grind (arith, e, f, some, more)

-- ## The log

module _ {K : Type 0} (text_of : K → Bytes) where
  -- what the first entry of a text was
  abbrev before : Bytes → List (Logged K) → Option ℕ
  before x [] = None
  before x (edit ∷ log) = cond (is_at (text_cmp (text_of edit.key)) x) (Some edit.count) (before x log)

  abbrev read : Option ℕ → Option ℕ → Option ℕ
  read None now = now
  read (Some n) now = some_unless_0 n

  read_cond : (b : Bool) (n : ℕ) (o now : Option ℕ) → read (cond b (Some n) o) now ≡ cond b (some_unless_0 n) (read o now)
  read_cond true n o now = refl
  read_cond false n o now = refl

  pub up_rewound : (log : List (Logged K)) (c : Counts) → IsUp c → IsUp (rewound text_of log c)
  up_rewound [] c up = up
  up_rewound (edit ∷ log) c up = up_count (text_of edit.key) edit.count (rewound text_of log c) (up_rewound log c up)

  at_rewound : (x : Bytes) (log : List (Logged K)) (c : Counts) → IsUp c → at x (rewound text_of log c) ≡ read (before x log) (at x c)
  at_rewound x [] c up = refl
  at_rewound x (edit ∷ log) c up =
      at_count (text_of edit.key) x edit.count (rewound text_of log c) (up_rewound log c up)
      ∙ ap (cond (is_at (text_cmp (text_of edit.key)) x) (some_unless_0 edit.count)) (at_rewound x log c up)
      ∙ sym (read_cond (is_at (text_cmp (text_of edit.key)) x) edit.count (before x log) (at x c))

  -- a text of the log was something
  was_there : (text x : Bytes) (log : List (Logged K)) → is_at (text_cmp text) x ≡ true → is_among text (map (λ edit. text_of edit.key) log) ≡ true → is_some (before x log) ≡ true
  was_there text x [] same among = absurd (true≢false (sym among))
  was_there text x (edit ∷ log) same among = by_test (is_at (text_cmp (text_of edit.key)) x) refl (was_there text x log same)
    where
      by_test : (b : Bool) → is_at (text_cmp (text_of edit.key)) x ≡ b → (is_among text (map (λ edit. text_of edit.key) log) ≡ true → is_some (before x log) ≡ true) → is_some (before x (edit ∷ log)) ≡ true
      by_test true here more = ap (λ b. is_some (cond b (Some edit.count) (before x log))) here
      by_test false here more =
          let apart : is_at (text_cmp text) (text_of edit.key) ≡ false = other_text (is_at (text_cmp text) (text_of edit.key)) refl in
          ap (λ b. is_some (cond b (Some edit.count) (before x log))) here ∙ more (grind (arith, apart, among))
        where
          other_text : (b : Bool) → is_at (text_cmp text) (text_of edit.key) ≡ b → is_at (text_cmp text) (text_of edit.key) ≡ false
          other_text true e = absurd (true≢false (sym same ∙ ap (λ y. is_at (text_cmp y) x) (same_text text (text_of edit.key) e) ∙ here))
          other_text false e = e

  -- edits of a text of the log change nothing of what was before
  pub rewound_count : (text : Bytes) (n : ℕ) (log : List (Logged K)) (c : Counts) → IsUp c → is_among text (map (λ edit. text_of edit.key) log) ≡ true → rewound text_of log (with_count text n c) ≡ rewound text_of log c
  rewound_count text n log c up among = same_entries _ _ (up_rewound log (with_count text n c) (up_count text n c up)) (up_rewound log c up) (λ x.
      at_rewound x log (with_count text n c) (up_count text n c up) ∙ ap (read (before x log)) (at_count text x n c up) ∙ by_test x (is_at (text_cmp text) x) refl ∙ sym (at_rewound x log c up))
    where
      found : (x : Bytes) (o : Option ℕ) (these those : Option ℕ) → is_some o ≡ true → read o these ≡ read o those
      found x None these those some = absurd (true≢false (sym some))
      found x (Some m) these those some = refl

      by_test : (x : Bytes) (b : Bool) → is_at (text_cmp text) x ≡ b → read (before x log) (cond b (some_unless_0 n) (at x c)) ≡ read (before x log) (at x c)
      by_test x true here = found x (before x log) (some_unless_0 n) (at x c) (was_there text x log here among)
      by_test x false here = refl

  pub rewound_append : (log : List (Logged K)) (edit : Logged K) (c : Counts) → rewound text_of (log ++ edit ∷ []) c ≡ rewound text_of log (with_count (text_of edit.key) edit.count c)
  rewound_append [] edit c = refl
  rewound_append (first ∷ log) edit c = ap (with_count (text_of first.key) first.count) (rewound_append log edit c)

  pub rewound_take : (log : List (Logged K)) (n : ℕ) (edit : Logged K) (c : Counts) → n < length log → edit ≡ slice_index_or log n edit → rewound text_of (take (suc n) log) c ≡ rewound text_of (take n log) (with_count (text_of edit.key) edit.count c)
  rewound_take [] n edit c within read = absurd (grind (arith, within))
  rewound_take (first ∷ log) zero edit c within read = ap (λ e. with_count (text_of e.key) e.count c) (sym read)
  rewound_take (first ∷ log) (suc n) edit c within read = ap (with_count (text_of first.key) first.count) (rewound_take log n edit c (grind (arith, within)) read)

  pub there_at : (log : List (Logged K)) (n : ℕ) (edit : Logged K) (t : Counts) → n < length log → edit ≡ slice_index_or log n edit → AreThere text_of log t → is_some (at (text_of edit.key) t) ≡ true
  there_at [] n edit t within read there = absurd (grind (arith, within))
  there_at (first ∷ log) zero edit t within read there = ap (λ e. is_some (at (text_of e.key) t)) read ∙ there.0
  there_at (first ∷ log) (suc n) edit t within read there = there_at log n edit t (grind (arith, within)) read there.1

  -- ## Entries of the log's texts

  pub there_kept : (log : List (Logged K)) (t u : Counts) → Keeps t u → AreThere text_of log t → AreThere text_of log u
  there_kept [] t u keeps there = tt
  there_kept (edit ∷ log) t u keeps there = (keeps (text_of edit.key) there.0, there_kept log t u keeps there.1)

  pub there_append : (log : List (Logged K)) (edit : Logged K) (t : Counts) → AreThere text_of log t → is_some (at (text_of edit.key) t) ≡ true → AreThere text_of (log ++ edit ∷ []) t
  there_append [] edit t there some = (some, tt)
  there_append (first ∷ log) edit t there some = (there.0, there_append log edit t there.1 some)

  pub among_there : (text : Bytes) (log : List (Logged K)) (t : Counts) → AreThere text_of log t → is_among text (map (λ edit. text_of edit.key) log) ≡ true → is_some (at text t) ≡ true
  among_there text [] t there among = absurd (true≢false (sym among))
  among_there text (edit ∷ log) t there among = by_test (is_at (text_cmp text) (text_of edit.key)) refl (among_there text log t there.1)
    where
      by_test : (b : Bool) → is_at (text_cmp text) (text_of edit.key) ≡ b → (is_among text (map (λ edit. text_of edit.key) log) ≡ true → is_some (at text t) ≡ true) → is_some (at text t) ≡ true
      by_test true here more = ap (λ y. is_some (at y t)) (same_text text (text_of edit.key) here) ∙ there.0
      by_test false here more = more (grind (arith, here, among))

pub among_keys : (text : Bytes) (t : Counts) → is_among text (keys_of t) ≡ is_some (at text t)
among_keys text [] = refl
among_keys text (first ∷ rest) = by_test (is_at (text_cmp text) first.0) refl (among_keys text rest)
  where
    by_test : (b : Bool) → is_at (text_cmp text) first.0 ≡ b → is_among text (keys_of rest) ≡ is_some (at text rest) → is_among text (keys_of (first ∷ rest)) ≡ is_some (at text (first ∷ rest))
    by_test true here more = grind (arith, here)
    by_test false here more = grind (arith, here, more)

pub keeps_same : (t u : Counts) → keys_of u ≡ keys_of t → Keeps t u
keeps_same t u same text some = sym (among_keys text u) ∙ ap (is_among text) same ∙ among_keys text t ∙ some

pub keeps_with : (text : Bytes) (n : ℕ) (t : Counts) → Keeps t (with_text text n t)
keeps_with text n t x some = ap is_some (at_with text x n t) ∙ by_test (is_at (text_cmp text) x)
  where
    by_test : (b : Bool) → is_some (cond b (Some n) (at x t)) ≡ true
    by_test true = refl
    by_test false = some
