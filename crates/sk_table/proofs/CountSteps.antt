-- Steps of counts with undo keep what holds of them.
use Rattle.std.proofs.Common.{◌≡◌, ◌+◌, ◌<◌, ◌≤◌, ℕ, Bool, true, false, cond, List, [], ◌∷◌, ◌++◌, Option, Some, None, length, map, IsSome, refl, sym, ap, subst, ◌∙◌, true≢false, arith}
use Rattle.std.specs.Map.{keys_of}
use Rattle.std.specs.Option.{is_some, unwrap_or}
use Rattle.std.specs.List.{AllByRecursion}
use Rattle.sk_resp.specs.Spelling.{Bytes}
use Rattle.sk_undo.specs.Balance.{most}
use Rattle.sk_undo.specs.Versions.{Versions, edited}
use Rattle.sk_table.specs.Counts.{Counts, count_in, counted, counts_in, is_among, len_after, noted, ready_in, rewound, with_count}
use Rattle.sk_table.specs.CountsInvariant.{AreCounts, AreThere, Keeps}
use Rattle.sk_table.specs.Entries.{at}
use Rattle.sk_table.specs.declared.logged.Logged.{Logged}
use Rattle.sk_table.proofs.Counts.{among_keys, among_there, count_is, count_same, keeps_same, length_count, length_without, rewound_append, rewound_count, there_append, there_kept, up_counted}
use Rattle.sk_table.proofs.Ordered.{IsUp, at_itself}
use Rattle.sk_resp.specs.WordOrder.{text_cmp}
use Rattle.std.specs.BTreeMap.{is_at}

among_last : {K : Type 0} (text_of : K → Bytes) (log : List (Logged K)) (edit : Logged K) → is_among (text_of edit.key) (map (λ e. text_of e.key) (log ++ edit ∷ [])) ≡ true
among_last text_of [] edit = let here = at_itself (text_of edit.key) in grind (arith, here)
among_last text_of (first ∷ log) edit = let later = among_last text_of log edit in grind (arith, later)

pub is_closed : {A : Type 0} (in_step : Bool) (a : A) → cond in_step (Some a) None ≡ None → in_step ≡ false
is_closed true a e = absurd (true≢false (ap is_some e))
is_closed false a e = refl

pub is_open : {A : Type 0} (in_step : Bool) (a : A) → IsSome (cond in_step (Some a) None) → in_step ≡ true
is_open true a e = refl
is_open false a e = absurd (true≢false (sym e))

count_there : (o : Option ℕ) → 0 < unwrap_or o 0 → is_some o ≡ true
count_there None more = absurd (omega (arith, more))
count_there (Some n) more = refl

-- what counts has an entry
pub some_there : (text : Bytes) (n : ℕ) (t : Counts) → IsUp t → n ≡ count_in text (counted t) → 0 < n → is_some (at text t) ≡ true
some_there text n t up is more = count_there (at text t) (subst (λ m. 0 < m) (is ∙ count_is text t up) more)

-- and is one of those that count
pub some_counts : (text : Bytes) (n : ℕ) (t : Counts) → n ≡ count_in text (counted t) → 0 < n → 0 < length (counted t)
some_counts text n t is more = let less = length_without text (counted t) in let some = count_there (at text (counted t)) (subst (λ m. 0 < m) is more) in grind (arith, less, some)

module _ {K : Type 0} (text_of : K → Bytes) (log : List (Logged K)) (t u : Counts) (len len_then : ℕ) where
  -- ## An entry is made ready

  pub entered : (in_step : Bool) → AreCounts text_of in_step log t len len_then → counted u ≡ counted t → Keeps t u → AreCounts text_of in_step log u len len_then
  entered in_step is same keeps = record {
    there = there_kept text_of log t u keeps is.there;
    idle = is.idle;
    is_len = is.is_len ∙ ap length (sym same);
    was_len = λ e. is.was_len e ∙ ap (λ c. length (rewound text_of log c)) (sym same);
    small = is.small;
    was_small = is.was_small;
  }

  module _ (edit : Logged K) (same : counted u ≡ counted t) (keeps : Keeps t u) (up : IsUp u) (there : at (text_of edit.key) u ≡ Some edit.count) (count : edit.count ≡ count_in (text_of edit.key) (counted u)) where
    as_before : rewound text_of (log ++ edit ∷ []) (counted u) ≡ rewound text_of log (counted t)
    as_before = rewound_append text_of log edit (counted u)
        ∙ ap (λ n. rewound text_of log (with_count (text_of edit.key) n (counted u))) count
        ∙ ap (rewound text_of log) (count_same (text_of edit.key) u up ∙ same)

    pub noted_is : (in_step : Bool) → AreCounts text_of in_step log t len len_then → AreCounts text_of in_step (noted in_step edit log) u len len_then
    noted_is true is = record {
      there = there_append text_of log edit u (there_kept text_of log t u keeps is.there) (ap is_some there);
      idle = λ e. absurd (true≢false e);
      is_len = is.is_len ∙ ap length (sym same);
      was_len = λ e. is.was_len e ∙ ap length (sym as_before);
      small = is.small;
      was_small = is.was_small;
    }
    noted_is false is = entered false is same keeps

    pub noted_list : (in_step : Bool) → counts_in text_of in_step (noted in_step edit log) u ≡ counts_in text_of in_step log t
    noted_list true = λ i. record { current = same i; saved = Some (as_before i) }
    noted_list false = λ i. record { current = same i; saved = None }

    pub noted_ready : (in_step : Bool) → is_among (text_of edit.key) (ready_in text_of in_step (noted in_step edit log) u) ≡ true
    noted_ready true = among_last text_of log edit
    noted_ready false = among_keys (text_of edit.key) u ∙ ap is_some there

  -- ## Another count

  pub ready_there : (text : Bytes) (in_step : Bool) → AreCounts text_of in_step log t len len_then → is_among text (ready_in text_of in_step log t) ≡ true → is_some (at text t) ≡ true
  ready_there text true is ready = among_there text_of text log t is.there ready
  ready_there text false is ready = sym (among_keys text t) ∙ ready

  module _ (text : Bytes) (n : ℕ) (keys : keys_of u ≡ keys_of t) (counts : counted u ≡ with_count text n (counted t)) (up : IsUp t) where
    same_before : is_among text (map (λ edit. text_of edit.key) log) ≡ true → rewound text_of log (counted u) ≡ rewound text_of log (counted t)
    same_before among = ap (rewound text_of log) counts ∙ rewound_count text_of text n log (counted t) (up_counted t up) among

    pub put_is : (in_step : Bool) (before more : ℕ) → AreCounts text_of in_step log t len len_then → is_among text (ready_in text_of in_step log t) ≡ true → before ≡ count_in text (counted t) → more ≡ len_after len before n → more ≤ most → AreCounts text_of in_step log u more len_then
    put_is in_step before more is ready old new small = record {
      there = there_kept text_of log t u (keeps_same t u keys) is.there;
      idle = is.idle;
      is_len = new ∙ ap (λ l. len_after l before n) is.is_len ∙ ap (λ b. len_after (length (counted t)) b n) old ∙ sym (length_count text n t up) ∙ ap length (sym counts);
      was_len = λ e. is.was_len e ∙ ap length (sym (same_before (ap (λ b. is_among text (ready_in text_of b log t)) (sym e) ∙ ready)));
      small = small;
      was_small = is.was_small;
    }

    pub put_list : (in_step : Bool) → is_among text (ready_in text_of in_step log t) ≡ true → counts_in text_of in_step log u ≡ edited (with_count text n (counted t)) (counts_in text_of in_step log t)
    put_list true ready = λ i. record { current = counts i; saved = Some (same_before ready i) }
    put_list false ready = λ i. record { current = counts i; saved = None }

    pub put_ready : (in_step : Bool) → ready_in text_of in_step log u ≡ ready_in text_of in_step log t
    put_ready true = refl
    put_ready false = keys

  -- ## No step is open

  pub idle_is : (in_step : Bool) (less : ℕ) → in_step ≡ false → AreCounts text_of in_step log t len len_then → less ≡ length (counted u) → less ≤ most → AreCounts text_of in_step log u less len_then
  idle_is in_step less idle is count small = record {
    there = subst (λ l. AreThere text_of l u) (sym (is.idle idle)) tt;
    idle = is.idle;
    is_len = count;
    was_len = λ e. absurd (true≢false (sym e ∙ idle));
    small = small;
    was_small = is.was_small;
  }

  pub idle_list : (in_step : Bool) (c : Counts) → in_step ≡ false → counted u ≡ c → counts_in text_of in_step log u ≡ edited c (counts_in text_of in_step log t)
  idle_list true c idle is = absurd (true≢false idle)
  idle_list false c idle is = λ i. record { current = is i; saved = None }
