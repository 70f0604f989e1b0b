-- Entries in the order of their texts: edits keep the order, and look-ups tell the whole list.
use Rattle.std.proofs.Common.{◌≡◌, Bool, true, false, cond, List, [], ◌∷◌, Option, Some, None, option_map, refl, sym, ap, subst, ◌∙◌, true≢false, arith}
use Rattle.std.specs.BTreeMap.{is_at}
use Rattle.std.specs.List.{AllByRecursion}
use Rattle.std.specs.List.Sorted.{IsStrictlySortedBy}
use Rattle.std.specs.Map.{keys_of, set_value}
use Rattle.std.specs.Option.{IsSome, is_some, unwrap_or}
use Rattle.std.specs.Ordering.{is_eq, match_ordering}
use Rattle.std.specs.Cmp.{eq_by_cmp_equiv}
use Rattle.std.specs.declared.cmp.Ordering.{Ordering}
use Rattle.std.specs.declared.cmp.Ordering.TheVariants.{Less, Equal, Greater}
use Rattle.std.proofs.lemmas.Cmp.{nat_list_cmp_total}
use Rattle.std.proofs.lemmas.Map.{keys-set_value, lookup-none, lookup-remove_entry, lookup-set_value}
use Rattle.std.proofs.lemmas.Map.Keys.{IsDistinct-from_sorted}
use Rattle.std.proofs.lemmas.Map.Entries.{none_below_head, none_past_head}
use Rattle.std.proofs.lemmas.Map.Lookups.{exact_bytes}
use Rattle.sk_resp.specs.Spelling.{Bytes}
use Rattle.sk_resp.specs.WordOrder.{text_cmp}
use Rattle.sk_table.specs.Entries.{at, in_order, with_text, without_text}

-- ## Texts

pub at_itself : (text : Bytes) → is_at (text_cmp text) text ≡ true
at_itself text = (eq_by_cmp_equiv nat_list_cmp_total).refl text

pub same_text : (text other : Bytes) → is_at (text_cmp text) other ≡ true → text ≡ other
same_text text other h = exact_bytes text other (equal_at (text_cmp text other) h)
  where
    equal_at : (o : Ordering) → is_eq o ≡ true → o ≡ Equal
    equal_at Less e = absurd (true≢false (sym e))
    equal_at Equal e = refl
    equal_at Greater e = absurd (true≢false (sym e))

pub at_other : (text other : Bytes) → is_at (text_cmp text) other ≡ is_at (text_cmp other) text
at_other text other = (eq_by_cmp_equiv nat_list_cmp_total).symm text other

greater_less : (text other : Bytes) → text_cmp text other ≡ Greater → text_cmp other text ≡ Less
greater_less text other h = let flips = nat_list_cmp_total.antisymm other text in grind (arith, flips, h)

all_below : (text middle : Bytes) (texts : List Bytes) → text_cmp text middle ≡ Less → AllByRecursion (λ other. text_cmp middle other ≡ Less) texts → AllByRecursion (λ other. text_cmp text other ≡ Less) texts
all_below text middle [] h all = tt
all_below text middle (first ∷ rest) h all = (nat_list_cmp_total.trans text middle first h all.0, all_below text middle rest h all.1)

module _ {V : Type 0} where
  abbrev pub IsUp : List (Bytes × V) → Type 0
  IsUp entries = IsStrictlySortedBy text_cmp (keys_of entries)

  -- ## Putting in

  all_with : (P : Bytes → Type 0) (text : Bytes) (value : V) (entries : List (Bytes × V)) → AllByRecursion P (keys_of entries) → P text → AllByRecursion P (keys_of (with_text text value entries))
  all_with P text value [] h p = (p, tt)
  all_with P text value (first ∷ rest) h p = by_order (text_cmp text first.0) (all_with P text value rest h.1 p)
    where
      by_order : (o : Ordering) → AllByRecursion P (keys_of (with_text text value rest)) → AllByRecursion P (keys_of (match_ordering o ((text, value) ∷ first ∷ rest) ((first.0, value) ∷ rest) (first ∷ with_text text value rest)))
      by_order Less more = (p, h)
      by_order Equal more = h
      by_order Greater more = (h.0, more)

  pub up_with : (text : Bytes) (value : V) (entries : List (Bytes × V)) → IsUp entries → IsUp (with_text text value entries)
  unfolding IsStrictlySortedBy
  up_with text value [] up = (tt, tt)
  up_with text value (first ∷ rest) up = by_order (text_cmp text first.0) refl (up_with text value rest up.1)
    where
      by_order : (o : Ordering) → text_cmp text first.0 ≡ o → IsUp (with_text text value rest) → IsUp (match_ordering o ((text, value) ∷ first ∷ rest) ((first.0, value) ∷ rest) (first ∷ with_text text value rest))
      by_order Less e more = ((e, all_below text first.0 (keys_of rest) e up.0), up)
      by_order Equal e more = up
      by_order Greater e more = (all_with (λ other. text_cmp first.0 other ≡ Less) text value rest up.0 (greater_less text first.0 e), more)

  pub up_in_order : (entries : List (Bytes × V)) → IsUp (in_order entries)
  unfolding IsStrictlySortedBy
  up_in_order [] = tt
  up_in_order (entry ∷ entries) = up_with entry.0 entry.1 (in_order entries) (up_in_order entries)

  pub at_with : (text other : Bytes) (value : V) (entries : List (Bytes × V)) → at other (with_text text value entries) ≡ cond (is_at (text_cmp text) other) (Some value) (at other entries)
  at_with text other value [] = ap (λ b. cond b (Some value) None) (at_other other text)
  at_with text other value (first ∷ rest) = by_order (text_cmp text first.0) refl (at_with text other value rest)
    where
      by_order : (o : Ordering) → text_cmp text first.0 ≡ o → at other (with_text text value rest) ≡ cond (is_at (text_cmp text) other) (Some value) (at other rest)
          → at other (match_ordering o ((text, value) ∷ first ∷ rest) ((first.0, value) ∷ rest) (first ∷ with_text text value rest)) ≡ cond (is_at (text_cmp text) other) (Some value) (at other (first ∷ rest))
      by_order Less e later = ap (λ b. cond b (Some value) (at other (first ∷ rest))) (at_other other text)
      by_order Equal e later =
          let same : text ≡ first.0 = exact_bytes text first.0 e in
          let here : is_at (text_cmp other) first.0 ≡ is_at (text_cmp text) other = ap (λ t. is_at (text_cmp other) t) (sym same) ∙ at_other other text in
          grind (arith, here)
      by_order Greater e later = by_first (is_at (text_cmp other) first.0) refl
        where
          by_first : (b : Bool) → is_at (text_cmp other) first.0 ≡ b → cond (is_at (text_cmp other) first.0) (Some first.1) (at other (with_text text value rest))
              ≡ cond (is_at (text_cmp text) other) (Some value) (cond (is_at (text_cmp other) first.0) (Some first.1) (at other rest))
          by_first true h =
              let same : other ≡ first.0 = same_text other first.0 h in
              let apart : is_at (text_cmp text) other ≡ false = ap (λ t. is_at (text_cmp text) t) same ∙ ap is_eq e in
              grind (arith, h, apart)
          by_first false h = grind (arith, h, later)

  pub at_in_order : (text : Bytes) (entries : List (Bytes × V)) → at text (in_order entries) ≡ at text entries
  at_in_order text [] = refl
  at_in_order text (entry ∷ entries) =
      at_with entry.0 text entry.1 (in_order entries) ∙ ap (λ b. cond b (Some entry.1) (at text (in_order entries))) (at_other entry.0 text) ∙ ap (λ o. cond (is_at (text_cmp text) entry.0) (Some entry.1) o) (at_in_order text entries)

  -- ## Taking out

  all_without : (P : Bytes → Type 0) (text : Bytes) (entries : List (Bytes × V)) → AllByRecursion P (keys_of entries) → AllByRecursion P (keys_of (without_text text entries))
  all_without P text [] h = tt
  all_without P text (first ∷ rest) h = by_test (is_at (text_cmp text) first.0) (all_without P text rest h.1)
    where
      by_test : (b : Bool) → AllByRecursion P (keys_of (without_text text rest)) → AllByRecursion P (keys_of (cond b rest (first ∷ without_text text rest)))
      by_test true more = h.1
      by_test false more = (h.0, more)

  pub up_without : (text : Bytes) (entries : List (Bytes × V)) → IsUp entries → IsUp (without_text text entries)
  unfolding IsStrictlySortedBy
  up_without text [] up = tt
  up_without text (first ∷ rest) up = by_test (is_at (text_cmp text) first.0) (up_without text rest up.1)
    where
      by_test : (b : Bool) → IsUp (without_text text rest) → IsUp (cond b rest (first ∷ without_text text rest))
      by_test true more = up.1
      by_test false more = (all_without (λ other. text_cmp first.0 other ≡ Less) text rest up.0, more)

  pub at_without : (text other : Bytes) (entries : List (Bytes × V)) → IsUp entries → at other (without_text text entries) ≡ cond (is_at (text_cmp text) other) None (at other entries)
  at_without text other entries up =
      lookup-remove_entry (eq_by_cmp_equiv nat_list_cmp_total) (is_at (text_cmp text)) (λ x y h. ap (λ t. is_at (text_cmp t) y) (same_text text x h)) other entries (IsDistinct-from_sorted text_cmp (keys_of entries) up)

  pub nothing_without : (text : Bytes) (entries : List (Bytes × V)) → at text entries ≡ None → without_text text entries ≡ entries
  nothing_without text [] none = refl
  nothing_without text (first ∷ rest) none = by_test (is_at (text_cmp text) first.0) refl (nothing_without text rest)
    where
      by_test : (b : Bool) → is_at (text_cmp text) first.0 ≡ b → (at text rest ≡ None → without_text text rest ≡ rest) → without_text text (first ∷ rest) ≡ first ∷ rest
      by_test true h more = absurd (true≢false (ap is_some (sym (ap (λ b. cond b (Some first.1) (at text rest)) h) ∙ none)))
      by_test false h more = ap (λ b. cond b rest (first ∷ without_text text rest)) h ∙ ap (λ l. first ∷ l) (more (sym (ap (λ b. cond b (Some first.1) (at text rest)) h) ∙ none))

  -- ## Another value

  set_absent : (text : Bytes) (value : V) (entries : List (Bytes × V)) → at text entries ≡ None → set_value (is_at (text_cmp text)) entries value ≡ entries
  set_absent text value [] none = refl
  set_absent text value (first ∷ rest) none = by_test (is_at (text_cmp text) first.0) refl (set_absent text value rest)
    where
      by_test : (b : Bool) → is_at (text_cmp text) first.0 ≡ b → (at text rest ≡ None → set_value (is_at (text_cmp text)) rest value ≡ rest) → set_value (is_at (text_cmp text)) (first ∷ rest) value ≡ first ∷ rest
      by_test true h more = absurd (true≢false (ap is_some (sym (ap (λ b. cond b (Some first.1) (at text rest)) h) ∙ none)))
      by_test false h more =
          ap (λ b. cond b ((first.0, value) ∷ rest) (first ∷ set_value (is_at (text_cmp text)) rest value)) h ∙ ap (λ l. first ∷ l) (more (sym (ap (λ b. cond b (Some first.1) (at text rest)) h) ∙ none))

  pub at_set : (text other : Bytes) (value : V) (entries : List (Bytes × V))
      → at other (set_value (is_at (text_cmp text)) entries value) ≡ cond (is_at (text_cmp text) other) (option_map (λ _. value) (at text entries)) (at other entries)
  at_set text other value entries = by_found (at text entries) refl
    where
      by_text : at text entries ≡ None → (b : Bool) → is_at (text_cmp text) other ≡ b → at other entries ≡ cond b None (at other entries)
      by_text none true h = ap (λ t. at t entries) (sym (same_text text other h)) ∙ none
      by_text none false h = refl

      by_found : (o : Option V) → at text entries ≡ o → at other (set_value (is_at (text_cmp text)) entries value) ≡ cond (is_at (text_cmp text) other) (option_map (λ _. value) (at text entries)) (at other entries)
      by_found None none =
          ap (at other) (set_absent text value entries none) ∙ by_text none (is_at (text_cmp text) other) refl ∙ ap (λ o. cond (is_at (text_cmp text) other) (option_map (λ _. value) o) (at other entries)) (sym none)
      by_found (Some old) some =
          lookup-set_value (eq_by_cmp_equiv nat_list_cmp_total) (is_at (text_cmp text)) (λ x y h. ap (λ t. is_at (text_cmp t) y) (same_text text x h)) other value entries (subst IsSome (sym some) refl)
          ∙ ap (λ o. cond (is_at (text_cmp text) other) (option_map (λ _. value) o) (at other entries)) (sym some)

  pub up_set : (text : Bytes) (value : V) (entries : List (Bytes × V)) → IsUp entries → IsUp (set_value (is_at (text_cmp text)) entries value)
  up_set text value entries up = subst (IsStrictlySortedBy text_cmp) (sym (keys-set_value (is_at (text_cmp text)) entries value)) up

  -- ## Two lists in order in which each text has the same

  some_is_none : (value : V) → Some value ≡ None → ⊥
  some_is_none value e = true≢false (ap is_some e)

  at_first : (first : Bytes × V) (rest : List (Bytes × V)) → at first.0 (first ∷ rest) ≡ Some first.1
  at_first first rest = ap (λ b. cond b (Some first.1) (at first.0 rest)) (at_itself first.0)

  pub none_before : (first : Bytes × V) (rest : List (Bytes × V)) (text : Bytes) → IsUp (first ∷ rest) → text_cmp text first.0 ≡ Less → at text (first ∷ rest) ≡ None
  none_before first rest text up less = lookup-none (is_at (text_cmp text)) (first ∷ rest) (none_below_head nat_list_cmp_total text first rest up less)

  pub none_behind : (first : Bytes × V) (rest : List (Bytes × V)) → IsUp (first ∷ rest) → at first.0 rest ≡ None
  none_behind first rest up =
      lookup-none (is_at (text_cmp first.0)) rest (none_past_head (eq_by_cmp_equiv nat_list_cmp_total) first.0 first rest (IsDistinct-from_sorted text_cmp (keys_of (first ∷ rest)) up) (at_itself first.0))

  abbrev pub Agree : List (Bytes × V) → List (Bytes × V) → Type 0
  Agree these those = (text : Bytes) → at text these ≡ at text those

  firsts : (x y : Bytes × V) (xs ys : List (Bytes × V)) → IsUp (x ∷ xs) → IsUp (y ∷ ys) → Agree (x ∷ xs) (y ∷ ys) → x.0 ≡ y.0
  firsts x y xs ys up down agree = by_order (text_cmp x.0 y.0) refl
    where
      by_order : (o : Ordering) → text_cmp x.0 y.0 ≡ o → x.0 ≡ y.0
      by_order Less e = absurd (some_is_none x.1 (sym (at_first x xs) ∙ agree x.0 ∙ none_before y ys x.0 down e))
      by_order Equal e = exact_bytes x.0 y.0 e
      by_order Greater e = absurd (some_is_none y.1 (sym (at_first y ys) ∙ sym (agree y.0) ∙ none_before x xs y.0 up (greater_less x.0 y.0 e)))

  rests : (x : Bytes × V) (xs ys : List (Bytes × V)) → IsUp (x ∷ xs) → IsUp (x ∷ ys) → Agree (x ∷ xs) (x ∷ ys) → Agree xs ys
  rests x xs ys up down agree other = by_test (is_at (text_cmp other) x.0) refl
    where
      by_test : (b : Bool) → is_at (text_cmp other) x.0 ≡ b → at other xs ≡ at other ys
      by_test true h = subst (λ t. at t xs ≡ at t ys) (sym (same_text other x.0 h)) (none_behind x xs up ∙ sym (none_behind x ys down))
      by_test false h = sym (ap (λ b. cond b (Some x.1) (at other xs)) h) ∙ agree other ∙ ap (λ b. cond b (Some x.1) (at other ys)) h

  values : (x y : Bytes × V) (xs ys : List (Bytes × V)) → x.0 ≡ y.0 → Agree (x ∷ xs) (y ∷ ys) → x.1 ≡ y.1
  values x y xs ys text agree = ap (λ o. unwrap_or o x.1) (sym (at_first x xs) ∙ agree x.0 ∙ ap (λ t. at t (y ∷ ys)) text ∙ at_first y ys)

  -- They are the same list.
  pub same_entries : (these those : List (Bytes × V)) → IsUp these → IsUp those → Agree these those → these ≡ those
  unfolding IsStrictlySortedBy
  same_entries [] [] up down agree = refl
  same_entries [] (y ∷ ys) up down agree = absurd (some_is_none y.1 (sym (at_first y ys) ∙ sym (agree y.0)))
  same_entries (x ∷ xs) [] up down agree = absurd (some_is_none x.1 (sym (at_first x xs) ∙ agree x.0))
  same_entries (x ∷ xs) (y ∷ ys) up down agree =
      let text : x.0 ≡ y.0 = firsts x y xs ys up down agree in
      let value : x.1 ≡ y.1 = values x y xs ys text agree in
      let first : x ≡ y = λ i. (text i, value i) in
      let up' : IsUp (y ∷ xs) = subst (λ e. IsUp (e ∷ xs)) first up in
      let agree' : Agree (y ∷ xs) (y ∷ ys) = subst (λ e. Agree (e ∷ xs) (y ∷ ys)) first agree in
      ap (λ e. e ∷ xs) first ∙ ap (λ l. y ∷ l) (same_entries xs ys up'.1 down.1 (rests y xs ys up' down agree'))
