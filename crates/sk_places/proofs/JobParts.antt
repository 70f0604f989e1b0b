-- The parts of the numbers that stand under the ids of jobs: an edit of the numbers is an edit of each part.
use Rattle.std.proofs.Common.{◌≡◌, ◌<◌, ◌≤◌, ◌&&◌, ℕ, zero, suc, Bool, true, false, cond, not, List, [], ◌∷◌, Option, Some, None, length, map, nat_eq, option_map, refl, sym, ap, ap₂, subst, ◌∙◌, arith}
use Rattle.std.specs.Prelude.{IfSome}
use Rattle.std.specs.BTreeMap.{is_at}
use Rattle.std.specs.List.Sorted.{IsStrictlySortedBy}
use Rattle.std.specs.Map.{keys_of}
use Rattle.std.specs.Option.{is_some, unwrap_or}
use Rattle.std.proofs.lemmas.Bool.Decides.{nat_tests}
use Rattle.sk_resp.specs.Spelling.{Bytes}
use Rattle.sk_resp.specs.WordOrder.{text_cmp}
use Rattle.sk_table.specs.Counts.{Counts, count_in, counted, len_after, with_count}
use Rattle.sk_table.specs.Entries.{at}
use Rattle.sk_table.proofs.Counts.{among_keys, at_count, at_counted, count_is, count_same, kept, length_count, some_counts_some, some_unless_0, up_count, up_counted}
use Rattle.sk_table.proofs.Ordered.{IsUp, same_entries}
use Rattle.sk_undo.specs.Sorted.{is_sorted}
use Rattle.sk_undo.specs.Versions.{Versions, edited}
use Rattle.sk_places.specs.JobRecords.{counts_in, is_live, live_after, live_in, live_mark, live_noted, live_with, number_of, part_of, rows_noted, AreLiveCounted, IsRecordOf}
use Rattle.sk_places.specs.declared.job_record.JobRecord.{JobRecord}
use Rattle.sk_places.specs.LiveJobs.{is_among, one_if}
use Rattle.sk_places.proofs.LiveKeys.{keys_sorted, keys_with, keys_without}

-- ## Any part

module _ (part : ℕ → ℕ) (none : part 0 ≡ 0) where
  abbrev parts : Counts → Counts
  parts numbers = map (λ entry. (entry.0, part entry.1)) numbers

  keys_parts : (numbers : Counts) → keys_of (parts numbers) ≡ keys_of numbers
  keys_parts [] = refl
  keys_parts (first ∷ rest) = ap (λ l. first.0 ∷ l) (keys_parts rest)

  up_parts : (numbers : Counts) → IsUp numbers → IsUp (parts numbers)
  up_parts numbers up = subst (IsStrictlySortedBy text_cmp) (sym (keys_parts numbers)) up

  pub up_part : (numbers : Counts) → IsUp numbers → IsUp (part_of part numbers)
  up_part numbers up = up_counted (parts numbers) (up_parts numbers up)

  at_parts : (jid : Bytes) (numbers : Counts) → at jid (parts numbers) ≡ option_map part (at jid numbers)
  at_parts jid [] = refl
  at_parts jid (first ∷ rest) = by_test (is_at (text_cmp jid) first.0) (at_parts jid rest)
    where
      by_test : (b : Bool) → at jid (parts rest) ≡ option_map part (at jid rest) → cond b (Some (part first.1)) (at jid (parts rest)) ≡ option_map part (cond b (Some first.1) (at jid rest))
      by_test true more = refl
      by_test false more = more

  at_part : (jid : Bytes) (numbers : Counts) → IsUp numbers → at jid (part_of part numbers) ≡ kept (option_map part (at jid numbers))
  at_part jid numbers up = at_counted jid (parts numbers) (up_parts numbers up) ∙ ap kept (at_parts jid numbers)

  part_or : (o : Option ℕ) → unwrap_or (option_map part o) 0 ≡ part (unwrap_or o 0)
  part_or None = sym none
  part_or (Some n) = refl

  -- what is counted under a job's id
  pub part_count : (jid : Bytes) (numbers : Counts) → IsUp numbers → count_in jid (part_of part numbers) ≡ part (count_in jid numbers)
  part_count jid numbers up = count_is jid (parts numbers) (up_parts numbers up) ∙ ap (λ o. unwrap_or o 0) (at_parts jid numbers) ∙ part_or (at jid numbers)

  kept_some : (n : ℕ) → kept (option_map part (some_unless_0 n)) ≡ some_unless_0 (part n)
  kept_some n = by_test (nat_eq n 0) refl
    where
      by_test : (b : Bool) → nat_eq n 0 ≡ b → kept (option_map part (cond b None (Some n))) ≡ some_unless_0 (part n)
      by_test true e = let zero_is : n ≡ 0 = grind (arith, nat_tests, e) in sym (ap some_unless_0 (ap part zero_is ∙ none))
      by_test false e = refl

  kept_cond : (b : Bool) (n : ℕ) (o : Option ℕ) → kept (option_map part (cond b (some_unless_0 n) o)) ≡ cond b (some_unless_0 (part n)) (kept (option_map part o))
  kept_cond true n o = kept_some n
  kept_cond false n o = refl

  -- another number under it
  pub part_with : (jid : Bytes) (n : ℕ) (numbers : Counts) → IsUp numbers → part_of part (with_count jid n numbers) ≡ with_count jid (part n) (part_of part numbers)
  part_with jid n numbers up = same_entries _ _ (up_part (with_count jid n numbers) (up_count jid n numbers up)) (up_count jid (part n) (part_of part numbers) (up_part numbers up)) (λ x.
      at_part x (with_count jid n numbers) (up_count jid n numbers up)
      ∙ ap (λ o. kept (option_map part o)) (at_count jid x n numbers up)
      ∙ kept_cond (is_at (text_cmp jid) x) n (at x numbers)
      ∙ ap (cond (is_at (text_cmp jid) x) (some_unless_0 (part n))) (sym (at_part x numbers up))
      ∙ sym (at_count jid x (part n) (part_of part numbers) (up_part numbers up)))

  -- as much as there was
  pub part_same : (jid : Bytes) (numbers : Counts) → IsUp numbers → with_count jid (part (count_in jid numbers)) (part_of part numbers) ≡ part_of part numbers
  part_same jid numbers up = ap (λ n. with_count jid n (part_of part numbers)) (sym (part_count jid numbers up)) ∙ count_same jid (parts numbers) (up_parts numbers up)

  pub part_some : (jid : Bytes) (numbers : Counts) → IsUp numbers → is_some (at jid (part_of part numbers)) ≡ not (nat_eq (part (count_in jid numbers)) 0)
  part_some jid numbers up = some_counts_some jid (parts numbers) (up_parts numbers up) ∙ ap (λ n. not (nat_eq n 0)) (part_count jid numbers up)

  pub part_len : (jid : Bytes) (n : ℕ) (numbers : Counts) → IsUp numbers → length (with_count jid n (part_of part numbers)) ≡ len_after (length (part_of part numbers)) (count_in jid (part_of part numbers)) n
  part_len jid n numbers up = length_count jid n (parts numbers) (up_parts numbers up)

  length_counted : (t : Counts) → length (counted t) ≤ length t
  length_counted [] = omega arith
  length_counted (first ∷ rest) = grind (arith, length_counted rest)

  length_parts : (numbers : Counts) → length (parts numbers) ≡ length numbers
  length_parts [] = refl
  length_parts (first ∷ rest) = grind (arith, length_parts rest)

  pub part_length : (numbers : Counts) → length (part_of part numbers) ≤ length numbers
  part_length numbers = let fewer = length_counted (parts numbers) in let same = length_parts numbers in omega (arith, fewer, same)

-- ## The rows

pub rows_count : (jid : Bytes) (numbers : Counts) → IsUp numbers → count_in jid (counts_in numbers) ≡ rows_noted (count_in jid numbers)
rows_count jid numbers up = part_count rows_noted refl jid numbers up

is_live_number : (rows : ℕ) (live : Bool) → rows < live_mark → is_live (number_of rows live) ≡ live
is_live_number rows true few = grind (arith, nat_tests, few)
is_live_number rows false few = grind (arith, nat_tests, few)

rows_number : (rows : ℕ) (live : Bool) → rows < live_mark → rows_noted (number_of rows live) ≡ rows
rows_number rows true few = let e = is_live_number rows true few in grind (arith, nat_tests, e, few)
rows_number rows false few = let e = is_live_number rows false few in grind (arith, nat_tests, e, few)

pub rows_with : (jid : Bytes) (rows : ℕ) (live : Bool) (numbers : Counts) → IsUp numbers → rows < live_mark → counts_in (with_count jid (number_of rows live) numbers) ≡ with_count jid rows (counts_in numbers)
rows_with jid rows live numbers up few = part_with rows_noted refl jid (number_of rows live) numbers up ∙ ap (λ n. with_count jid n (counts_in numbers)) (rows_number rows live few)

pub rows_same : (jid : Bytes) (numbers : Counts) → IsUp numbers → with_count jid (count_in jid (counts_in numbers)) (counts_in numbers) ≡ counts_in numbers
rows_same jid numbers up = ap (λ n. with_count jid n (counts_in numbers)) (rows_count jid numbers up) ∙ part_same rows_noted refl jid numbers up

-- ## The live jobs

one_or_none : (b : Bool) → not (nat_eq (one_if b) 0) ≡ b
one_or_none true = refl
one_or_none false = refl

pub live_is : (jid : Bytes) (numbers : Counts) → IsUp numbers → is_among jid (live_in numbers) ≡ is_live (count_in jid numbers)
live_is jid numbers up = among_keys jid (part_of live_noted numbers) ∙ part_some live_noted refl jid numbers up ∙ one_or_none (is_live (count_in jid numbers))

keys_live : (b : Bool) (jid : Bytes) (counts : Counts) → keys_of (with_count jid (one_if b) counts) ≡ live_with b jid (keys_of counts)
keys_live true jid counts = keys_with jid 1 counts
keys_live false jid counts = keys_without jid counts

pub live_put : (jid : Bytes) (rows : ℕ) (live : Bool) (numbers : Counts) → IsUp numbers → rows < live_mark → live_in (with_count jid (number_of rows live) numbers) ≡ live_with live jid (live_in numbers)
live_put jid rows live numbers up few =
    ap keys_of (part_with live_noted refl jid (number_of rows live) numbers up)
    ∙ ap (λ b. keys_of (with_count jid (one_if b) (part_of live_noted numbers))) (is_live_number rows live few)
    ∙ keys_live live jid (part_of live_noted numbers)

-- a job that stays live, or stays not live
pub live_same : (jid : Bytes) (numbers : Counts) → IsUp numbers → live_with (is_among jid (live_in numbers)) jid (live_in numbers) ≡ live_in numbers
live_same jid numbers up =
    ap (λ b. live_with b jid (live_in numbers)) (live_is jid numbers up)
    ∙ sym (keys_live (is_live (count_in jid numbers)) jid (part_of live_noted numbers))
    ∙ ap keys_of (part_same live_noted refl jid numbers up)

pub live_sorted : (numbers : Counts) → IsUp numbers → is_sorted text_cmp (live_in numbers) ≡ true
live_sorted numbers up = keys_sorted (live_in numbers) (up_part live_noted refl numbers up)

-- ## How many are live

length_keys : (counts : Counts) → length (keys_of counts) ≡ length counts
length_keys [] = refl
length_keys (first ∷ rest) = grind (arith, length_keys rest)

pub live_few : (numbers : Counts) → length (live_in numbers) ≤ length numbers
live_few numbers = let same = length_keys (part_of live_noted numbers) in let fewer = part_length live_noted refl numbers in omega (arith, same, fewer)

pub some_live : (jid : Bytes) (live : List Bytes) → is_among jid live ≡ true → 0 < length live
some_live jid [] h = grind (arith, h)
some_live jid (first ∷ live) h = grind arith

after_as : (live : ℕ) (before after : Bool) → len_after live (one_if before) (one_if after) ≡ live_after live before after
after_as live true true = refl
after_as live true false = refl
after_as live false true = refl
after_as live false false = refl

pub live_number : (jid : Bytes) (rows : ℕ) (live : Bool) (numbers : Counts) → IsUp numbers → rows < live_mark
    → length (live_in (with_count jid (number_of rows live) numbers)) ≡ live_after (length (live_in numbers)) (is_among jid (live_in numbers)) live
live_number jid rows live numbers up few =
    let c : Counts = part_of live_noted numbers in
    length_keys (part_of live_noted (with_count jid (number_of rows live) numbers))
    ∙ ap length (part_with live_noted refl jid (number_of rows live) numbers up)
    ∙ ap (λ b. length (with_count jid (one_if b) c)) (is_live_number rows live few)
    ∙ part_len live_noted refl jid (one_if live) numbers up
    ∙ ap (λ n. len_after (length c) n (one_if live)) (part_count live_noted refl jid numbers up)
    ∙ after_as (length c) (is_live (count_in jid numbers)) live
    ∙ ap (λ n. live_after n (is_live (count_in jid numbers)) live) (sym (length_keys c))
    ∙ ap (λ b. live_after (length (live_in numbers)) b live) (sym (live_is jid numbers up))

-- ## What is recorded of a job

pub recorded_by : (r : JobRecord) (n : ℕ) (jid : Bytes) (job : Option Bytes) (numbers : Counts) → IsUp numbers → Some jid ≡ job → n ≡ count_in jid numbers → r.rows ≡ rows_noted n → r.live ≡ is_live n → IsRecordOf r job numbers
recorded_by r n jid job numbers up named is rows live = subst (λ j. IsRecordOf r j numbers) named (record {
  rows = rows ∙ ap rows_noted is ∙ sym (rows_count jid numbers up);
  live = live ∙ ap is_live is ∙ sym (live_is jid numbers up);
})

some_noted : (n : ℕ) → (nat_eq (rows_noted n) 0 && not (is_live n)) ≡ false → 0 < n
some_noted zero h = cc h
some_noted (suc n) h = omega arith

-- something is
pub some_recorded : (r : JobRecord) (jid : Bytes) (numbers : Counts) → IsUp numbers → IsRecordOf r (Some jid) numbers → (nat_eq r.rows 0 && not r.live) ≡ false → 0 < count_in jid numbers
some_recorded r jid numbers up is h =
    some_noted (count_in jid numbers) (ap₂ (λ rows live. nat_eq rows 0 && not live) (sym (is.rows ∙ rows_count jid numbers up)) (sym (is.live ∙ live_is jid numbers up)) ∙ h)

none_rows : (rows : ℕ) (live : Bool) → (nat_eq rows 0 && not live) ≡ true → rows ≡ 0
none_rows zero live h = refl
none_rows (suc n) live h = grind (arith, nat_tests, h)

none_live : (rows : ℕ) (live : Bool) → (nat_eq rows 0 && not live) ≡ true → live ≡ false
none_live zero true h = cc h
none_live (suc n) true h = grind (arith, nat_tests, h)
none_live rows false h = refl

-- Nothing is, and no more from now on.
module _ (r after : JobRecord) (jid : Bytes) (numbers : Counts) (up : IsUp numbers) (is : IsRecordOf r (Some jid) numbers) (none : (nat_eq r.rows 0 && not r.live) ≡ true) where
  pub none_counted : after.rows ≤ r.rows → counts_in numbers ≡ with_count jid after.rows (counts_in numbers)
  none_counted fewer =
      let rows = none_rows r.rows r.live none in
      let same : after.rows ≡ r.rows = omega (arith, fewer, rows) in
      sym (ap (λ n. with_count jid n (counts_in numbers)) (same ∙ is.rows) ∙ rows_same jid numbers up)

  pub none_lives : (after.live ≡ true → r.live ≡ true) → live_in numbers ≡ live_with after.live jid (live_in numbers)
  none_lives was =
      let dead = none_live r.rows r.live none in
      sym (ap (λ b. live_with b jid (live_in numbers)) (same after.live r.live was dead ∙ is.live) ∙ live_same jid numbers up)
    where
      same : (a b : Bool) → (a ≡ true → b ≡ true) → b ≡ false → a ≡ b
      same true b was dead = sym (was refl)
      same false b was dead = sym dead

-- Another number under its id.
module _ (list new : Versions Counts) (jid : Bytes) (n rows : ℕ) (live : Bool) (up : IsUp list.current) (few : rows < live_mark) (number : n ≡ number_of rows live) (put : new ≡ edited (with_count jid n list.current) list) where
  current_is : new.current ≡ with_count jid (number_of rows live) list.current
  current_is = ap (λ l. l.current) put ∙ ap (λ m. with_count jid m list.current) number

  pub put_rows : counts_in new.current ≡ with_count jid rows (counts_in list.current)
  put_rows = ap counts_in current_is ∙ rows_with jid rows live list.current up few

  pub put_live : live_in new.current ≡ live_with live jid (live_in list.current)
  put_live = ap live_in current_is ∙ live_put jid rows live list.current up few

  pub put_same : live ≡ is_among jid (live_in list.current) → live_in new.current ≡ live_in list.current
  put_same same = put_live ∙ ap (λ b. live_with b jid (live_in list.current)) same ∙ live_same jid list.current up

  pub put_same_rows : rows ≡ count_in jid (counts_in list.current) → counts_in new.current ≡ counts_in list.current
  put_same_rows same = put_rows ∙ ap (λ m. with_count jid m (counts_in list.current)) same ∙ rows_same jid list.current up

  pub put_counted : (count count_then count_after : ℕ) (before : Bool) → before ≡ is_among jid (live_in list.current) → count_after ≡ live_after count before live → AreLiveCounted list count count_then → AreLiveCounted new count_after count_then
  put_counted count count_then count_after before was after counted = record {
    current =
        after
        ∙ ap (λ m. live_after m before live) counted.current
        ∙ ap (λ b. live_after (length (live_in list.current)) b live) was
        ∙ sym (live_number jid rows live list.current up few)
        ∙ sym (ap (λ c. length (live_in c)) current_is);
    saved = subst (λ l. IfSome l.saved (λ m. count_then ≡ length (live_in m))) (sym put) counted.saved;
  }
