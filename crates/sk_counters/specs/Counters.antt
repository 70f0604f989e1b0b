-- The counters under `stat:`: jobs that ran, and runs that failed, in all and of each day.
use Rattle.std.specs.Prelude.{ℕ, suc, ◌++◌, List, Option, min, codes, unwrap_or}
use Rattle.std.specs.Map.{lookup}
use Rattle.std.specs.BTreeMap.{is_at, insert_entry}
use Rattle.std.specs.Cmp.Lexicographic.{slice_cmp}
use Rattle.std.specs.Ordering.{nat_cmp}
use Rattle.std.specs.declared.cmp.Ordering.{Ordering}
use Rattle.sk_base.specs.declared.limits.TheConstants.{LAST_COUNT}
use Rattle.sk_resp.specs.Spelling.{Bytes}
use Rattle.sk_counters.specs.Date.{date_of, text_of}
use Rattle.sk_counters.specs.declared.counters.Counted.{Counted}
use Rattle.sk_counters.specs.declared.counters.Counted.TheVariants.{Processed, Failed}

-- by their bytes
abbrev pub name_cmp : Bytes → Bytes → Ordering
name_cmp = slice_cmp nat_cmp

-- names behind `stat:`, in the order of their bytes, each with its count
abbrev pub Counters : Type 0
Counters = List (Bytes × ℕ)

abbrev pub processed : Bytes
processed = codes "processed"

abbrev pub failed : Bytes
failed = codes "failed"

-- the name of what is counted
abbrev pub name_of : Counted → Bytes
name_of Processed = processed
name_of Failed = failed

-- a counter's name for a day
abbrev pub of_day : Bytes → ℕ → Bytes
of_day name moment = name ++ codes ":" ++ text_of (date_of moment)

abbrev pub count_in : Counters → Bytes → Option ℕ
count_in counters name = lookup (is_at (name_cmp name)) counters

-- A counter stays at the last value of a signed number of 64 bits.
abbrev pub last_count : ℕ
last_count = LAST_COUNT

abbrev pub raised : Bytes → Counters → Counters
raised name counters = insert_entry name_cmp counters name (min last_count (suc (unwrap_or (count_in counters name) 0)))

-- one more, in all and of the day
abbrev pub counted_at : ℕ → Bytes → Counters → Counters
counted_at moment name counters = raised (of_day name moment) (raised name counters)
