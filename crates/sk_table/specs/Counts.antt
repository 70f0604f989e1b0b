-- How much is counted under each text: in the order of the texts, and no text of which there is none.
use Rattle.std.specs.Prelude.{◌^◌, ◌-◌, ◌+◌, ◌&&◌, ℕ, Bool, List, [], ◌∷◌, ◌++◌, Option, Some, None, cond, filter, map, nat_eq, not, unwrap_or}
use Rattle.std.specs.BTreeMap.{is_at}
use Rattle.std.specs.List.{list_any}
use Rattle.std.specs.Map.{keys_of}
use Rattle.sk_resp.specs.Spelling.{Bytes}
use Rattle.sk_resp.specs.WordOrder.{text_cmp}
use Rattle.sk_undo.specs.Versions.{Versions}
use Rattle.sk_table.specs.Entries.{at, with_text, without_text}
use Rattle.sk_table.specs.declared.logged.Logged.{Logged}

abbrev pub Counts : Type 0
Counts = List (Bytes × ℕ)

-- how much is counted under the text
abbrev pub count_in : Bytes → Counts → ℕ
count_in text counts = unwrap_or (at text counts) 0

-- with so many under the text
abbrev pub with_count : Bytes → ℕ → Counts → Counts
with_count text count counts = cond (nat_eq count 0) (without_text text counts) (with_text text count counts)

-- no count is greater
abbrev pub most_count : ℕ
most_count = 2 ^ 32 - 1

-- how many texts count, where one of them counted so many before and so many after
abbrev pub len_after : ℕ → ℕ → ℕ → ℕ
len_after len before after = cond (nat_eq before 0 && not (nat_eq after 0)) (len + 1) (cond (not (nat_eq before 0) && nat_eq after 0) (len - 1) len)

-- ## As the code keeps them

-- without the entries that count none
abbrev pub counted : Counts → Counts
counted entries = filter (λ entry. not (nat_eq entry.1 0)) entries

module _ {K : Type 0} where
  -- the log of an open step with one more edit
  abbrev pub noted : Bool → Logged K → List (Logged K) → List (Logged K)
  noted in_step edit log = cond in_step (log ++ edit ∷ []) log

module _ {K : Type 0} (text_of : K → Bytes) where
  -- what was counted before the edits of the log, the last of which stands last
  abbrev pub rewound : List (Logged K) → Counts → Counts
  rewound [] counts = counts
  rewound (edit ∷ log) counts = with_count (text_of edit.key) edit.count (rewound log counts)

  -- what counts now, and what did at the begin of an open step
  abbrev pub counts_in : Bool → List (Logged K) → Counts → Versions Counts
  counts_in in_step log entries = record { current = counted entries; saved = cond in_step (Some (rewound log (counted entries))) None }

  -- the texts whose counts can be changed without memory: while a step is in_step, those of which the log has what they were
  abbrev pub ready_in : Bool → List (Logged K) → Counts → List Bytes
  ready_in in_step log entries = cond in_step (map (λ edit. text_of edit.key) log) (keys_of entries)

abbrev pub is_among : Bytes → List Bytes → Bool
is_among text texts = list_any (is_at (text_cmp text)) texts
