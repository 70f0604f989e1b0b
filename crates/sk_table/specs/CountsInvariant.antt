-- What holds of counts with undo.
use Rattle.std.specs.Prelude.{◌≡◌, ◌≤◌, ℕ, Bool, true, false, List, [], length}
use Rattle.std.specs.List.{AllByRecursion}
use Rattle.std.specs.Option.{is_some}
use Rattle.sk_resp.specs.Spelling.{Bytes}
use Rattle.sk_undo.specs.Balance.{most}
use Rattle.sk_table.specs.Counts.{Counts, counted, rewound}
use Rattle.sk_table.specs.Entries.{at}
use Rattle.sk_table.specs.declared.logged.Logged.{Logged}

module _ {K : Type 0} (text_of : K → Bytes) where
  -- each text of the log has an entry
  abbrev pub AreThere : List (Logged K) → Counts → Type 0
  AreThere log entries = AllByRecursion (λ edit. is_some (at (text_of edit.key) entries) ≡ true) log

  pub record AreCounts (in_step : Bool) (log : List (Logged K)) (entries : Counts) (len len_then : ℕ) : Type 0 where
    pub there : AreThere log entries
    pub idle : in_step ≡ false → log ≡ []
    pub is_len : len ≡ length (counted entries)
    pub was_len : in_step ≡ true → len_then ≡ length (rewound text_of log (counted entries))
    pub small : len ≤ most
    pub was_small : len_then ≤ most

-- each text that had an entry has one
abbrev pub Keeps : Counts → Counts → Type 0
Keeps before after = (text : Bytes) → is_some (at text before) ≡ true → is_some (at text after) ≡ true
