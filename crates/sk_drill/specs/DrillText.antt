-- The text of a drill's summary.
use Rattle.std.specs.Prelude.{ℕ, [], ◌∷◌, ◌++◌, codes}
use Rattle.std.specs.Fmt.{decimal}
use Rattle.sk_resp.specs.Spelling.{Bytes, lf}
use Rattle.sk_status.specs.Tally.{tally_bytes}
use Rattle.sk_drill.specs.declared.summary.Summary.{Summary}

-- how many workers and crashes there were, and how many events
abbrev pub drill_end_lines : ℕ → ℕ → ℕ → Bytes
drill_end_lines workers crashes events =
    codes " workers " ++ (decimal workers ++ (codes " crashes " ++ (decimal crashes ++ ((lf ∷ codes "events ") ++ (decimal events ++ lf ∷ [])))))

-- what was run, and how many events there were
abbrev pub drill_lines : ℕ → ℕ → ℕ → ℕ → ℕ → Bytes
drill_lines seed jobs workers crashes events =
    codes "drill seed " ++ (decimal seed ++ (codes " jobs " ++ (decimal jobs ++ drill_end_lines workers crashes events)))

-- below it the tally, a line for each number
abbrev pub drill_text : ℕ → ℕ → ℕ → ℕ → Summary → Bytes
drill_text seed jobs workers crashes s = drill_lines seed jobs workers crashes s.events ++ tally_bytes s.tally
