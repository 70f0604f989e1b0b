-- The text of a soak's summary.
use Rattle.std.specs.Prelude.{ℕ, [], ◌∷◌, ◌++◌, codes}
use Rattle.std.specs.Fmt.{decimal}
use Rattle.sk_resp.specs.Spelling.{Bytes, lf}
use Rattle.sk_status.specs.Tally.{tally_bytes}
use Rattle.sk_drill.specs.declared.summary.Summary.{Summary}

-- what was run, and how many events there were
abbrev pub front_lines : ℕ → ℕ → ℕ → Bytes
front_lines seed jobs events = codes "soak seed " ++ (decimal seed ++ (codes " jobs " ++ (decimal jobs ++ ((lf ∷ codes "events ") ++ (decimal events ++ lf ∷ [])))))

-- below it the tally, a line for each number
abbrev pub soak_text : ℕ → ℕ → Summary → Bytes
soak_text seed jobs s = front_lines seed jobs s.events ++ tally_bytes s.tally
