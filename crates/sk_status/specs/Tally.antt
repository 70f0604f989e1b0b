-- The tally, line by line.
use Rattle.std.specs.Prelude.{List, [], ◌∷◌, ◌++◌, codes}
use Rattle.sk_resp.specs.Spelling.{Bytes, joined}
use Rattle.sk_status.specs.Line.{line}
use Rattle.sk_status.specs.declared.tally.Tally.{Tally}

-- how rows came
abbrev pub came_lines : Tally → List Bytes
came_lines t = line (codes "outside") t.outside ∷ line (codes "inner") t.inner ∷ line (codes "bare") t.bare ∷ line (codes "again") t.again ∷ []

-- where their jobs are
abbrev pub job_lines : Tally → List Bytes
job_lines t =
    line (codes "live") t.live
    ∷ line (codes "returned") t.returned
    ∷ line (codes "discarded") t.discarded
    ∷ line (codes "deleted") t.deleted
    ∷ line (codes "trimmed") t.trimmed
    ∷ line (codes "muddled") t.muddled
    ∷ []

abbrev pub tally_lines : Tally → List Bytes
tally_lines t = came_lines t ++ job_lines t

abbrev pub tally_bytes : Tally → Bytes
tally_bytes t = joined (tally_lines t)
