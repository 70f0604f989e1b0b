use Rattle.std.proofs.Common.{[], List, length}
use Rattle.std.specs.Prelude.{ℤ}
use Rattle.sk_resp.specs.Spelling.{Bytes}
use Rattle.sk_cmd.specs.Reading.{Read}
use Rattle.sk_cmd.specs.Arguments.{IsScores}
use Rattle.sk_cmd.proofs.pairs.read_scores.Given as goal

abbrev pub invariant-loop-score : goal.invariant-loop-score
invariant-loop-score l = (out : Read (List (ℤ × Bytes))) → IsScores l.words.rest.items l.list.items out → IsScores l.fn.words [] out

abbrev pub decreases-loop-score : goal.decreases-loop-score
decreases-loop-score l = length l.words.rest.items
