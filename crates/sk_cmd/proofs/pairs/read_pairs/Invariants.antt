use Rattle.std.proofs.Common.{[], List, length}
use Rattle.sk_resp.specs.Spelling.{Bytes}
use Rattle.sk_cmd.specs.Reading.{Read}
use Rattle.sk_cmd.specs.Arguments.{IsPairs}
use Rattle.sk_cmd.proofs.pairs.read_pairs.Given as goal

abbrev pub invariant-loop-field : goal.invariant-loop-field
invariant-loop-field l = (out : Read (List (Bytes × Bytes))) → IsPairs l.words.rest.items l.list.items out → IsPairs l.fn.words [] out

abbrev pub decreases-loop-field : goal.decreases-loop-field
decreases-loop-field l = length l.words.rest.items
