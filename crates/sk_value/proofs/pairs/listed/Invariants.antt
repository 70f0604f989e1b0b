use Rattle.std.proofs.Common.{◌≡◌, ◌++◌, map}
use Rattle.std.specs.Vec.Iter.{into_iter_items}
use Rattle.sk_resp.specs.Reply.{wire}
use Rattle.sk_resp.specs.Spelling.{bulk}
use Rattle.sk_value.specs.Sorted.{listed}
use Rattle.sk_value.proofs.pairs.listed.Given as goal

abbrev pub invariant-loop-score : goal.invariant-loop-score
invariant-loop-score l = map wire l.replies.items ++ map bulk (listed l.scores (into_iter_items l.score-iterator)) ≡ map bulk (listed l.scores l.fn.pairs.items)
