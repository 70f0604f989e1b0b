use Rattle.std.proofs.Common.{◌≡◌, drop, take, map}
use Rattle.sk_resp.specs.Reply.{wire}
use Rattle.sk_resp.specs.Spelling.{bulk}
use Rattle.sk_value.proofs.items.Items.part.Given as goal

abbrev pub invariant-loop-at : goal.invariant-loop-at
invariant-loop-at l = map wire l.replies.items ≡ map bulk (drop l.start (take l.at l.self))
