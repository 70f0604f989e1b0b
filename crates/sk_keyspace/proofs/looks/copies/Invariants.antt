use Rattle.std.proofs.Common.{◌≡◌, map, take}
use Rattle.sk_resp.specs.Reply.{wire}
use Rattle.sk_resp.specs.Spelling.{bulk}
use Rattle.sk_keyspace.proofs.looks.copies.Given as goal

abbrev pub invariant-loop-at : goal.invariant-loop-at
invariant-loop-at l = map wire l.replies.items ≡ map bulk (take l.at l.places.current.names)
