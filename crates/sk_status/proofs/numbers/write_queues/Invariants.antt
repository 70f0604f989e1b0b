use Rattle.std.proofs.Common.{◌≡◌, ◌++◌, take}
use Rattle.sk_resp.specs.Spelling.{joined}
use Rattle.sk_status.specs.Page.{queue_lines}
use Rattle.sk_status.proofs.numbers.write_queues.Given as goal

abbrev pub invariant-loop-name : goal.invariant-loop-name
invariant-loop-name l = l.out.items ≡ l.initial.out.items ++ joined (queue_lines (take l.name-index l.name-items))
