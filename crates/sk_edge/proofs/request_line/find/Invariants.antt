use Rattle.std.proofs.Common.{take}
use Rattle.sk_edge.specs.RequestLine.{Lacks}
use Rattle.sk_edge.proofs.request_line.find.Given as goal

abbrev pub invariant-loop-at : goal.invariant-loop-at
invariant-loop-at l = Lacks l.byte (take l.at l.bytes)
