use Rattle.std.proofs.Common.{arith}
use Rattle.sk_edge.proofs.Requests.{lacks_all, lacks_more, stands_first}
use Rattle.sk_edge.proofs.request_line.find.Goals as goal

pub returns-then-bytes-at : goal.returns-then-bytes-at
returns-then-bytes-at c = stands_first c.args.byte c.args.bytes.now c.loop-at.at (omega arith) c.if-bytes-at.true c.loop-at.invariant

pub loop-at-preserved : goal.loop-at-preserved
loop-at-preserved c = lacks_more c.args.byte c.args.bytes.now c.loop-at.at (omega arith) c.if-bytes-at.false c.loop-at.invariant

pub returns : goal.returns
returns c = lacks_all c.args.byte c.args.bytes.now c.loop-at.at (omega arith) c.loop-at.invariant
