use Rattle.std.proofs.Common.{◌≡◌, [], length}
use Rattle.sk_resp.specs.Reply.{wire}
use Rattle.sk_resp.specs.ReplyStream.{IsRead}
use Rattle.sk_resp.specs.ReplyMachine.{settled, levels, owed}
use Rattle.sk_resp.specs.declared.reply.state.Stage.TheVariants as stage
use Rattle.sk_resp.proofs.reply.state.State.settle.Given as goal

abbrev pub invariant-loop-level : goal.invariant-loop-level
invariant-loop-level l = record {
  same : settled (levels l.fn.self.stack.items) (wire l.fn.reply) ≡ settled (levels l.self.stack.items) (wire l.whole);
  owed : owed (levels l.fn.self.stack.items) ≡ owed (levels l.self.stack.items);
  size : l.self.size ≡ l.fn.self.size;
  line : l.self.line.items ≡ [];
  stage : l.self.stage ≡ stage.Start;
  read : IsRead l.whole;
}

abbrev pub decreases-loop-level : goal.decreases-loop-level
decreases-loop-level l = length l.self.stack.items
