use Rattle.std.proofs.Common.{◌≡◌, ◌-◌, ◌≤◌, List, take, length, map}
use Rattle.sk_resp.specs.Reply.{wire}
use Rattle.sk_resp.specs.ReplyStream.{AddsReplies}
use Rattle.sk_resp.specs.ReplyMachine.{IsHeard, run_within, gives, says}
use Rattle.sk_resp.specs.declared.reply.Reply.{Reply}
use Rattle.sk_resp.proofs.reply.state.State.take_all.Given as goal

-- the bytes so far gave the replies that were added
abbrev pub invariant-loop-at : goal.invariant-loop-at
invariant-loop-at l = record {
  heard : IsHeard l.self;
  within : l.at ≤ length l.piece;
  so_far : (added : List Reply) × AddsReplies l.fn.out.items l.out.items added × (run_within (says l.fn.self) (take l.at l.piece) ≡ gives (map wire added) (says l.self));
}

abbrev pub decreases-loop-at : goal.decreases-loop-at
decreases-loop-at l = length l.piece - l.at
