use Rattle.std.proofs.Common.{◌≡◌, ◌++◌, map, take}
use Rattle.sk_resp.specs.Spelling.{joined}
use Rattle.sk_resp.specs.Reply.{wire}
use Rattle.sk_resp.proofs.reply.+write_reply.Given as goal

-- the replies so far were written
abbrev pub invariant-loop-reply : goal.invariant-loop-reply
invariant-loop-reply l = l.out.items ≡ l.initial.out.items ++ joined (map wire (take l.reply-index l.reply-items))
