use Rattle.std.proofs.Common.{◌≡◌, ◌≤◌, ◌-◌, ◌++◌, length, take, None}
use Rattle.sk_resp.specs.ReplyStream.{IsReplyPart}
use Rattle.sk_link.proofs.receiving.parse.Given as goal

-- the reader was given the bytes in front, and holds the first part of a reply
abbrev pub invariant-loop-at : goal.invariant-loop-at
invariant-loop-at l = record {
  within : l.at ≤ length l.bytes;
  kept : l.feeder.rest ≡ l.fn.feeder.rest ++ take l.at l.bytes;
  goes_on : l.feeder.fault ≡ None;
  part : IsReplyPart l.feeder.rest;
}

abbrev pub decreases-loop-at : goal.decreases-loop-at
decreases-loop-at l = length l.bytes - l.at
