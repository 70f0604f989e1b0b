use Rattle.std.proofs.Common.{◌≡◌, ◌≤◌, ◌-◌, ◌^◌, length, take, None}
use Rattle.sk_resp.specs.ReplyStream.{IsReplyPart}
use Rattle.sk_link.specs.Wire.{unread_of}
use Rattle.sk_link.proofs.receiving.receive.Given as goal

-- the reader was given the front of the buffer, and holds the first part of a reply
abbrev pub invariant-loop-found : goal.invariant-loop-found
invariant-loop-found g l = record {
  within : l.at ≤ length l.buffer.items;
  given : l.feeder.rest ≡ take l.at l.buffer.items;
  goes_on : l.feeder.fault ≡ None;
  part : IsReplyPart l.feeder.rest;
  same : unread_of l.buffer.items (g.S.Source.left l.source) ≡ unread_of l.fn.buffer.items (g.S.Source.left l.fn.source);
  beside : g.S.Source.beside_read l.source ≡ g.S.Source.beside_read l.fn.source;
  count : g.S.Source.read_faults l.source ≡ g.S.Source.read_faults l.fn.source;
}

-- a first part of a reply has fewer bytes than a reply may have
abbrev pub decreases-loop-found : goal.decreases-loop-found
decreases-loop-found g l = 2 ^ 32 - length l.buffer.items
