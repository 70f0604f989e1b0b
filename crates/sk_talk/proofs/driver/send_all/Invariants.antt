use Rattle.std.proofs.Common.{◌≡◌, ◌≤◌, ◌++◌, List}
use Rattle.std.specs.Prelude.{map}
use Rattle.std.specs.Vec.Iter.{drain_items}
use Rattle.sk_base.specs.Outside.{Takes}
use Rattle.sk_resp.specs.Spelling.{joined}
use Rattle.sk_resp.specs.Reply.{wire}
use Rattle.sk_resp.specs.declared.reply.Reply.{Reply}
use Rattle.sk_talk.proofs.driver.send_all.Given as goal

-- The replies so far were sent.
abbrev pub invariant-loop-reply : goal.invariant-loop-reply
invariant-loop-reply g l = record {
  sent : (done : List Reply) × (l.fn.replies.items ≡ done ++ drain_items l.reply-iterator) × Takes (g.K.Sink.taken l.fn.sink) (joined (map wire done)) (g.K.Sink.taken l.sink);
  beside : g.K.Sink.beside_write l.sink ≡ g.K.Sink.beside_write l.fn.sink;
  later : g.K.Sink.write_faults l.fn.sink ≤ g.K.Sink.write_faults l.sink;
}
