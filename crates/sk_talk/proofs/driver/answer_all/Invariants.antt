use Rattle.std.proofs.Common.{◌≡◌, ◌≤◌, ◌++◌, List, None, length}
use Rattle.std.specs.Vec.Iter.{drain_items}
use Rattle.sk_base.specs.Outside.{Takes}
use Rattle.sk_resp.specs.Spelling.{Bytes}
use Rattle.sk_resp.specs.Request.{Command}
use Rattle.sk_talk.specs.Talk.{DoesAll, AnswersAll}
use Rattle.sk_talk.proofs.driver.answer_all.Given as goal

-- The commands so far were served, and none of them stopped the talk.
abbrev pub invariant-left : goal.invariant-left
invariant-left g l = record {
  served : (done : List Command) × ((written : Bytes) × (l.fn.commands.items ≡ done ++ drain_items l.left)
      × AnswersAll (DoesAll g.T.Talker.does) None l.fn.talker done l.talker written × Takes (g.K.Sink.taken l.fn.sink) written (g.K.Sink.taken l.sink));
  beside : g.K.Sink.beside_write l.sink ≡ g.K.Sink.beside_write l.fn.sink;
  later : g.K.Sink.write_faults l.fn.sink ≤ g.K.Sink.write_faults l.sink;
}

abbrev pub decreases-left : goal.decreases-left
decreases-left g l = length (drain_items l.left)
