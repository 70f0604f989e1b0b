use Rattle.std.proofs.Common.{◌≡◌, ◌<◌, ◌≤◌, ◌+◌, ◌^◌, ◌-◌, List, None, length}
use Rattle.sk_base.specs.Outside.{Gives, Takes}
use Rattle.sk_resp.specs.Spelling.{Bytes}
use Rattle.sk_resp.specs.Request.{Command}
use Rattle.sk_resp.specs.Stream.{Reads}
use Rattle.sk_talk.specs.Talk.{DoesAll, AnswersAll}
use Rattle.sk_talk.proofs.driver.relay.Given as goal

-- The bytes so far were read, and their commands served, none of which stopped the talk.
abbrev pub invariant-loop-count : goal.invariant-loop-count
invariant-loop-count g l = record {
  so_far : (bytes : Bytes) × ((commands : List Command) × ((written : Bytes) × Gives (g.S.Source.left l.fn.source) bytes (g.S.Source.left l.source)
      × Takes (g.K.Sink.taken l.fn.sink) written (g.K.Sink.taken l.sink) × Reads bytes commands l.feeder.rest × AnswersAll (DoesAll g.T.Talker.does) None l.fn.talker commands l.talker written × (length bytes ≡ l.count)));
  -- no piece was begun behind the budget
  spent : l.count < 2 ^ 40 + 65536;
  sound : l.feeder.fault ≡ None;
  source_count : g.S.Source.read_faults l.fn.source ≤ g.S.Source.read_faults l.source;
  sink_count : g.K.Sink.write_faults l.fn.sink ≤ g.K.Sink.write_faults l.sink;
}

abbrev pub decreases-loop-count : goal.decreases-loop-count
decreases-loop-count g l = 2 ^ 40 - l.count
