use Rattle.std.proofs.Common.{◌≡◌, ◌<◌, ◌≤◌, ◌+◌, ◌^◌, ◌-◌, List, None, length}
use Rattle.sk_base.specs.Outside.{Gives, Takes}
use Rattle.sk_resp.specs.Spelling.{Bytes}
use Rattle.sk_resp.specs.Request.{Command}
use Rattle.sk_resp.specs.Stream.{Reads}
use Rattle.sk_talk.specs.Talk.{DoesAll, AnswersAll}
use Rattle.sk_talk.proofs.driver.converse.Given as goal

-- The bytes so far were read, and their commands served, none of which stopped the talk.
abbrev pub invariant-loop-count : goal.invariant-loop-count
invariant-loop-count g l = record {
  so_far : (bytes : Bytes) × ((commands : List Command) × ((written : Bytes) × Gives (g.C.Source.left l.fn.conn) bytes (g.C.Source.left l.conn)
      × Takes (g.C.Sink.taken l.fn.conn) written (g.C.Sink.taken l.conn) × Reads bytes commands l.feeder.rest × AnswersAll (DoesAll g.T.Talker.does) None l.fn.talker commands l.talker written × (length bytes ≡ l.count)));
  -- no piece was begun behind the budget
  spent : l.count < 2 ^ 40 + 65536;
  sound : l.feeder.fault ≡ None;
  read_count : g.C.Source.read_faults l.fn.conn ≤ g.C.Source.read_faults l.conn;
  write_count : g.C.Sink.write_faults l.fn.conn ≤ g.C.Sink.write_faults l.conn;
}

abbrev pub decreases-loop-count : goal.decreases-loop-count
decreases-loop-count g l = 2 ^ 40 - l.count
