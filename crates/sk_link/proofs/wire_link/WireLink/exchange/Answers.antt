use Rattle.std.proofs.Common.{◌≡◌, refl, ap, subst, sym, ◌∙◌, arith, Option}
use Rattle.std.specs.Prelude.{IfOk, IfErr, OnErr, OnOk}
use Rattle.sk_base.specs.Outside.{Gives, Takes}
use Rattle.sk_resp.specs.Reply.{wire}
use Rattle.sk_resp.specs.Request.{array}
use Rattle.sk_link.specs.Fault.{IsReplyCause}
use Rattle.sk_link.specs.Wire.{ComesThen, WireState, WireTells, unread_of, wire_tells}
use Rattle.sk_link.proofs.Comes.{received}
use Rattle.sk_link.proofs.wire_link.WireLink.exchange.Goals as goal

pub returns-in-Ok-clause-came : goal.returns-in-Ok-clause-came
returns-in-Ok-clause-came g c =
    let old = c.self.inside in
    let first : WireState _ = record { conn = old.conn; pending = old.buffer.items; ended = old.ended } in
    let conn = c.receive_over.new.conn in
    let buffer = c.receive_over.new.buffer.items in
    let last : WireState _ = record { conn = conn; pending = buffer; ended = old.ended } in
    let taken = g.C.Sink.taken in
    let left = g.C.Source.left in
    let reads = g.C.Source.read_faults in
    let writes = g.C.Sink.write_faults in
    let request = c.args.words.now in
    let result = c.receive_over.result in
    let sent = c.send_over.ensures in
    let got = c.receive_over.ensures in
    let after : WireTells = wire_tells taken left reads writes last in
    subst (λ s. ComesThen (wire_tells taken left reads writes s) request result after) c.self.view_is
    (received (wire_tells taken left reads writes first) after request result (ap (λ (s : WireState _). s.ended) c.self.view_is ∙ c.requires) (record {
      counts = record {
        reads = reads old.conn;
        writes = writes old.conn;
        reads_now = reads conn;
        writes_now = writes conn;
        was = refl;
        is = refl;
        later = omega (arith, sent.reads, got.later);
        behind = omega (arith, sent.later, got.writes);
      };
      writes = got.writes ∙ c.in-Ok.ensures.whole;
      whole = subst (λ n. OnOk result (reads conn ≡ n)) sent.reads got.whole;
      sent = subst (λ o. Takes (taken old.conn) (array request) o) (sym got.taken) c.in-Ok.ensures.ok;
      given = subst (λ (o : Option _). IfOk result (λ reply. Gives (unread_of old.buffer.items o) (wire reply) (unread_of buffer (left conn)))) sent.left got.ok;
      text = got.text;
      kept = subst (λ (o : Option _). OnErr result (unread_of buffer (left conn) ≡ unread_of old.buffer.items o)) sent.left got.err;
      cause = subst (λ n. IfErr result (IsReplyCause n (reads conn) (unread_of buffer (left conn)))) sent.reads got.cause;
    }))
