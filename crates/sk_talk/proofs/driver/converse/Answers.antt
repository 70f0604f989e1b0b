use Rattle.std.proofs.Common.{◌++◌, [], take, refl, ap, sym, arith, subst, Ok, None, length-append, length-take, lit<}
use Rattle.sk_base.specs.Outside.{Gives, Takes}
use Rattle.sk_base.proofs.OutsideLaws.{gives_nothing, takes_nothing, gives_no_more, gives_more, takes_more}
use Rattle.sk_resp.proofs.Readings.{reads_on}
use Rattle.sk_resp.proofs.Fewer.{reads_nothing}
use Rattle.sk_talk.proofs.Talking.{serves_nothing, serves_on, ends_at, ends_on, nothing_left}
use Rattle.sk_talk.proofs.driver.converse.Goals as goal

pub loop-count-init : goal.loop-count-init
loop-count-init g c = record {
  so_far = (
    [],
    (
      [],
      (
        [],
        gives_nothing (g.C.Source.left c.args.conn.now),
        takes_nothing (g.C.Sink.taken c.args.conn.now),
        rw c.new-feeder.ensures reads_nothing,
        serves_nothing g.T.Talker.does c.args.talker.now,
        refl,
      ),
    ),
  );
  spent = lit< tt;
  sound = rw c.new-feeder.ensures refl;
  read_count = omega arith;
  write_count = omega arith;
}

pub returns-then-n-eq0-clause-ends : goal.returns-then-n-eq0-clause-ends
returns-then-n-eq0-clause-ends g c =
    let so_far = c.loop-count.invariant.so_far in
    let was = so_far.1.1 in
    let left = g.C.Source.left in
    let taken = g.C.Sink.taken in
    let now = c.read_over.new.conn in
    let nothing : Gives (left c.loop-count.conn) [] (left now) = subst (λ m. Gives (left c.loop-count.conn) (take m c.read_over.new.buf) (left now)) c.if-n-eq0.true c.in-Ok.ensures.told in (
      so_far.0,
      was.0,
      (
        record {
          gave = gives_no_more (left c.args.conn.now) so_far.0 (left c.loop-count.conn) (left now) was.1 nothing;
          took = subst (λ z. Takes (taken c.args.conn.now) was.0 z) (sym c.in-Ok.ensures.taken) was.2;
        },
        ends_at g.T.Talker.does c.args.talker.now c.loop-count.talker c.end_of_input.result so_far.0 c.loop-count.feeder.rest so_far.1.0 was.0 (left now) c.end_of_input.ensures was.3 was.4
            (nothing_left (left c.loop-count.conn) (left now) nothing (c.in-Ok.ensures.end (ap Ok c.if-n-eq0.true) (omega arith))),
      ),
    )

pub returns-in-Err-clause-ends : goal.returns-in-Err-clause-ends
returns-in-Err-clause-ends g c =
    let so_far = c.loop-count.invariant.so_far in
    let was = so_far.1.1 in
    let left = g.C.Source.left in
    let taken = g.C.Sink.taken in
    let now = c.pass_over.new.conn in
    let err = c.in-Err.ensures in
    let stopped = err.stopped in
    let piece = take c.in-Ok.n c.read_over.new.buf in
    let told : Gives (left c.loop-count.conn) piece (left now) = subst (λ z. Gives (left c.loop-count.conn) piece z) (sym err.left) c.in-Ok.ensures.told in
    let took : Takes (taken c.loop-count.conn) stopped.1.0 (taken now) = subst (λ z. Takes z stopped.1.0 (taken now)) c.in-Ok.ensures.taken stopped.1.1 in (
      so_far.0 ++ piece,
      was.0 ++ stopped.1.0,
      (
        record {
          gave = gives_more (left c.args.conn.now) so_far.0 (left c.loop-count.conn) piece (left now) was.1 told;
          took = takes_more (taken c.args.conn.now) was.0 (taken c.loop-count.conn) stopped.1.0 (taken now) was.2 took;
        },
        ends_on g.T.Talker.does c.args.talker.now c.loop-count.talker c.pass_over.new.talker c.in-Err.end so_far.0 piece c.loop-count.feeder.rest so_far.1.0 was.0 stopped.1.0 (left now) stopped.0 was.3 was.4 (stopped.1.2 (left now)),
      ),
    )

pub loop-count-preserved : goal.loop-count-preserved
loop-count-preserved g c =
    let so_far = c.loop-count.invariant.so_far in
    let was = so_far.1.1 in
    let left = g.C.Source.left in
    let taken = g.C.Sink.taken in
    let now = c.pass_over.new.conn in
    let passed = c.in-Ok-pass_over.ensures in
    let on = passed.on in
    let new = on.1.1 in
    let piece = take c.in-Ok.n c.read_over.new.buf in
    let told : Gives (left c.loop-count.conn) piece (left now) = subst (λ z. Gives (left c.loop-count.conn) piece z) (sym passed.left) c.in-Ok.ensures.told in
    let took : Takes (taken c.loop-count.conn) new.0 (taken now) = subst (λ z. Takes z new.0 (taken now)) c.in-Ok.ensures.taken new.3 in
    record {
      so_far = (
        so_far.0 ++ piece,
        (
          so_far.1.0 ++ on.1.0,
          (
            was.0 ++ new.0,
            gives_more (left c.args.conn.now) so_far.0 (left c.loop-count.conn) piece (left now) was.1 told,
            takes_more (taken c.args.conn.now) was.0 (taken c.loop-count.conn) new.0 (taken now) was.2 took,
            reads_on so_far.0 piece c.loop-count.feeder.rest c.pass_over.new.feeder.rest so_far.1.0 on.1.0 was.3 new.1,
            serves_on g.T.Talker.does None c.args.talker.now c.loop-count.talker c.pass_over.new.talker so_far.1.0 on.1.0 was.0 new.0 was.4 new.2,
            omega (arith, was.5, length-append so_far.0 piece, length-take c.in-Ok.n c.read_over.new.buf, c.in-Ok.ensures.within, c.read_over.auto.buf),
          ),
        ),
      );
      spent = omega (arith, length-take c.in-Ok.n c.read_over.new.buf, c.in-Ok.ensures.within, c.read_over.auto.buf, c.loop-count-test.true);
      sound = on.0;
      read_count = omega (arith, c.in-Ok.ensures.cause.later, passed.reads);
      write_count = omega (arith, c.in-Ok.ensures.writes, passed.later);
    }

pub returns-in_default-clause-ends : goal.returns-in_default-clause-ends
returns-in_default-clause-ends g c =
    let so_far = c.loop-count.invariant.so_far in
    let was = so_far.1.1 in
    let left = g.C.Source.left in
    let taken = g.C.Sink.taken in (
      so_far.0,
      was.0,
      (
        record {
          gave = subst (λ z. Gives (left c.args.conn.now) so_far.0 z) (sym c.in_default.ensures.err) was.1;
          took = subst (λ z. Takes (taken c.args.conn.now) was.0 z) (sym c.in_default.ensures.taken) was.2;
        },
        (so_far.1.0, (c.loop-count.feeder.rest, was.3, was.4)),
      ),
    )

pub returns-clause-ends : goal.returns-clause-ends
returns-clause-ends g c =
    let so_far = c.loop-count.invariant.so_far in
    let was = so_far.1.1 in (
      so_far.0,
      was.0,
      (
        record { gave = was.1; took = was.2 },
        (so_far.1.0, (c.loop-count.feeder.rest, was.3, was.4, (omega (arith, was.5, c.loop-count-test.false), omega (arith, was.5, c.loop-count.invariant.spent)))),
      ),
    )
