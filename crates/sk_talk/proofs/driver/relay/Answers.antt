use Rattle.std.proofs.Common.{◌++◌, [], take, refl, ap, sym, arith, subst, Ok, None, length-append, length-take, lit<}
use Rattle.sk_base.specs.Outside.{Gives}
use Rattle.sk_base.proofs.OutsideLaws.{gives_nothing, takes_nothing, gives_no_more, gives_more, takes_more}
use Rattle.sk_resp.proofs.Readings.{reads_on}
use Rattle.sk_resp.proofs.Fewer.{reads_nothing}
use Rattle.sk_talk.proofs.Talking.{serves_nothing, serves_on, ends_at, ends_on, nothing_left}
use Rattle.sk_talk.proofs.driver.relay.Goals as goal

pub loop-count-init : goal.loop-count-init
loop-count-init g c = record {
  so_far = (
    [],
    (
      [],
      (
        [],
        gives_nothing (g.S.Source.left c.args.source.now),
        takes_nothing (g.K.Sink.taken c.args.sink.now),
        rw c.new-feeder.ensures reads_nothing,
        serves_nothing g.T.Talker.does c.args.talker.now,
        refl,
      ),
    ),
  );
  spent = lit< tt;
  sound = rw c.new-feeder.ensures refl;
  source_count = omega arith;
  sink_count = omega arith;
}

pub returns-then-n-eq0-clause-ends : goal.returns-then-n-eq0-clause-ends
returns-then-n-eq0-clause-ends g c =
    let so_far = c.loop-count.invariant.so_far in
    let was = so_far.1.1 in
    let nothing : Gives (g.S.Source.left c.loop-count.source) [] (g.S.Source.left c.read.new.self) = subst (λ m. Gives (g.S.Source.left c.loop-count.source) (take m c.read.new.buf) (g.S.Source.left c.read.new.self)) c.if-n-eq0.true c.in-Ok.ensures.told in (
      so_far.0,
      was.0,
      (
        record { gave = gives_no_more (g.S.Source.left c.args.source.now) so_far.0 (g.S.Source.left c.loop-count.source) (g.S.Source.left c.read.new.self) was.1 nothing; took = was.2 },
        ends_at g.T.Talker.does c.args.talker.now c.loop-count.talker c.end_of_input.result so_far.0 c.loop-count.feeder.rest so_far.1.0 was.0 (g.S.Source.left c.read.new.self) c.end_of_input.ensures was.3 was.4
            (nothing_left (g.S.Source.left c.loop-count.source) (g.S.Source.left c.read.new.self) nothing (c.in-Ok.ensures.end (ap Ok c.if-n-eq0.true) (omega arith))),
      ),
    )

pub returns-in-Err-clause-ends : goal.returns-in-Err-clause-ends
returns-in-Err-clause-ends g c =
    let so_far = c.loop-count.invariant.so_far in
    let was = so_far.1.1 in
    let stopped = c.in-Err.ensures.stopped in
    let piece = take c.in-Ok.n c.read.new.buf in (
      so_far.0 ++ piece,
      was.0 ++ stopped.1.0,
      (
        record {
          gave = gives_more (g.S.Source.left c.args.source.now) so_far.0 (g.S.Source.left c.loop-count.source) piece (g.S.Source.left c.read.new.self) was.1 c.in-Ok.ensures.told;
          took = takes_more (g.K.Sink.taken c.args.sink.now) was.0 (g.K.Sink.taken c.loop-count.sink) stopped.1.0 (g.K.Sink.taken c.pass.new.sink) was.2 stopped.1.1;
        },
        ends_on g.T.Talker.does c.args.talker.now c.loop-count.talker c.pass.new.talker c.in-Err.end so_far.0 piece c.loop-count.feeder.rest so_far.1.0 was.0 stopped.1.0 (g.S.Source.left c.read.new.self) stopped.0 was.3 was.4 (stopped.1.2 (g.S.Source.left c.read.new.self)),
      ),
    )

pub loop-count-preserved : goal.loop-count-preserved
loop-count-preserved g c =
    let so_far = c.loop-count.invariant.so_far in
    let was = so_far.1.1 in
    let on = c.in-Ok-pass.ensures.on in
    let new = on.1.1 in
    let piece = take c.in-Ok.n c.read.new.buf in
    record {
      so_far = (
        so_far.0 ++ piece,
        (
          so_far.1.0 ++ on.1.0,
          (
            was.0 ++ new.0,
            gives_more (g.S.Source.left c.args.source.now) so_far.0 (g.S.Source.left c.loop-count.source) piece (g.S.Source.left c.read.new.self) was.1 c.in-Ok.ensures.told,
            takes_more (g.K.Sink.taken c.args.sink.now) was.0 (g.K.Sink.taken c.loop-count.sink) new.0 (g.K.Sink.taken c.pass.new.sink) was.2 new.3,
            reads_on so_far.0 piece c.loop-count.feeder.rest c.pass.new.feeder.rest so_far.1.0 on.1.0 was.3 new.1,
            serves_on g.T.Talker.does None c.args.talker.now c.loop-count.talker c.pass.new.talker so_far.1.0 on.1.0 was.0 new.0 was.4 new.2,
            omega (arith, was.5, length-append so_far.0 piece, length-take c.in-Ok.n c.read.new.buf, c.in-Ok.ensures.within, c.read.auto.buf),
          ),
        ),
      );
      spent = omega (arith, length-take c.in-Ok.n c.read.new.buf, c.in-Ok.ensures.within, c.read.auto.buf, c.loop-count-test.true);
      sound = on.0;
      source_count = omega (arith, c.in-Ok.ensures.cause.later);
      sink_count = omega (arith, c.in-Ok-pass.ensures.later);
    }

pub returns-in_default-clause-ends : goal.returns-in_default-clause-ends
returns-in_default-clause-ends g c =
    let so_far = c.loop-count.invariant.so_far in
    let was = so_far.1.1 in
    let left = g.S.Source.left in (
      so_far.0,
      was.0,
      (
        record { gave = subst (λ z. Gives (left c.args.source.now) so_far.0 z) (sym c.in_default.ensures.err) was.1; took = was.2 },
        (so_far.1.0, (c.loop-count.feeder.rest, was.3, was.4)),
      ),
    )

pub returns-clause-ends : goal.returns-clause-ends
returns-clause-ends g c =
    let so_far = c.loop-count.invariant.so_far in
    let was = so_far.1.1 in (
      so_far.0,
      was.0,
      (
        record { gave = was.1; took = was.2 },
        (so_far.1.0, (c.loop-count.feeder.rest, was.3, was.4, (omega (arith, was.5, c.loop-count-test.false), omega (arith, was.5, c.loop-count.invariant.spent)))),
      ),
    )
