use Rattle.sk_serve.specs.Session.{seen}
use Rattle.sk_serve.proofs.Seated.{same_desk, same_clock, seen_ends}
use Rattle.sk_serve.proofs.driver.talk.Goals as goal

pub returns-clause-desk : goal.returns-clause-desk
returns-clause-desk g c =
    let talked = c.converse.ensures.ends in
    same_desk g.D.Desk.wants_words c.args.sitting.now c.converse.new.talker (λ s. seen g.D.Desk.calls g.D.Desk.acked g.K.Clock.moments s.desk.now s.clock.now)
    (λ s. s.desk.ghost_name) (λ s. s.clock.ghost_name) c.converse.result talked.0 (g.C.Source.left c.converse.new.conn) talked.1 talked.2.1

pub returns-clause-clock : goal.returns-clause-clock
returns-clause-clock g c =
    let talked = c.converse.ensures.ends in
    same_clock g.D.Desk.wants_words c.args.sitting.now c.converse.new.talker (λ s. seen g.D.Desk.calls g.D.Desk.acked g.K.Clock.moments s.desk.now s.clock.now)
    (λ s. s.desk.ghost_name) (λ s. s.clock.ghost_name) c.converse.result talked.0 (g.C.Source.left c.converse.new.conn) talked.1 talked.2.1

pub returns-clause-ends : goal.returns-clause-ends
returns-clause-ends g c =
    let talked = c.converse.ensures.ends in
    record {
      bytes = talked.0;
      written = talked.1;
      moves = talked.2.0;
      ends = seen_ends g.D.Desk.wants_words c.args.sitting.now c.converse.new.talker (λ s. seen g.D.Desk.calls g.D.Desk.acked g.K.Clock.moments s.desk.now s.clock.now)
          (λ s. s.desk.ghost_name) (λ s. s.clock.ghost_name) c.converse.result talked.0 (g.C.Source.left c.converse.new.conn) talked.1 talked.2.1;
    }
