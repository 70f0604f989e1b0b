use Rattle.std.proofs.Common.{◌∙◌, ◌+◌, ap, arith, inl, refl, subst, sym, None, Some}
use Rattle.std.specs.Prelude.{◌≡◌}
use Rattle.sk_serve.specs.Attending.{Attends}
use Rattle.sk_serve.specs.Server.{LoopView, Runs}
use Rattle.sk_serve.specs.declared.accept_loop.LoopEnd.TheVariants as loop_end
use Rattle.sk_serve.proofs.Loops.{ended_by, ends_by, from_err, from_ok, left_visit, nudged_by, rose_from, rose_on, runs_none, runs_one, settled_by, shut_by, stands_same, unnudged, unsettled_by, unspent_by}
use Rattle.sk_serve.proofs.Lists.{plus_none}
use Rattle.sk_serve.proofs.accept_loop.AcceptLoop.step.Goals as goal

-- no connection came: the ear failed
pub returns-in_default : goal.returns-in_default
returns-in_default g c =
    let in_ = c.self.inside in
    let old : LoopView g.row.E.Denot g.row.K.Denot =
    record { ear = in_.ear; clock = in_.clock; pass = in_.pass; numbers = in_.numbers; served = in_.served; shut = in_.shut; end = in_.end } in
    let accepted = c.in_default.ensures in
    let stopped = c.stop.ensures in
    let waits : in_.end ≡ loop_end.Done = ap (λ l. l.end) c.self.view_is ∙ c.requires in
    let over = ended_by loop_end.Failed c.stop.new.self.end (λ is. cc is) stopped.ended in
    let rose = rose_on (g.E.Ear.ear_faults in_.ear) (g.E.Ear.ear_faults c.accept.new.self) (g.E.Ear.ear_faults c.stop.new.self.ear) accepted.cause.failed stopped.later in
    subst (λ z. Runs g.E.Ear (Attends g.W.Settlers.holds_back g.B.Book.wants_words g.E.Conn.Source g.E.Conn.Sink g.K.Clock g.W.Settler.Settler) c.args.shared.now.others z c.stop.new.self) c.self.view_is
    (runs_none g.E.Ear (Attends g.W.Settlers.holds_back g.B.Book.wants_words g.E.Conn.Source g.E.Conn.Sink g.K.Clock g.W.Settler.Settler) c.args.shared.now.others old c.stop.new.self waits stopped.same.0 (omega (arith, accepted.cause.later, stopped.later)) (λ is. rose)
    (nudged_by c.args.shared.now.others c.stop.new.self.end (g.E.Ear.nudged in_.ear) (g.E.Ear.nudged c.accept.new.self) _ over accepted.beside.1 stopped.woke)
    (stopped.stands ∙ stands_same g.E.Ear (Attends g.W.Settlers.holds_back g.B.Book.wants_words g.E.Conn.Source g.E.Conn.Sink g.K.Clock g.W.Settler.Settler) in_.ear c.accept.new.self in_.clock accepted.err accepted.beside.0)
    stopped.counts.0 (ap (λ p. p.amount) stopped.counts.1) (unspent_by loop_end.Failed c.stop.new.self.end (λ is. cc is) stopped.ended (λ is. cc is))
    (settled_by loop_end.Failed c.stop.new.self.end (λ is. cc is) stopped.ended (λ is. cc is)) stopped.same.1)

-- another loop had ended
pub returns-then-is_stopped : goal.returns-then-is_stopped
returns-then-is_stopped g c =
    let in_ = c.self.inside in
    let old : LoopView g.row.E.Denot g.row.K.Denot =
    record { ear = in_.ear; clock = in_.clock; pass = in_.pass; numbers = in_.numbers; served = in_.served; shut = in_.shut; end = in_.end } in
    let new : LoopView g.row.E.Denot g.row.K.Denot =
    record { ear = c.leave.new.self; clock = in_.clock; pass = in_.pass; numbers = in_.numbers; served = in_.served; shut = in_.shut; end = in_.end } in
    let accepted = c.in-Ok.ensures in
    let gone = c.leave.ensures in
    let waits : in_.end ≡ loop_end.Done = ap (λ l. l.end) c.self.view_is ∙ c.requires in
    subst (λ z. Runs g.E.Ear (Attends g.W.Settlers.holds_back g.B.Book.wants_words g.E.Conn.Source g.E.Conn.Sink g.K.Clock g.W.Settler.Settler) c.args.shared.now.others z new) c.self.view_is
    (runs_one g.E.Ear (Attends g.W.Settlers.holds_back g.B.Book.wants_words g.E.Conn.Source g.E.Conn.Sink g.K.Clock g.W.Settler.Settler) c.args.shared.now.others old new waits refl (omega (arith, accepted.cause.later, gone.faults)) (λ is. absurd (cc (sym waits ∙ is)))
    (unnudged c.args.shared.now.others in_.end (g.E.Ear.nudged in_.ear) (g.E.Ear.nudged c.leave.new.self) waits (gone.beside.1 ∙ accepted.beside.1))
    (record { came = c.in-Ok.conn; gone = c.in-Ok.conn; session = None })
    (left_visit g.E.Ear (Attends g.W.Settlers.holds_back g.B.Book.wants_words g.E.Conn.Source g.E.Conn.Sink g.K.Clock g.W.Settler.Settler) in_.ear c.accept.new.self c.leave.new.self in_.clock in_.clock
    (record { came = c.in-Ok.conn; gone = c.in-Ok.conn; session = None }) _ refl accepted.heard gone.beside.0 accepted.beside.0 gone.kept (refl, refl))
    (plus_none in_.served) (plus_none in_.pass.amount) (λ is. refl) (λ is. absurd (cc (sym waits ∙ is))) (λ some. absurd some) (λ some. absurd some) (λ shut. inl shut))

-- one more was served
pub returns-in_default-cause_of : goal.returns-in_default-cause_of
returns-in_default-cause_of g c =
    let in_ = c.self.inside in
    let old : LoopView g.row.E.Denot g.row.K.Denot =
    record { ear = in_.ear; clock = in_.clock; pass = in_.pass; numbers = in_.numbers; served = in_.served; shut = in_.shut; end = in_.end } in
    let new : LoopView g.row.E.Denot g.row.K.Denot =
    record { ear = c.leave-2.new.self; clock = c.serve_one-conn.new.clock; pass = c.serve_one-conn.new.pass; numbers = in_.numbers; served = in_.served + 1; shut = in_.shut; end = in_.end } in
    let accepted = c.in-Ok.ensures in
    let gone = c.leave-2.ensures in
    let one = from_ok _ _ _ c.in-Ok-served.is c.serve_one-conn.ensures.served in
    let waits : in_.end ≡ loop_end.Done = ap (λ l. l.end) c.self.view_is ∙ c.requires in
    subst (λ z. Runs g.E.Ear (Attends g.W.Settlers.holds_back g.B.Book.wants_words g.E.Conn.Source g.E.Conn.Sink g.K.Clock g.W.Settler.Settler) c.args.shared.now.others z new) c.self.view_is
    (runs_one g.E.Ear (Attends g.W.Settlers.holds_back g.B.Book.wants_words g.E.Conn.Source g.E.Conn.Sink g.K.Clock g.W.Settler.Settler) c.args.shared.now.others old new waits refl (omega (arith, accepted.cause.later, gone.faults)) (λ is. absurd (cc (sym waits ∙ is)))
    (unnudged c.args.shared.now.others in_.end (g.E.Ear.nudged in_.ear) (g.E.Ear.nudged c.leave-2.new.self) waits (gone.beside.1 ∙ accepted.beside.1))
    (record { came = c.in-Ok.conn; gone = c.serve_one-conn.result.0; session = Some (record { acknowledged = one.1.0; how = c.in-Ok-served.how }) })
    (left_visit g.E.Ear (Attends g.W.Settlers.holds_back g.B.Book.wants_words g.E.Conn.Source g.E.Conn.Sink g.K.Clock g.W.Settler.Settler) in_.ear c.accept.new.self c.leave-2.new.self in_.clock c.serve_one-conn.new.clock _ _ refl accepted.heard gone.beside.0 accepted.beside.0
    gone.kept one.1.1)
    refl one.1.2 (λ is. absurd (cc (sym waits ∙ is))) (λ is. absurd (cc (sym waits ∙ is)))
    (λ some. absurd (cc (c.in_default-cause_of.ensures.ends some))) (λ some. absurd (cc (c.in_default-cause_of.ensures.ends_shut some))) (λ shut. inl shut))

-- one more was served, behind which the loop ends
pub returns-in-Some : goal.returns-in-Some
returns-in-Some g c =
    let in_ = c.self.inside in
    let old : LoopView g.row.E.Denot g.row.K.Denot =
    record { ear = in_.ear; clock = in_.clock; pass = in_.pass; numbers = in_.numbers; served = in_.served; shut = in_.shut; end = in_.end } in
    let accepted = c.in-Ok.ensures in
    let gone = c.leave-2.ensures in
    let cause = c.in-Some.ensures.cause in
    let stopped = c.stop-in-Ok-served.ensures in
    let new = c.stop-in-Ok-served.new.self in
    let one = from_ok _ _ _ c.in-Ok-served.is c.serve_one-conn.ensures.served in
    let waits : in_.end ≡ loop_end.Done = ap (λ l. l.end) c.self.view_is ∙ c.requires in
    let over = ended_by c.in-Some.end new.end cause.0 stopped.ended in
    subst (λ z. Runs g.E.Ear (Attends g.W.Settlers.holds_back g.B.Book.wants_words g.E.Conn.Source g.E.Conn.Sink g.K.Clock g.W.Settler.Settler) c.args.shared.now.others z new) c.self.view_is
    (runs_one g.E.Ear (Attends g.W.Settlers.holds_back g.B.Book.wants_words g.E.Conn.Source g.E.Conn.Sink g.K.Clock g.W.Settler.Settler) c.args.shared.now.others old new waits stopped.same.0 (omega (arith, accepted.cause.later, gone.faults, stopped.later))
    (λ is. rose_from (g.E.Ear.ear_faults in_.ear) (g.E.Ear.ear_faults c.leave-2.new.self) (g.E.Ear.ear_faults new.ear) (omega (arith, accepted.cause.later, gone.faults)) (stopped.failed is cause.1))
    (nudged_by c.args.shared.now.others new.end (g.E.Ear.nudged in_.ear) (g.E.Ear.nudged c.leave-2.new.self) _ over (gone.beside.1 ∙ accepted.beside.1) stopped.woke)
    (record { came = c.in-Ok.conn; gone = c.serve_one-conn.result.0; session = Some (record { acknowledged = one.1.0; how = c.in-Ok-served.how }) })
    (left_visit g.E.Ear (Attends g.W.Settlers.holds_back g.B.Book.wants_words g.E.Conn.Source g.E.Conn.Sink g.K.Clock g.W.Settler.Settler) in_.ear c.accept.new.self c.leave-2.new.self in_.clock c.serve_one-conn.new.clock _ _ stopped.stands accepted.heard gone.beside.0
    accepted.beside.0 gone.kept one.1.1)
    stopped.counts.0 (ap (λ p. p.amount) stopped.counts.1 ∙ one.1.2) (λ is. absurd (unspent_by c.in-Some.end new.end cause.0 stopped.ended cause.2 is))
    (λ is. c.in-Some.ensures.unsettled (unsettled_by c.in-Some.end new.end cause.0 stopped.ended is))
    (λ some. ends_by c.in-Some.end new.end cause.0 stopped.ended (cc (c.in-Some.ensures.ends some))) (λ some. over)
    (λ shut. shut_by in_.shut new.end c.in-Some.end _ over (c.has_shut-self-inside.ensures (sym stopped.same.1 ∙ shut)) c.in-Some.ensures.shut))

-- there was no seat for it
pub returns-in-Err : goal.returns-in-Err
returns-in-Err g c =
    let in_ = c.self.inside in
    let old : LoopView g.row.E.Denot g.row.K.Denot =
    record { ear = in_.ear; clock = in_.clock; pass = in_.pass; numbers = in_.numbers; served = in_.served; shut = in_.shut; end = in_.end } in
    let accepted = c.in-Ok.ensures in
    let gone = c.leave-2.ensures in
    let stopped = c.stop-in-Err.ensures in
    let new = c.stop-in-Err.new.self in
    let same = from_err _ _ _ c.in-Err.is c.serve_one-conn.ensures.fault in
    let waits : in_.end ≡ loop_end.Done = ap (λ l. l.end) c.self.view_is ∙ c.requires in
    let over = ended_by c.end_at.result new.end c.end_at.ensures.cause stopped.ended in
    subst (λ z. Runs g.E.Ear (Attends g.W.Settlers.holds_back g.B.Book.wants_words g.E.Conn.Source g.E.Conn.Sink g.K.Clock g.W.Settler.Settler) c.args.shared.now.others z new) c.self.view_is
    (runs_one g.E.Ear (Attends g.W.Settlers.holds_back g.B.Book.wants_words g.E.Conn.Source g.E.Conn.Sink g.K.Clock g.W.Settler.Settler) c.args.shared.now.others old new waits stopped.same.0 (omega (arith, accepted.cause.later, gone.faults, stopped.later))
    (λ is. rose_from (g.E.Ear.ear_faults in_.ear) (g.E.Ear.ear_faults c.leave-2.new.self) (g.E.Ear.ear_faults new.ear) (omega (arith, accepted.cause.later, gone.faults))
    (stopped.failed is c.end_at.ensures.failed))
    (nudged_by c.args.shared.now.others new.end (g.E.Ear.nudged in_.ear) (g.E.Ear.nudged c.leave-2.new.self) _ over (gone.beside.1 ∙ accepted.beside.1) stopped.woke)
    (record { came = c.in-Ok.conn; gone = c.serve_one-conn.result.0; session = None })
    (left_visit g.E.Ear (Attends g.W.Settlers.holds_back g.B.Book.wants_words g.E.Conn.Source g.E.Conn.Sink g.K.Clock g.W.Settler.Settler) in_.ear c.accept.new.self c.leave-2.new.self in_.clock c.serve_one-conn.new.clock _ _ stopped.stands accepted.heard gone.beside.0
    accepted.beside.0 gone.kept (same.2, same.1))
    (stopped.counts.0 ∙ plus_none in_.served) (ap (λ p. p.amount) stopped.counts.1 ∙ ap (λ p. p.amount) same.0 ∙ plus_none in_.pass.amount) (λ is. refl)
    (λ is. absurd (settled_by c.end_at.result new.end c.end_at.ensures.cause stopped.ended c.end_at.ensures.settled is)) (λ some. absurd some) (λ some. absurd some)
    (λ shut. inl (sym stopped.same.1 ∙ shut)))
