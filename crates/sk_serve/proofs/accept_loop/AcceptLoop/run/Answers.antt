use Rattle.std.proofs.Common.{subst, sym}
use Rattle.sk_serve.specs.Attending.{Attends}
use Rattle.sk_serve.specs.Server.{Runs}
use Rattle.sk_serve.proofs.Loops.{runs_nothing, runs_on}
use Rattle.sk_serve.proofs.accept_loop.AcceptLoop.run.Goals as goal
use Rattle.sk_serve.proofs.accept_loop.AcceptLoop.run.Goals.{then-is_over-via-then-is_over, then-is_over-via-else-is_over+then-not-step}

pub loop-init : goal.loop-init
loop-init g c = (tt, tt, runs_nothing g.E.Ear (Attends g.W.Settlers.holds_back g.B.Book.wants_words g.E.Conn.Source g.E.Conn.Sink g.K.Clock g.W.Settler.Settler) c.args.shared.now.others c.args.self.now)

pub loop-preserved : goal.loop-preserved
loop-preserved g c =
    (tt, tt, runs_on g.E.Ear (Attends g.W.Settlers.holds_back g.B.Book.wants_words g.E.Conn.Source g.E.Conn.Sink g.K.Clock g.W.Settler.Settler) c.args.shared.now.others c.args.self.now c.loop.self c.step.new.self c.loop.invariant.2 c.step.ensures)

pub returns-then-is_over : goal.returns-then-is_over
returns-then-is_over g c = elim c.then-is_over.branch [
  | then-is_over-via-then-is_over w ↦
      subst (Runs g.E.Ear (Attends g.W.Settlers.holds_back g.B.Book.wants_words g.E.Conn.Source g.E.Conn.Sink g.K.Clock g.W.Settler.Settler) c.args.shared.now.others c.args.self.now) (sym w.self-is) c.loop.invariant.2
  | then-is_over-via-else-is_over+then-not-step w ↦
      subst (Runs g.E.Ear (Attends g.W.Settlers.holds_back g.B.Book.wants_words g.E.Conn.Source g.E.Conn.Sink g.K.Clock g.W.Settler.Settler) c.args.shared.now.others c.args.self.now) (sym w.self-is)
      (runs_on g.E.Ear (Attends g.W.Settlers.holds_back g.B.Book.wants_words g.E.Conn.Source g.E.Conn.Sink g.K.Clock g.W.Settler.Settler) c.args.shared.now.others c.args.self.now c.loop.self w.step.new.self c.loop.invariant.2 w.step.ensures)
]
