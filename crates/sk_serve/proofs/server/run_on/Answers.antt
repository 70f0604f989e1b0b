use Rattle.sk_serve.specs.Attending.{Attends}
use Rattle.sk_serve.proofs.Loops.{all_run_on}
use Rattle.sk_serve.proofs.server.run_on.Goals as goal

pub loop-preserved : goal.loop-preserved
loop-preserved g c =
    (tt, tt, all_run_on g.E.Ear (Attends g.W.Settlers.holds_back g.B.Book.wants_words g.E.Conn.Source g.E.Conn.Sink g.K.Clock g.W.Settler.Settler) c.args.shared.now.others c.args.loops.now c.loop.loops c.run_all-in-loop.new.loops c.loop.invariant.2 c.run_all-in-loop.ensures)
