use Rattle.std.specs.List.{AllZip}
use Rattle.sk_serve.specs.Attending.{Attends}
use Rattle.sk_serve.specs.Server.{Runs}
use Rattle.sk_serve.proofs.server.run_on.Given as goal

abbrev pub invariant-loop : goal.invariant-loop
invariant-loop g l =
    (goal.iterator-loop g).can_next l.iterator' × (goal.iterator-loop g).is_finite l.iterator' × AllZip (Runs g.E.Ear (Attends g.W.Settlers.holds_back g.B.Book.wants_words g.E.Conn.Source g.E.Conn.Sink g.K.Clock g.W.Settler.Settler) l.shared.others) l.fn.loops l.loops
