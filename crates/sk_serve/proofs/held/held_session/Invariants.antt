use Rattle.sk_serve.proofs.held.held_session.Given as goal

-- how the connection and its settler stand
abbrev pub ghosts-hold : goal.ghosts-hold
ghosts-hold g a = record { first = g.C.Sink.taken a.conn; count = g.W.Settler.settled a.settler }
