use Rattle.std.proofs.Common.{Some}
use Rattle.sk_tests.proofs.held.a_peer_gets_more_than_fits_behind_a_settle.Given as goal

-- a connection and a settler as they stand
abbrev pub ghosts-talk : goal.ghosts-talk
ghosts-talk g a = record { first = Some a.conn.tray.bytes; count = a.settler.settled }
