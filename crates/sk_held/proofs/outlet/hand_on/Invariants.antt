use Rattle.std.proofs.Common.{◌≡◌, ℕ, List, ◌++◌, vec_len}
use Rattle.sk_base.specs.Outside.{Takes}
use Rattle.sk_held.proofs.outlet.hand_on.Given as goal

-- the front was handed on, and the rest is left
abbrev pub invariant-loop-conn : goal.invariant-loop-conn
invariant-loop-conn g l = record {
  front : (sent : List ℕ) × (l.fn.bytes.items ≡ sent ++ l.bytes.items) × Takes (g.C.Sink.taken l.fn.conn) sent (g.C.Sink.taken l.conn);
  count : g.C.Sink.write_faults l.conn ≡ g.C.Sink.write_faults l.fn.conn;
  beside : g.C.Sink.beside_write l.conn ≡ g.C.Sink.beside_write l.fn.conn;
}

abbrev pub decreases-loop-conn : goal.decreases-loop-conn
decreases-loop-conn g l = vec_len l.bytes
