use Rattle.std.proofs.Common.{◌≡◌, ℕ, List, ◌++◌, length}
use Rattle.sk_base.specs.Outside.{Takes}
use Rattle.sk_base.proofs.sink.write_all.Given as goal

-- the front was taken, and the rest is left
abbrev pub invariant-loop-rest : goal.invariant-loop-rest
invariant-loop-rest g l = record {
  front : (front : List ℕ) × (l.bytes ≡ front ++ l.rest) × Takes (g.K.Sink.taken l.fn.sink) front (g.K.Sink.taken l.sink);
  count : g.K.Sink.write_faults l.sink ≡ g.K.Sink.write_faults l.fn.sink;
  beside : g.K.Sink.beside_write l.sink ≡ g.K.Sink.beside_write l.fn.sink;
}

abbrev pub decreases-loop-rest : goal.decreases-loop-rest
decreases-loop-rest g l = length l.rest
