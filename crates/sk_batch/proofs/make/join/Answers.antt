use Rattle.std.proofs.Common.{List, subst, sym}
use Rattle.sk_undo.specs.Versions.{Versions}
use Rattle.sk_batch.specs.Batched.{MemberEntry}
use Rattle.sk_batch.specs.States.{BatchInvariant, StateEntry}
use Rattle.sk_batch.proofs.make.join.Goals as goal

pub enter-requires-clause-kept : goal.enter-requires-clause-kept
enter-requires-clause-kept c =
    subst (λ (s : Versions (List StateEntry)). BatchInvariant s.current c.reserve-2.new.self.list.current) (sym c.in_ok-reserve.ensures.list)
    (subst (λ (s : Versions (List MemberEntry)). BatchInvariant c.args.batches.now.list.current s.current) (sym c.in_ok-reserve-2.ensures.list) c.requires.kept)
