use Rattle.std.proofs.Common.{arith}
use Rattle.std.proofs.lemmas.Grind.{common_steps}
use Rattle.sk_value.proofs.TakingBack.{with_pairs_last}
use Rattle.sk_value.proofs.maps.insert_noted.Goals as goal

pub returns-in-Ok-insert-clause-ok : goal.returns-in-Ok-insert-clause-ok
returns-in-Ok-insert-clause-ok g c = grind (arith, common_steps, c.in-Ok-insert.ensures.entries, c.loop-text.invariant.put, with_pairs_last c.args.pairs.items c.args.last c.args.map.now.entries)
