use Rattle.std.proofs.Common.{refl}
use Rattle.sk_places.proofs.text_index.drop_key.Goals as goal

pub returns-in-Set-clause-list : goal.returns-in-Set-clause-list
returns-in-Set-clause-list c = rw (c.remove.ensures.list, c.in-Set.is, c.of_score.ensures) refl
