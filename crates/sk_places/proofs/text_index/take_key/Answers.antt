use Rattle.std.proofs.Common.{refl}
use Rattle.sk_places.proofs.text_index.take_key.Goals as goal

pub returns-in-Set : goal.returns-in-Set
returns-in-Set c = rw (c.take.ensures.list, c.in-Set.is, c.of_score.ensures) refl
