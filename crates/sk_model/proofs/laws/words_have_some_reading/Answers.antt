use Rattle.sk_model.proofs.Theorems.Readings.{some_reading}
use Rattle.sk_model.proofs.laws.words_have_some_reading.Goals as goal

pub returns : goal.returns
returns c = some_reading
