use Rattle.sk_model.proofs.Theorems.Readings.{one_reading}
use Rattle.sk_model.proofs.laws.words_have_one_reading.Goals as goal

pub returns : goal.returns
returns c = one_reading
