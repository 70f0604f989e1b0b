use Rattle.sk_model.proofs.Theorems.Starving.{own_words_never_starve}
use Rattle.sk_model.proofs.laws.own_words_never_starve.Goals as goal

pub returns : goal.returns
returns c = own_words_never_starve
