use Rattle.sk_model.proofs.Theorems.Starving.{releases_never_starve}
use Rattle.sk_model.proofs.laws.releases_never_starve.Goals as goal

pub returns : goal.returns
returns c = releases_never_starve
