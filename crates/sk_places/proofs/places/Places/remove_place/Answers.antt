use Rattle.std.proofs.Common.{ap, sym}
use Rattle.sk_undo.specs.Versions.{edited}
use Rattle.sk_places.specs.declared.ending.Ending.TheVariants.{Deleted}
use Rattle.sk_places.specs.Whole.{placed_in}
use Rattle.sk_places.proofs.Gone.{place_ended}
use Rattle.sk_places.proofs.places.Places.remove_place.Goals as goal

pub returns-in-Some : goal.returns-in-Some
returns-in-Some c = rw (c.take_all.ensures.rest, c.take_all.ensures.jobs, ← c.self.view_is) (ap (λ p. edited p (placed_in c.self.inside)) (sym (place_ended Deleted c.args.place.now (placed_in c.self.inside).current)))

pub returns-in_default : goal.returns-in_default
returns-in_default c = rw (c.take_all.ensures.rest, c.take_all.ensures.jobs, ← c.self.view_is) (ap (λ p. edited p (placed_in c.self.inside)) (sym (place_ended Deleted c.args.place.now (placed_in c.self.inside).current)))
