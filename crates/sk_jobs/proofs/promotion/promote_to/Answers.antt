use Rattle.std.proofs.Common.{◌∙◌, ap}
use Rattle.sk_places.specs.declared.row.Place.TheVariants.{Queue}
use Rattle.sk_jobs.proofs.Covering.{moved_jobs, placed_covered}
use Rattle.sk_jobs.proofs.promotion.promote_to.Goals as goal

pub returns-clause-covered : goal.returns-clause-covered
returns-clause-covered c =
    placed_covered c.args.store.now c.shift.new.self (ap (λ s. s.current.jobs) c.in_ok-shift.ensures.ok ∙ moved_jobs _ (Queue c.args.queue) c.of_moment-score.result c.args.end c.args.store.now.places.current) c.requires
