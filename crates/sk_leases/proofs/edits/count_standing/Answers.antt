use Rattle.std.proofs.Common.{◌∙◌, ◌&&◌}
use Rattle.std.specs.BTreeMap.{is_at}
use Rattle.sk_leases.specs.Lease.{names, stands_at}
use Rattle.sk_leases.specs.Parts.{lease_order}
use Rattle.sk_leases.specs.declared.part.Part.TheVariants.{Standing}
use Rattle.sk_leases.proofs.Kept.{count_same}
use Rattle.sk_leases.proofs.Order.{standing_is}
use Rattle.sk_leases.proofs.edits.count_standing.Goals as goal

pub returns : goal.returns
returns c =
    let name = c.args.name.now in
    let now = c.args.now in
    c.count.ensures.is ∙ count_same (is_at (lease_order name (Standing now))) (λ p. names name p && stands_at now p) (standing_is name now) c.args.entries.now.list.current
