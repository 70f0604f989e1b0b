use Rattle.std.proofs.Common.{◌∙◌}
use Rattle.std.specs.BTreeMap.{is_at}
use Rattle.sk_leases.specs.Lease.{names}
use Rattle.sk_leases.specs.Parts.{lease_order}
use Rattle.sk_leases.specs.declared.part.Part.TheVariants.{All}
use Rattle.sk_leases.proofs.Kept.{count_same}
use Rattle.sk_leases.proofs.Order.{all_is}
use Rattle.sk_leases.proofs.edits.count_named.Goals as goal

pub returns-clause-is : goal.returns-clause-is
returns-clause-is c = c.count.ensures.is ∙ count_same (is_at (lease_order c.args.name.now All)) (names c.args.name.now) (all_is c.args.name.now) c.args.entries.now.list.current
