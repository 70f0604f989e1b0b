use Rattle.std.proofs.Common.{ap, subst}
use Rattle.std.specs.Map.{keys_of}
use Rattle.std.specs.List.Sorted.{IsStrictlySortedBy}
use Rattle.sk_resp.specs.WordOrder.{text_cmp}
use Rattle.sk_table.proofs.Counts.{up_counted}
use Rattle.sk_table.proofs.undo_counts.UndoCounts.in_order.Goals as goal

pub returns : goal.returns
returns g c = subst (λ v. IsStrictlySortedBy text_cmp (keys_of v.list.current)) c.self.view_is (up_counted c.self.inside.table c.in_order.ensures)
