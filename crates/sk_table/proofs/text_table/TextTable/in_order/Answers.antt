use Rattle.std.proofs.Common.{subst}
use Rattle.std.specs.Map.{keys_of}
use Rattle.std.specs.List.Sorted.{IsStrictlySortedBy}
use Rattle.sk_resp.specs.WordOrder.{text_cmp}
use Rattle.sk_table.specs.Table.{all_entries}
use Rattle.sk_table.proofs.Ordered.{up_in_order}
use Rattle.sk_table.proofs.text_table.TextTable.in_order.Goals as goal

pub returns : goal.returns
returns g c = subst (λ e. IsStrictlySortedBy text_cmp (keys_of e)) c.self.view_is (up_in_order (all_entries g.K.TextKey.text c.self.inside.buckets.items))
