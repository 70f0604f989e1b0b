use Rattle.std.proofs.Common.{◌≡◌, true, subst}
use Rattle.sk_undo.specs.Sorted.{is_sorted}
use Rattle.sk_resp.specs.WordOrder.{text_cmp}
use Rattle.sk_places.proofs.JobParts.{live_sorted}
use Rattle.sk_places.proofs.job_records.JobRecords.all_deleted.Goals as goal

pub returns-clause-order : goal.returns-clause-order
returns-clause-order c = subst (λ v. is_sorted text_cmp v.current.lived.live ≡ true) c.self.view_is (live_sorted c.self.inside.numbers.list.current c.in_order.ensures)
