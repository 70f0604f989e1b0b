use Rattle.std.proofs.Common.{Some, sym, ◌∙◌, ap, cond}
use Rattle.std.specs.BTreeMap.{is_at}
use Rattle.std.specs.Option.{is_some}
use Rattle.sk_resp.specs.WordOrder.{text_cmp}
use Rattle.sk_table.specs.Counts.{counted}
use Rattle.sk_table.specs.Entries.{at}
use Rattle.sk_table.proofs.Counts.{counted_enter, keeps_with}
use Rattle.sk_table.proofs.Ordered.{at_itself, at_with}
use Rattle.sk_table.proofs.count_table.enter_new.Goals as goal

pub returns-clause-same : goal.returns-clause-same
returns-clause-same g c = ap counted c.in-Ok.ensures.ok ∙ counted_enter (g.K.TextKey.text c.args.key) c.args.table.now c.in_order.ensures c.requires

pub returns-clause-keeps : goal.returns-clause-keeps
returns-clause-keeps g c = λ text some. ap (λ t. is_some (at text t)) c.in-Ok.ensures.ok ∙ keeps_with (g.K.TextKey.text c.args.key) 0 c.args.table.now text some

pub returns-clause-there : goal.returns-clause-there
returns-clause-there g c =
    let text = g.K.TextKey.text c.args.key in
    ap (at text) c.in-Ok.ensures.ok ∙ at_with text text 0 c.args.table.now ∙ ap (λ b. cond b (Some 0) (at text c.args.table.now)) (at_itself text)
