use Rattle.std.proofs.Common.{sym, ◌∙◌, ap}
use Rattle.std.specs.Option.{unwrap_or}
use Rattle.sk_table.proofs.Counts.{count_is}
use Rattle.sk_table.proofs.count_table.count_of.Goals as goal

pub returns-in-Some : goal.returns-in-Some
returns-in-Some g c = record { is = ap (λ o. unwrap_or o 0) c.in-Some.ensures ∙ sym (count_is c.args.text.now c.args.table.now c.in_order.ensures) }

pub returns-in-None : goal.returns-in-None
returns-in-None g c = record { is = ap (λ o. unwrap_or o 0) c.in-None.ensures ∙ sym (count_is c.args.text.now c.args.table.now c.in_order.ensures) }
