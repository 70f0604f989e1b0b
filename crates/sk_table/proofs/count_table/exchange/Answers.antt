use Rattle.std.proofs.Common.{sym}
use Rattle.std.specs.BTreeMap.{is_at}
use Rattle.std.proofs.lemmas.Map.{keys-set_value}
use Rattle.sk_resp.specs.WordOrder.{text_cmp}
use Rattle.sk_table.proofs.Counts.{counted_set}
use Rattle.sk_table.proofs.count_table.exchange.Goals as goal

pub returns-in-Some-clause-counts : goal.returns-in-Some-clause-counts
returns-in-Some-clause-counts g c = λ some. counted_set c.args.text.now c.args.count c.in-Some.there.now c.args.table.now c.in-Some.ensures.ordered (sym c.in-Some.ensures.value)

pub returns-in-Some-clause-keys : goal.returns-in-Some-clause-keys
returns-in-Some-clause-keys g c = keys-set_value (is_at (text_cmp c.args.text.now)) c.args.table.now c.args.count
