use Rattle.std.proofs.Common.{◌≡◌, ◌+◌, sym, ◌∙◌, length, arith}
use Rattle.sk_table.proofs.Growth.{table_widened}
use Rattle.sk_table.proofs.text_table.widen.Goals as goal

pub returns-then-len-half-clause-table : goal.returns-then-len-half-clause-table
returns-then-len-half-clause-table g c =
    let small = c.if-half.true in
    let full : length c.args.buckets.now.items ≡ c.args.half + c.args.half = sym c.args.buckets.now.ok.0 ∙ sym c.len.ensures ∙ c.if-len-half.true in
    table_widened g.K.TextKey.text c.args.half c.args.buckets.now.items c.requires.table c.requires.some full (grind (arith, small))
