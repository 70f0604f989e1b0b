use Rattle.std.proofs.Common.{true, false, refl, ap₂, ◌∙◌}
use Rattle.sk_link.specs.Report.{is_array_reply, with_counts}
use Rattle.sk_link.proofs.Reports.{four_elements}
use Rattle.sk_link.proofs.report.read_elements.Goals as goal

pub returns-then-not-is_array : goal.returns-then-not-is_array
returns-then-not-is_array c =
    four_elements c.args.elements.now c.moved-item.result c.buried-item.result c.fired-item.result c.trimmed-item.result _ false (is_array_reply c.trimmed-item.result)
    c.in-len4.len_at_least c.in-len4.len_below c.moved-item.is c.buried-item.is c.fired-item.is c.trimmed-item.is c.if-not-is_array.ensures refl refl

pub returns-then-not-is_array-2 : goal.returns-then-not-is_array-2
returns-then-not-is_array-2 c =
    four_elements c.args.elements.now c.moved-item.result c.buried-item.result c.fired-item.result c.trimmed-item.result _ true false
    c.in-len4.len_at_least c.in-len4.len_below c.moved-item.is c.buried-item.is c.fired-item.is c.trimmed-item.is c.if-not-is_array.ensures c.if-not-is_array-2.ensures refl

pub returns : goal.returns
returns c =
    four_elements c.args.elements.now c.moved-item.result c.buried-item.result c.fired-item.result c.trimmed-item.result _ true true
    c.in-len4.len_at_least c.in-len4.len_below c.moved-item.is c.buried-item.is c.fired-item.is c.trimmed-item.is c.if-not-is_array.ensures c.if-not-is_array-2.ensures
    (c.report_with.ensures ∙ ap₂ with_counts c.count.ensures c.count-2.ensures)
