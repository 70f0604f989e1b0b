use Rattle.std.proofs.Common.{◌&&◌, ap, sym, ◌∙◌}
use Rattle.sk_desk.specs.Writing.{is_zero}
use Rattle.sk_desk.proofs.Zeros.{two_elements}
use Rattle.sk_desk.proofs.stamp.counts_zero.Goals as goal

pub returns-then-is_zero : goal.returns-then-is_zero
returns-then-is_zero c =
    c.is_zero-then-is_zero.ensures ∙ ap (λ b. b && is_zero c.buried-item.result) c.if-is_zero.ensures
    ∙ two_elements c.args.elements.now c.moved-item.result c.buried-item.result c.in-len2-up.len_at_least c.moved-item.is c.buried-item.is

pub returns-else-is_zero : goal.returns-else-is_zero
returns-else-is_zero c =
    c.is_zero.ensures ∙ sym c.if-is_zero.ensures ∙ ap (λ b. b && is_zero c.buried-item.result) c.if-is_zero.ensures
    ∙ two_elements c.args.elements.now c.moved-item.result c.buried-item.result c.in-len2-up.len_at_least c.moved-item.is c.buried-item.is
