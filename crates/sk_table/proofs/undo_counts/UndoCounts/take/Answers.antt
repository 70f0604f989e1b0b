use Rattle.std.proofs.Common.{◌≡◌, ◌-◌, ◌+◌, ◌≤◌, true, false, cond, sym, ◌∙◌, ap, length, arith}
use Rattle.std.specs.Option.{is_some}
use Rattle.sk_undo.specs.Balance.{most}
use Rattle.sk_table.specs.Counts.{counted}
use Rattle.sk_table.specs.Entries.{at, without_text}
use Rattle.sk_table.proofs.Counts.{length_without}
use Rattle.sk_table.proofs.CountSteps.{idle_is, is_closed}
use Rattle.sk_table.proofs.undo_counts.UndoCounts.take.Goals as goal

pub invariant_of-self : goal.invariant_of-self
invariant_of-self g c =
    let t = c.self.inside.table in
    let idle = is_closed c.self.inside.in_step _ (ap (λ v. v.list.saved) c.self.view_is ∙ c.requires) in
    let len = c.self.invariant.is_len in
    let small = c.self.invariant.small in
    let some : is_some (at c.args.text.now (counted t)) ≡ true = sym c.take_out-counted.ensures.answer ∙ c.if-counted.true in
    let less = length_without c.args.text.now (counted t) in
    let rest = ap length c.take_out-counted.ensures.counts in
    let count : c.self.inside.len - 1 ≡ length (counted c.take_out-counted.new.table) = grind (arith, some, less, rest, len) in
    idle_is g.K.TextKey.text c.self.inside.log.items t c.take_out-counted.new.table c.self.inside.len c.self.inside.len_then c.self.inside.in_step (c.self.inside.len - 1) idle c.self.invariant count (grind (arith, small))

pub invariant_of-self-else-counted : goal.invariant_of-self-else-counted
invariant_of-self-else-counted g c =
    let t = c.self.inside.table in
    let idle = is_closed c.self.inside.in_step _ (ap (λ v. v.list.saved) c.self.view_is ∙ c.requires) in
    let len = c.self.invariant.is_len in
    let none : is_some (at c.args.text.now (counted t)) ≡ false = sym c.take_out-counted.ensures.answer ∙ c.if-counted.false in
    let less = length_without c.args.text.now (counted t) in
    let rest = ap length c.take_out-counted.ensures.counts in
    let count : c.self.inside.len ≡ length (counted c.take_out-counted.new.table) = grind (arith, none, less, rest, len) in
    idle_is g.K.TextKey.text c.self.inside.log.items t c.take_out-counted.new.table c.self.inside.len c.self.inside.len_then c.self.inside.in_step c.self.inside.len idle c.self.invariant count c.self.invariant.small
