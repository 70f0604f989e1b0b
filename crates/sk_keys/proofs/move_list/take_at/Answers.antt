use Rattle.std.proofs.Common.{refl, arith}
use Rattle.sk_value.specs.declared.entry.Entry.{Entry}
use Rattle.sk_value.specs.declared.value.Value.TheVariants as value
use Rattle.sk_keys.proofs.Index.{index_written}
use Rattle.sk_keys.proofs.move_list.take_at.Goals as goal
use Rattle.sk_keys.proofs.move_list.take_at.Goals.{then-len-eq0, else-len-eq0}

pub remove-requires : goal.remove-requires
remove-requires c =
    let new : Entry = record { value = value.List c.take.new.self; deadline = c.in_ok-there.there.now.deadline } in
    index_written c.args.name.now c.in_ok-there.there.now new c.args.table.now.entries _ c.args.table.now.expiries c.requires c.in_ok-there.ensures.value refl refl

pub returns-clause-indexed : goal.returns-clause-indexed
returns-clause-indexed c = λ moment other.
    let new : Entry = record { value = value.List c.take.new.self; deadline = c.in_ok-there.there.now.deadline } in
    let indexed = index_written c.args.name.now c.in_ok-there.there.now new c.args.table.now.entries _ c.args.table.now.expiries c.requires c.in_ok-there.ensures.value refl refl in
    elim c.if-len-eq0.branch [ then-len-eq0 w ↦ grind (arith, w.table-is, w.remove.ensures.indexed moment other) | else-len-eq0 w ↦ grind (arith, w.table-is, indexed moment other) ]
