use Rattle.std.proofs.Common.{refl, arith}
use Rattle.sk_value.specs.declared.entry.Entry.{Entry}
use Rattle.sk_keys.proofs.Index.{index_written}
use Rattle.sk_keys.proofs.edit.edit.Goals as goal
use Rattle.sk_keys.proofs.edit.edit.Goals.{then-is_empty, else-is_empty}

pub remove-requires : goal.remove-requires
remove-requires c =
    let new : Entry = record { value = c.edit.new.self; deadline = c.in-Some.there.now.deadline } in
    index_written c.args.name c.in-Some.there.now new c.args.table.now.entries _ c.args.table.now.expiries c.requires c.in-Some.ensures.value refl refl

pub returns-clause-indexed : goal.returns-clause-indexed
returns-clause-indexed c = λ moment other.
    let new : Entry = record { value = c.edit.new.self; deadline = c.in-Some.there.now.deadline } in
    let indexed = index_written c.args.name c.in-Some.there.now new c.args.table.now.entries _ c.args.table.now.expiries c.requires c.in-Some.ensures.value refl refl in
    elim c.if-is_empty.branch [ then-is_empty w ↦ grind (arith, w.table-is, w.remove.ensures.indexed moment other) | else-is_empty w ↦ grind (arith, w.table-is, indexed moment other) ]
