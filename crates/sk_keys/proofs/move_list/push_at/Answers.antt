use Rattle.std.proofs.Common.{refl}
use Rattle.sk_value.specs.declared.entry.Entry.{Entry}
use Rattle.sk_value.specs.declared.value.Value.TheVariants as value
use Rattle.sk_keys.proofs.Index.{index_written}
use Rattle.sk_keys.proofs.move_list.push_at.Goals as goal

pub returns-in-Some-clause-indexed : goal.returns-in-Some-clause-indexed
returns-in-Some-clause-indexed c =
    let new : Entry = record { value = value.List c.push.new.self; deadline = c.in-Some.there.now.deadline } in
    index_written c.args.name c.in-Some.there.now new c.args.table.now.entries _ c.args.table.now.expiries c.requires.indexed c.in-Some.ensures.value refl refl
