use Rattle.std.proofs.Common.{refl}
use Rattle.sk_value.specs.declared.entry.Entry.{Entry}
use Rattle.sk_value.specs.declared.value.Value.TheVariants as value
use Rattle.sk_keys.proofs.Index.{index_written}
use Rattle.sk_keys.proofs.move_list.move_within.Goals as goal

pub returns-clause-indexed : goal.returns-clause-indexed
returns-clause-indexed c =
    let new : Entry = record { value = value.List c.turn.new.list; deadline = c.in-Some.there.now.deadline } in
    index_written c.args.name.now c.in-Some.there.now new c.args.table.now.entries _ c.args.table.now.expiries c.requires c.in-Some.ensures.value refl refl
