use Rattle.std.proofs.Common.{Some}
use Rattle.sk_value.specs.declared.entry.Entry.{Entry}
use Rattle.sk_keys.proofs.Index.{holds_set, index_set}
use Rattle.sk_keys.proofs.expire.expire.Goals as goal

pub returns-clause-indexed : goal.returns-clause-indexed
returns-clause-indexed c =
    let new : Entry = record { value = c.in-Some-get_mut.there.now.value; deadline = Some c.in-Some.deadline } in
    index_set c.args.name new c.args.table.now.entries _ c.args.table.now.expiries c.set_expiry.new.expiries c.requires c.in_ok-set_expiry.ensures.ok
    (holds_set c.args.name c.in-Some-get_mut.there.now new c.args.table.now.entries c.in-Some-get_mut.ensures.value)
