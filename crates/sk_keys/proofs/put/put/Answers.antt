use Rattle.std.proofs.Common.{subst, sym}
use Rattle.std.specs.BTreeMap.{is_at}
use Rattle.std.specs.Map.{set_value}
use Rattle.sk_resp.specs.WordOrder.{text_cmp}
use Rattle.sk_value.specs.declared.entry.Entry.{Entry}
use Rattle.sk_keys.specs.Index.{IsIndexed}
use Rattle.sk_keys.proofs.Index.{holds_set, index_set}
use Rattle.sk_keys.proofs.put.put.Goals as goal

pub returns-in-Some-clause-indexed : goal.returns-in-Some-clause-indexed
returns-in-Some-clause-indexed c =
    let indexed = index_set c.args.name c.args.entry c.args.table.now.entries _ c.args.table.now.expiries c.set_expiry.new.expiries c.requires c.in_ok-set_expiry.ensures.ok
    (holds_set c.args.name c.in-Some.there.now c.args.entry c.args.table.now.entries c.in-Some.ensures.value) in
    subst (λ (entry : Entry). IsIndexed (set_value (is_at (text_cmp c.args.name)) c.args.table.now.entries entry) c.set_expiry.new.expiries) (sym c.replace-old.ensures.after) indexed
