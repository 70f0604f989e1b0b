use Rattle.std.proofs.Common.{Some, sym, subst}
use Rattle.sk_resp.specs.Spelling.{Bytes}
use Rattle.sk_value.specs.Keys.{Keys}
use Rattle.sk_keys.specs.Index.{DropsExpiry, IsIndexed}
use Rattle.sk_keys.proofs.Index.{Holds, holds_put, index_added, index_restored}
use Rattle.sk_keys.proofs.put.put_new.Goals as goal

pub returns-in-Ok-clause-indexed : goal.returns-in-Ok-clause-indexed
returns-in-Ok-clause-indexed c = index_added c.args.name c.args.entry c.args.table.now.entries c.insert_new.new.self c.args.table.now.expiries c.add_expiry.new.expiries c.requires.indexed c.requires.absent (subst (λ (keys : Keys). Holds c.args.name (Some c.args.entry) c.args.table.now.entries keys) (sym c.in-Ok.ensures.ok) (holds_put c.args.name c.args.entry c.args.table.now.entries)) c.in_ok-add_expiry.ensures.ok

pub returns-in-Err-clause-indexed : goal.returns-in-Err-clause-indexed
returns-in-Err-clause-indexed c =
    let drops = subst (λ (name : Bytes). DropsExpiry name c.args.entry.deadline c.add_expiry.new.expiries c.drop_expiry.new.expiries) c.in-Err.ensures.back.0 c.drop_expiry.ensures in
    let indexed = index_restored c.args.name c.args.entry.deadline c.args.table.now.entries c.args.table.now.expiries c.add_expiry.new.expiries c.drop_expiry.new.expiries c.requires.indexed c.requires.absent c.in_ok-add_expiry.ensures.ok drops in
    subst (λ (keys : Keys). IsIndexed keys c.drop_expiry.new.expiries) (sym c.in-Err.ensures.err) indexed
