use Rattle.std.proofs.Common.{None, sym, subst}
use Rattle.sk_value.specs.Keys.{Keys}
use Rattle.sk_keys.specs.Index.{DropsExpiry}
use Rattle.sk_keys.proofs.Index.{Holds, has_expiry, holds_without, index_removed}
use Rattle.sk_keys.proofs.delete.take.Goals as goal

pub returns-clause-indexed : goal.returns-clause-indexed
returns-clause-indexed c =
    let same = sym c.in-Some.ensures.same in
    let drops = subst (λ n. DropsExpiry n c.in-Some.entry.deadline c.args.table.now.expiries c.drop_expiry.new.expiries) (sym same) c.drop_expiry.ensures in
    let expiry = has_expiry c.args.name.now c.in-Some.entry c.args.table.now.entries c.args.table.now.expiries c.requires (sym c.in-Some.ensures.is) in
    index_removed c.args.name.now c.in-Some.entry.deadline c.args.table.now.entries c.remove.new.self c.args.table.now.expiries c.drop_expiry.new.expiries c.requires expiry (subst (λ (keys : Keys). Holds c.args.name.now None c.args.table.now.entries keys) (sym c.remove.ensures.rest) (holds_without c.args.name.now c.args.table.now.entries c.in_order.ensures)) drops
