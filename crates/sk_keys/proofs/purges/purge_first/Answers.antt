use Rattle.std.proofs.Common.{◌≡◌, ℕ, arith, true, false, Some, None, ◌∙◌, sym, ap, subst, nat_lt}
use Rattle.sk_resp.specs.Spelling.{Bytes}
use Rattle.sk_keys.specs.Index.{goes_at}
use Rattle.sk_value.specs.Keys.{Keys, at, purged}
use Rattle.sk_keys.proofs.Index.{Holds, has_member, drops_first, holds_without, index_removed}
use Rattle.sk_keys.proofs.Purging.{purge_expired, purge_clear}
use Rattle.sk_keys.proofs.purges.purge_first.Goals as goal

pub returns-then-not-has_expired-clause-clean : goal.returns-then-not-has_expired-clause-clean
returns-then-not-has_expired-clause-clean c = λ _. purge_clear c.args.over c.args.table.now.entries c.args.table.now.expiries c.in_order.ensures c.requires (c.has_expired.ensures.clear (cc))

pub returns-clause-keys : goal.returns-clause-keys
returns-clause-keys c =
    let first : ℕ = c.in-Some.field-0-0 in
    let name : Bytes = c.in-Some.name in
    let goes : goes_at first (at name c.args.table.now.entries) ≡ true = grind (arith, c.requires first name, c.in-Some.ensures.member) in
    let reached : nat_lt c.args.over first ≡ false = grind (arith, c.in-Some.ensures.removal, c.has_expired.ensures.first) in
    ap (purged c.args.over) c.remove-gone.ensures.rest ∙ purge_expired c.args.over first name c.args.table.now.entries goes reached

pub returns-clause-indexed : goal.returns-clause-indexed
returns-clause-indexed c =
    let first : ℕ = c.in-Some.field-0-0 in
    let name : Bytes = c.in-Some.name in
    let goes : goes_at first (at name c.args.table.now.entries) ≡ true = grind (arith, c.requires first name, c.in-Some.ensures.member) in
    let expiry = has_member name first c.args.table.now.entries c.args.table.now.expiries c.requires (c.requires first name ∙ goes) in
    let drops = drops_first name first c.args.table.now.expiries c.pop_first.new.self c.in-Some.ensures.updates.0 in
    let holds = subst (λ (keys : Keys). Holds name None c.args.table.now.entries keys) (sym c.remove-gone.ensures.rest) (holds_without name c.args.table.now.entries c.in_order.ensures) in
    index_removed name (Some first) c.args.table.now.entries c.remove-gone.new.self c.args.table.now.expiries c.pop_first.new.self c.requires expiry holds drops
