use Rattle.std.proofs.Common.{◌≡◌, min, sym, ap, subst, ◌∙◌, arith}
use Rattle.sk_value.specs.Keys.{purged}
use Rattle.sk_keys.specs.Past.{AreAhead, named}
use Rattle.sk_keys.proofs.Past.{ahead_all_dropped, clean_ahead, purged_all_dropped, purged_clean, purged_earlier}
use Rattle.sk_keys.proofs.named.settle.Goals as goal

pub returns-then-not-behind-clause-keys : goal.returns-then-not-behind-clause-keys
returns-then-not-behind-clause-keys c = let clean = c.requires.clean (cc) in purged_earlier c.args.over c.args.now c.args.table.now.entries clean ∙ sym clean

pub returns-then-not-behind-clause-ahead : goal.returns-then-not-behind-clause-ahead
returns-then-not-behind-clause-ahead c = clean_ahead (min c.args.over c.args.now) (named c.args.action.now) c.args.table.now.entries c.in_order.ensures (purged_earlier c.args.over c.args.now c.args.table.now.entries (c.requires.clean (cc)))

pub returns-then-not-behind-clause-clean : goal.returns-then-not-behind-clause-clean
returns-then-not-behind-clause-clean c = λ _. purged_earlier c.args.over c.args.now c.args.table.now.entries (c.requires.clean (cc))

pub returns-then-early-clause-keys : goal.returns-then-early-clause-keys
returns-then-early-clause-keys c =
    let clean = purged_clean c.args.over c.args.table.now.entries c.purge_all.new.table.entries c.purge_all.ensures.keys in
    purged_earlier c.args.over c.args.now c.purge_all.new.table.entries clean ∙ c.purge_all.ensures.keys

pub returns-then-early-clause-ahead : goal.returns-then-early-clause-ahead
returns-then-early-clause-ahead c =
    let clean = purged_clean c.args.over c.args.table.now.entries c.purge_all.new.table.entries c.purge_all.ensures.keys in
    clean_ahead (min c.args.over c.args.now) (named c.args.action.now) c.purge_all.new.table.entries c.in_order-then-early.ensures (purged_earlier c.args.over c.args.now c.purge_all.new.table.entries clean)

pub returns-then-early-clause-clean : goal.returns-then-early-clause-clean
returns-then-early-clause-clean c = λ _.
    let clean = purged_clean c.args.over c.args.table.now.entries c.purge_all.new.table.entries c.purge_all.ensures.keys in
    purged_earlier c.args.over c.args.now c.purge_all.new.table.entries clean

pub returns-clause-keys : goal.returns-clause-keys
returns-clause-keys c =
    let same : min c.args.over c.args.now ≡ c.args.over = grind (arith, c.if-early.false) in
    ap (λ n. purged n c.drop_named.new.table.entries) same ∙ ap (purged c.args.over) c.drop_named.ensures.keys ∙ purged_all_dropped c.args.over (named c.args.action.now) c.args.table.now.entries

pub returns-clause-ahead : goal.returns-clause-ahead
returns-clause-ahead c =
    let same : min c.args.over c.args.now ≡ c.args.over = grind (arith, c.if-early.false) in
    let ahead = subst (AreAhead c.args.over (named c.args.action.now)) (sym c.drop_named.ensures.keys) (ahead_all_dropped c.args.over (named c.args.action.now) c.args.table.now.entries c.in_order.ensures) in
    subst (λ n. AreAhead n (named c.args.action.now) c.drop_named.new.table.entries) (sym same) ahead
