use Rattle.sk_keys.proofs.Index.{set_same, set_from_other}
use Rattle.sk_keys.proofs.expiries.set_expiry.Goals as goal

pub returns-then-eq-clause-ok : goal.returns-then-eq-clause-ok
returns-then-eq-clause-ok c = set_same c.args.name c.args.from c.args.to c.args.expiries.now c.requires (cc)

pub returns-clause-ok : goal.returns-clause-ok
returns-clause-ok c = set_from_other c.args.name c.args.from c.args.to c.args.expiries.now c.add_expiry.new.expiries c.drop_expiry.new.expiries c.requires (cc) c.in_ok-add_expiry.ensures.ok c.drop_expiry.ensures
