use Rattle.sk_base.proofs.Names.{same_test}
use Rattle.sk_link.proofs.asking.is_jid.Goals as goal

pub returns : goal.returns
returns c = same_test c.is_name.result 64 c.args.bytes.now c.is_name.ensures
