use Rattle.sk_payload.proofs.Names.{same_test}
use Rattle.sk_key.proofs.key_class.is_name.Goals as goal

pub returns : goal.returns
returns c = same_test c.is_name.result 255 c.args.name.now c.is_name.ensures
