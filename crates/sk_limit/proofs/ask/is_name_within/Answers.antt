use Rattle.std.proofs.Common.{◌≡◌, subst}
use Rattle.sk_base.specs.Name.{is_name}
use Rattle.sk_base.proofs.Names.{same_test}
use Rattle.sk_limit.proofs.ask.is_name_within.Goals as goal

pub returns : goal.returns
returns c = subst (λ text. c.is_name.result ≡ is_name c.args.most text) c.as_bytes.ensures.value (same_test c.is_name.result c.args.most c.as_bytes.result.now c.is_name.ensures)
