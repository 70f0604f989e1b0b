use Rattle.std.proofs.Common.{◌∙◌, ap}
use Rattle.sk_base.specs.Name.{is_name}
use Rattle.sk_base.proofs.Names.{same_test}
use Rattle.sk_row_calls.proofs.calls.poller.is_named.Goals as goal

pub returns : goal.returns
returns c = same_test c.is_name.result 255 c.as_bytes.result.now c.is_name.ensures ∙ ap (is_name 255) c.as_bytes.ensures.value
