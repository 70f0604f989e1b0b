use Rattle.sk_resp.proofs.Readings.{command_then}
use Rattle.sk_resp.proofs.request.laws.written_is_read.Goals as goal

pub returns : goal.returns
returns c = command_then
