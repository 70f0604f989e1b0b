use Rattle.sk_cmd.proofs.ExistsTable.{some_command}
use Rattle.sk_cmd.proofs.laws.some_command.Goals as goal

pub returns : goal.returns
returns c = some_command
