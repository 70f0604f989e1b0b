use Rattle.sk_cmd.proofs.AgreeTable.{one_command}
use Rattle.sk_cmd.proofs.laws.one_command.Goals as goal

pub returns : goal.returns
returns c = one_command
