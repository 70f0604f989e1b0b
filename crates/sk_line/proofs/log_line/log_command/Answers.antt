use Rattle.sk_line.proofs.log_line.log_command.Goals as goal

pub returns : goal.returns
returns c = c.optional.ensures _ c.new.ensures.app
