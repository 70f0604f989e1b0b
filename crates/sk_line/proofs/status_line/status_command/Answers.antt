use Rattle.sk_line.proofs.status_line.status_command.Goals as goal

pub returns : goal.returns
returns c = c.addressed.ensures _ c.new.ensures.app
