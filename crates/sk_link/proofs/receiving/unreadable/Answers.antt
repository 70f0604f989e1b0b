use Rattle.sk_link.proofs.Unread.{stuck_cause, ended_cause}
use Rattle.sk_link.proofs.receiving.unreadable.Goals as goal

pub returns-in-Ok-clause-stuck : goal.returns-in-Ok-clause-stuck
returns-in-Ok-clause-stuck c = λ stuck count left. stuck_cause count count c.args.bytes.now c.in-Ok.kept left stuck c.in-Ok.ensures

pub returns-in-Ok-clause-ended : goal.returns-in-Ok-clause-ended
returns-in-Ok-clause-ended c = λ none count left end. ended_cause count count c.args.bytes.now c.in-Ok.kept left none end c.in-Ok.ensures
