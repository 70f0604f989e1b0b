use Rattle.sk_aof.proofs.Readings.{one_event}
use Rattle.sk_aof.proofs.laws.a_body_has_one_event.Goals as goal

pub returns : goal.returns
returns c = one_event
