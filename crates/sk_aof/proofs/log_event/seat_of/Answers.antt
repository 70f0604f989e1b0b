use Rattle.std.proofs.Common.{arith}
use Rattle.sk_aof.proofs.Numbers.{too_great}
use Rattle.sk_aof.proofs.log_event.seat_of.Goals as goal

pub returns-in_default : goal.returns-in_default
returns-in_default c = too_great c.args.word.now c.args.words.now c.in-Some.n (omega (arith, c.from.ensures, c.if-n-from.false)) c.in-Some.ensures
