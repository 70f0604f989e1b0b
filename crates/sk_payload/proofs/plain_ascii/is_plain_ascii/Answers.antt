use Rattle.std.proofs.Common.{sym, arith}
use Rattle.sk_payload.proofs.PlainAscii.{table_is}
use Rattle.sk_payload.proofs.plain_ascii.is_plain_ascii.Goals as goal

pub returns : goal.returns
returns c = table_is c.args.byte (omega arith)
