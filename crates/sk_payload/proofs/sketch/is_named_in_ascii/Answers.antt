use Rattle.std.proofs.Common.{arith}
use Rattle.std.proofs.lemmas.Bool.Decides.{nat_tests}
use Rattle.sk_payload.proofs.Names.{ascii_name}
use Rattle.sk_payload.proofs.sketch.is_named_in_ascii.Goals as goal

pub returns-then-not-is_empty : goal.returns-then-not-is_empty
returns-then-not-is_empty c = λ fits ascii. ascii_name c.args.most c.args.bytes.now (grind arith) (grind (arith, nat_tests)) ascii
