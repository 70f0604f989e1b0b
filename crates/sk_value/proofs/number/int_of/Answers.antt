use Rattle.sk_value.proofs.IntOf.{int_of_is}
use Rattle.sk_value.proofs.number.int_of.Goals as goal

pub returns : goal.returns
returns c = int_of_is c.args.text.now c.read_int.result c.read_int.ensures
