use Rattle.std.proofs.Common.{length}
use Rattle.sk_cmd.proofs.options.+set_rest.Given as goal

abbrev pub decreases-set_rest : goal.decreases-set_rest
decreases-set_rest l = length l.words.now
