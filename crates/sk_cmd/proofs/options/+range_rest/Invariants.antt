use Rattle.std.proofs.Common.{length}
use Rattle.sk_cmd.proofs.options.+range_rest.Given as goal

abbrev pub decreases-range_rest : goal.decreases-range_rest
decreases-range_rest l = length l.words.now
