use Rattle.std.proofs.Common.{◌-◌}
use Rattle.sk_resp.proofs.word_order.+compare_from.Given as goal

abbrev pub decreases-compare_from : goal.decreases-compare_from
decreases-compare_from l = l.both - l.at
