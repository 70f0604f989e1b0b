use Rattle.std.proofs.Common.{◌≡◌, vec_len}
use Rattle.sk_value.specs.Maps.{all_put_back}
use Rattle.sk_value.proofs.maps.take_back.Given as goal

abbrev pub decreases-loop-text : goal.decreases-loop-text
decreases-loop-text g l = vec_len l.writes

abbrev pub invariant-loop-text : goal.invariant-loop-text
invariant-loop-text g l = all_put_back l.writes.items l.map.entries ≡ all_put_back l.initial.writes.items l.initial.map.entries
