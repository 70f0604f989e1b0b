use Rattle.std.proofs.Common.{arith, ◌∙◌, ap, length}
use Rattle.sk_aof.proofs.Sizes.{cut_fits}
use Rattle.sk_aof.proofs.entry.cut_record.Goals as goal

pub record_of-requires : goal.record_of-requires
record_of-requires c = omega (arith, ap length (c.deref.ensures.value ∙ c.in_ok-body.ensures), cut_fits c.args.seat c.ranges.seat.fits)
