use Rattle.std.proofs.Common.{arith, ◌∙◌, ap, length}
use Rattle.sk_aof.proofs.Sizes.{ask_fits}
use Rattle.sk_aof.proofs.entry.ask_record.Goals as goal

pub record_of-requires : goal.record_of-requires
record_of-requires c =
    omega (arith, ap length (c.deref.ensures.value ∙ c.in_ok-body.ensures), ask_fits c.args.seat c.args.now c.args.words.now c.ranges.seat.fits c.ranges.now.fits c.requires)
