use Rattle.std.proofs.Common.{arith, ap, ◌∙◌}
use Rattle.std.specs.Int.{from_be_bytes, w64}
use Rattle.sk_places.proofs.Tags.{long_number, short_number}
use Rattle.sk_places.proofs.tagged_payload.number_at_end.Goals as goal

pub returns-then-bytes-lt-TAG_BYTES : goal.returns-then-bytes-lt-TAG_BYTES
returns-then-bytes-lt-TAG_BYTES c = short_number c.args.bytes.now (omega (arith, c.if-bytes-lt-TAG_BYTES.true))

pub returns : goal.returns
returns c = c.from_be_bytes.ensures ∙ ap (from_be_bytes w64) (c.copy_from_slice.ensures.after ∙ c.split_at.ensures.back) ∙ long_number c.args.bytes.now (omega (arith, c.if-bytes-lt-TAG_BYTES.false))
