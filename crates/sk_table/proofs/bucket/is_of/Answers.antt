use Rattle.std.proofs.Common.{sym, ◌∙◌, ap}
use Rattle.std.proofs.Common.{arith}
use Rattle.std.specs.Str.{bytes_eq}
use Rattle.sk_table.proofs.Slots.{at_by_bytes, apart_by_hash}
use Rattle.sk_table.proofs.bucket.is_of.Goals as goal

pub returns-then-slot-hash : goal.returns-then-slot-hash
returns-then-slot-hash g c = c.eq.ensures ∙ ap (λ other. bytes_eq c.args.text.now other) c.bytes.ensures ∙ at_by_bytes c.args.text.now (g.K.TextKey.text c.args.slot.now.key)

pub returns-else-slot-hash : goal.returns-else-slot-hash
returns-else-slot-hash g c =
    let apart = apart_by_hash c.args.text.now (g.K.TextKey.text c.args.slot.now.key) (λ same. c.if-slot-hash.false (c.requires.own ∙ sym same ∙ sym c.requires.hash)) in
    let differ = c.if-slot-hash.false in
    grind (arith, apart, differ)
