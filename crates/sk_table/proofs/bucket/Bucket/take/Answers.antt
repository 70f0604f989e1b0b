use Rattle.std.proofs.Common.{◌≡◌, sym, ◌∙◌, ap, subst, length, slice_index_or, arith}
use Rattle.sk_table.proofs.Slots.{none_found, some_found, text_found}
use Rattle.sk_table.proofs.bucket.Bucket.take.Goals as goal

pub returns-then-at-len-clause-is : goal.returns-then-at-len-clause-is
returns-then-at-len-clause-is g c = sym (none_found g.K.TextKey.text c.args.text.now c.args.self.now (sym c.place_of-at.ensures.is ∙ c.if-at-len.true ∙ c.len.ensures ∙ c.self.inside.slots.ok.0 ∙ ap length c.self.view_is))

pub returns-clause-is : goal.returns-clause-is
returns-clause-is g c =
    let count : c.len.result ≡ length c.args.self.now = c.len.ensures ∙ c.self.inside.slots.ok.0 ∙ ap length c.self.view_is in
    let within = c.place_of-at.ensures.within in
    let apart = c.if-at-len.false in
    some_found g.K.TextKey.text c.args.text.now c.args.self.now c.place_of-at.result c.remove-slot.result c.place_of-at.ensures.is (grind (arith, count, within, apart))
    (subst (λ l. c.remove-slot.result ≡ slice_index_or l c.place_of-at.result c.remove-slot.result) c.self.view_is c.remove-slot.ensures.value)

pub returns-clause-text : goal.returns-clause-text
returns-clause-text g c =
    let count : c.len.result ≡ length c.args.self.now = c.len.ensures ∙ c.self.inside.slots.ok.0 ∙ ap length c.self.view_is in
    let within = c.place_of-at.ensures.within in
    let apart = c.if-at-len.false in
    text_found g.K.TextKey.text c.args.text.now c.args.self.now c.place_of-at.result c.remove-slot.result c.place_of-at.ensures.is (grind (arith, count, within, apart))
    (subst (λ l. c.remove-slot.result ≡ slice_index_or l c.place_of-at.result c.remove-slot.result) c.self.view_is c.remove-slot.ensures.value)
