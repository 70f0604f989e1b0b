use Rattle.std.proofs.Common.{◌≡◌, sym, ◌∙◌, ap, subst, length, slice_index_or, arith}
use Rattle.sk_table.proofs.Slots.{none_found, some_found}
use Rattle.sk_table.proofs.bucket.Bucket.get.Goals as goal

pub returns-then-at-len : goal.returns-then-at-len
returns-then-at-len g c = sym (none_found g.K.TextKey.text c.args.text.now c.args.self.now (sym c.place_of-at.ensures.is ∙ c.if-at-len.true ∙ c.len.ensures ∙ c.self.inside.slots.ok.0 ∙ ap length c.self.view_is))

pub returns : goal.returns
returns g c =
    let count : c.len.result ≡ length c.args.self.now = c.len.ensures ∙ c.self.inside.slots.ok.0 ∙ ap length c.self.view_is in
    let within = c.place_of-at.ensures.within in
    let apart = c.if-at-len.false in
    some_found g.K.TextKey.text c.args.text.now c.args.self.now c.place_of-at.result c.index.result.now c.place_of-at.ensures.is (grind (arith, count, within, apart))
    (subst (λ l. c.index.result.now ≡ slice_index_or l c.place_of-at.result c.index.result.now) c.self.view_is c.index.ensures)
