use Rattle.std.proofs.Common.{◌≡◌, ◌<◌, ◌≤◌, sym, ◌∙◌, ap, subst, length, slice_index_or, slice_set, arith}
use Rattle.sk_table.specs.Slots.{place_of}
use Rattle.sk_table.proofs.Renewed.{key_absent, key_set}
use Rattle.sk_table.proofs.bucket.Bucket.renew.Goals as goal

pub returns-then-at-len : goal.returns-then-at-len
returns-then-at-len g c =
    let text_of = g.K.TextKey.text in
    let slots = c.args.self.now in
    let place = c.place_of-at.result in
    let slot = c.index_mut.result.now in
    let is : place ≡ place_of text_of (text_of c.args.key) slots = c.place_of-at.ensures.is ∙ ap (λ t. place_of text_of t c.args.self.now) c.bytes.ensures in
    let before = c.if-at-len.true in
    let count = c.len.ensures ∙ c.self.inside.slots.ok.0 ∙ ap length c.self.view_is in
    let within : place < length slots = grind (arith, before, count) in
    let read : slot ≡ slice_index_or slots place slot = subst (λ l. slot ≡ slice_index_or l place slot) c.self.view_is c.index_mut.ensures.value in
    ap (λ l. slice_set l place (record { key = c.args.key; hash = slot.hash; value = slot.value })) c.self.view_is ∙ key_set text_of c.args.key slots place slot is within read

pub returns-else-at-len : goal.returns-else-at-len
returns-else-at-len g c =
    let text_of = g.K.TextKey.text in
    let slots = c.args.self.now in
    let place = c.place_of-at.result in
    let is : place ≡ place_of text_of (text_of c.args.key) slots = c.place_of-at.ensures.is ∙ ap (λ t. place_of text_of t c.args.self.now) c.bytes.ensures in
    let within = c.place_of-at.ensures.within in
    let past = c.if-at-len.false in
    let count = c.len.ensures ∙ c.self.inside.slots.ok.0 ∙ ap length c.self.view_is in
    let end : place ≡ length slots = grind (arith, past, within, count) in
    sym (key_absent text_of c.args.key slots (sym is ∙ end))
