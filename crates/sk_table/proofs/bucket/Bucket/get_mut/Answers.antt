use Rattle.std.proofs.Common.{◌≡◌, ◌<◌, ◌≤◌, sym, ◌∙◌, ap, refl, subst, length, slice_index_or, slice_set, inr, arith}
use Rattle.sk_table.specs.Slots.{place_of, with_value}
use Rattle.sk_table.proofs.Slots.{none_found, lent_alike, some_found, value_set}
use Rattle.sk_table.proofs.bucket.Bucket.get_mut.Goals as goal

pub returns-in-Some : goal.returns-in-Some
returns-in-Some g c =
    let told = c.in-Some.ensures in
    let text_of = g.K.TextKey.text in
    let slots = c.args.self.now in
    let place = c.place_of-at.result in
    let slot = c.in-Some.slot.now in
    let is : place ≡ place_of text_of c.args.text.now slots = c.place_of-at.ensures.is ∙ ap (place_of text_of c.args.text.now) c.self.view_is in
    let within : place < length slots = subst (λ n. place < n) (c.self.inside.slots.ok.0 ∙ ap length c.self.view_is) (told.variant.0 refl) in
    let read : slot ≡ slice_index_or slots place slot = subst (λ l. slot ≡ slice_index_or l place slot) c.self.view_is told.value in
    let written : (w : g.row.V.Denot) → slice_set c.self.inside.slots.items place (record { key = slot.key; hash = slot.hash; value = w }) ≡ with_value slots (place_of text_of c.args.text.now slots) w =
    λ w. ap (λ l. slice_set l place (record { key = slot.key; hash = slot.hash; value = w })) c.self.view_is ∙ value_set slots place slot w within read ∙ ap (λ i. with_value slots i w) is in
    (lent_alike written, record { writes_back = tt; value = some_found text_of c.args.text.now slots place slot is within read })

pub returns-in-None : goal.returns-in-None
returns-in-None g c =
    let told = c.in-None.ensures in
    let text_of = g.K.TextKey.text in
    let slots = c.args.self.now in
    let is : c.place_of-at.result ≡ place_of text_of c.args.text.now slots = c.place_of-at.ensures.is ∙ ap (place_of text_of c.args.text.now) c.self.view_is in
    let within : c.place_of-at.result ≤ length slots = subst (λ l. c.place_of-at.result ≤ length l) c.self.view_is c.place_of-at.ensures.within in
    let count : c.self.inside.slots.len ≡ length slots = c.self.inside.slots.ok.0 ∙ ap length c.self.view_is in
    let beyond = told.variant.1 in
    let end : c.place_of-at.result ≡ length slots = grind (arith, count, within, beyond) in
    (ap inr c.self.view_is, record { writes_back = tt; value = sym (none_found text_of c.args.text.now slots (sym is ∙ end)) })
