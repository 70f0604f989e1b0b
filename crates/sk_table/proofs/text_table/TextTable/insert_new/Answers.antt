use Rattle.std.proofs.Common.{◌<◌, sym, ◌∙◌, ap, length, refl, subst, slice_set, arith}
use Rattle.sk_table.specs.Entries.{at, with_text}
use Rattle.sk_table.specs.Hashing.{hash_of}
use Rattle.sk_table.specs.Table.{IsTable, table_in}
use Rattle.sk_table.proofs.Finds.{place_from, put_pushed, table_pushed}
use Rattle.sk_table.proofs.text_table.TextTable.insert_new.Goals as goal

pub invariant_of-self-2 : goal.invariant_of-self-2
invariant_of-self-2 g c =
    let buckets = c.self.inside.buckets.items in
    let half = c.self.inside.half in
    let here = c.address_of-here.result in
    let ok = c.self.inside.buckets.ok.0 in
    let place = place_from half c.len.result (length buckets) here c.hash_of-hash.result (g.K.TextKey.text c.args.key) (c.len.ensures ∙ ok) (c.hash_of-hash.ensures ∙ ap hash_of c.bytes.ensures) c.address_of-here.ensures in
    let before = c.if-here-len.false in
    let count = c.len-2.ensures in
    let within : here < length buckets = grind (arith, before, count, ok) in
    let none = ap (at (g.K.TextKey.text c.args.key)) (c.self.view_is ∙ c.grow.ensures) ∙ c.requires in
    subst (λ l. IsTable g.K.TextKey.text half (slice_set buckets here l)) (sym (c.in_ok-put.ensures.ok)) (table_pushed g.K.TextKey.text half buckets c.self.invariant (g.K.TextKey.text c.args.key) here place c.index_mut.result.now within c.index_mut.ensures.value (record { key = c.args.key; hash = c.hash_of-hash.result; value = c.args.value }) refl (c.hash_of-hash.ensures ∙ ap hash_of c.bytes.ensures) none)

pub returns-clause-ok : goal.returns-clause-ok
returns-clause-ok g c =
    let buckets = c.self.inside.buckets.items in
    let half = c.self.inside.half in
    let here = c.address_of-here.result in
    let ok = c.self.inside.buckets.ok.0 in
    let place = place_from half c.len.result (length buckets) here c.hash_of-hash.result (g.K.TextKey.text c.args.key) (c.len.ensures ∙ ok) (c.hash_of-hash.ensures ∙ ap hash_of c.bytes.ensures) c.address_of-here.ensures in
    let before = c.if-here-len.false in
    let count = c.len-2.ensures in
    let within : here < length buckets = grind (arith, before, count, ok) in
    let none = ap (at (g.K.TextKey.text c.args.key)) (c.self.view_is ∙ c.grow.ensures) ∙ c.requires in
    ap (λ l. table_in g.K.TextKey.text (slice_set buckets here l)) c.in_ok-put.ensures.ok ∙ put_pushed g.K.TextKey.text half buckets c.self.invariant (g.K.TextKey.text c.args.key) here place c.index_mut.result.now within c.index_mut.ensures.value (record { key = c.args.key; hash = c.hash_of-hash.result; value = c.args.value }) refl (c.hash_of-hash.ensures ∙ ap hash_of c.bytes.ensures) none ∙ ap (with_text (g.K.TextKey.text c.args.key) c.args.value) (c.self.view_is ∙ c.grow.ensures)
