use Rattle.std.proofs.Common.{◌≡◌, ◌<◌, sym, ◌∙◌, ap, length, subst, slice_set, arith}
use Rattle.sk_table.specs.Hashing.{address, hash_of}
use Rattle.sk_table.specs.Table.{IsTable, table_in}
use Rattle.sk_table.proofs.Finds.{bucket_is, place_from}
use Rattle.sk_table.proofs.Renewed.{same_renewed, table_renewed}
use Rattle.sk_table.proofs.text_table.TextTable.renew.Goals as goal

pub renew-requires-clause-hashed : goal.renew-requires-clause-hashed
renew-requires-clause-hashed g c =
    let buckets = c.self.inside.buckets.items in
    let half = c.self.inside.half in
    let here = c.address_of-here.result in
    let ok = c.self.inside.buckets.ok.0 in
    let place = place_from half c.len.result (length buckets) here c.hash_of-hash.result c.bytes.result.now (c.len.ensures ∙ ok) c.hash_of-hash.ensures c.address_of-here.ensures in
    let before = c.if-here-len.true in
    let count = c.len-2.ensures in
    let within : here < length buckets = grind (arith, before, count, ok) in
    (bucket_is g.K.TextKey.text half buckets c.self.invariant c.bytes.result.now here place c.index_mut.result.now within c.index_mut.ensures.value).hashed

pub invariant_of-self : goal.invariant_of-self
invariant_of-self g c =
    let buckets = c.self.inside.buckets.items in
    let half = c.self.inside.half in
    let here = c.address_of-here.result in
    let ok = c.self.inside.buckets.ok.0 in
    let place = place_from half c.len.result (length buckets) here c.hash_of-hash.result c.bytes.result.now (c.len.ensures ∙ ok) c.hash_of-hash.ensures c.address_of-here.ensures in
    let before = c.if-here-len.true in
    let count = c.len-2.ensures in
    let within : here < length buckets = grind (arith, before, count, ok) in
    subst (λ l. IsTable g.K.TextKey.text half (slice_set buckets here l)) (sym c.renew.ensures) (table_renewed g.K.TextKey.text c.args.key half buckets c.self.invariant c.bytes.result.now here place c.index_mut.result.now within c.index_mut.ensures.value)

pub returns-then-here-len : goal.returns-then-here-len
returns-then-here-len g c =
    let buckets = c.self.inside.buckets.items in
    let here = c.address_of-here.result in
    let ok = c.self.inside.buckets.ok.0 in
    let before = c.if-here-len.true in
    let count = c.len-2.ensures in
    let within : here < length buckets = grind (arith, before, count, ok) in
    ap (λ l. table_in g.K.TextKey.text (slice_set buckets here l)) c.renew.ensures ∙ same_renewed g.K.TextKey.text c.args.key buckets here c.index_mut.result.now within c.index_mut.ensures.value ∙ c.self.view_is
