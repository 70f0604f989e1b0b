use Rattle.std.proofs.Common.{◌<◌, ◌≤◌, sym, ◌∙◌, ap, length, arith}
use Rattle.sk_table.specs.Entries.{at}
use Rattle.sk_table.proofs.Finds.{bucket_is, none_beyond, place_from, table_read}
use Rattle.sk_table.proofs.text_table.TextTable.get_by.Goals as goal

pub returns-then-here-len : goal.returns-then-here-len
returns-then-here-len g c =
    let buckets = c.self.inside.buckets.items in
    let half = c.self.inside.half in
    let here = c.address_of-here.result in
    let ok = c.self.inside.buckets.ok.0 in
    let place = place_from half c.len.result (length buckets) here c.hash_of-hash.result c.args.text.now (c.len.ensures ∙ ok) c.hash_of-hash.ensures c.address_of-here.ensures in
    let past = c.if-here-len.true in
    let count = c.len-2.ensures in
    let beyond : length buckets ≤ here = grind (arith, past, count, ok) in
    sym (none_beyond g.K.TextKey.text half buckets c.self.invariant c.args.text.now here place beyond) ∙ ap (at c.args.text.now) c.self.view_is

pub get-requires-clause-hashed : goal.get-requires-clause-hashed
get-requires-clause-hashed g c =
    let buckets = c.self.inside.buckets.items in
    let half = c.self.inside.half in
    let here = c.address_of-here.result in
    let ok = c.self.inside.buckets.ok.0 in
    let place = place_from half c.len.result (length buckets) here c.hash_of-hash.result c.args.text.now (c.len.ensures ∙ ok) c.hash_of-hash.ensures c.address_of-here.ensures in
    let before = c.if-here-len.false in
    let count = c.len-2.ensures in
    let within : here < length buckets = grind (arith, before, count, ok) in
    (bucket_is g.K.TextKey.text half buckets c.self.invariant c.args.text.now here place c.index.result.now within c.index.ensures).hashed

pub returns : goal.returns
returns g c =
    let buckets = c.self.inside.buckets.items in
    let half = c.self.inside.half in
    let here = c.address_of-here.result in
    let ok = c.self.inside.buckets.ok.0 in
    let place = place_from half c.len.result (length buckets) here c.hash_of-hash.result c.args.text.now (c.len.ensures ∙ ok) c.hash_of-hash.ensures c.address_of-here.ensures in
    let before = c.if-here-len.false in
    let count = c.len-2.ensures in
    let within : here < length buckets = grind (arith, before, count, ok) in
    c.get.ensures ∙ table_read g.K.TextKey.text half buckets c.self.invariant c.args.text.now here place c.index.result.now within c.index.ensures ∙ ap (at c.args.text.now) c.self.view_is
