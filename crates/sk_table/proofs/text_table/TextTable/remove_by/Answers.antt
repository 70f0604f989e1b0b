use Rattle.std.proofs.Common.{◌<◌, ◌≤◌, sym, ◌∙◌, ap, length, subst, option_map, slice_set, arith}
use Rattle.sk_table.specs.Entries.{at, without_text}
use Rattle.sk_table.specs.Table.{IsTable, table_in}
use Rattle.sk_table.proofs.Finds.{bucket_is, none_beyond, place_from, rest_removed, table_read, table_removed}
use Rattle.sk_table.proofs.Ordered.{nothing_without}
use Rattle.sk_table.proofs.text_table.TextTable.remove_by.Goals as goal

pub returns-then-here-len-clause-is : goal.returns-then-here-len-clause-is
returns-then-here-len-clause-is g c =
    let buckets = c.self.inside.buckets.items in
    let half = c.self.inside.half in
    let here = c.address_of-here.result in
    let ok = c.self.inside.buckets.ok.0 in
    let place = place_from half c.len.result (length buckets) here c.hash_of-hash.result c.args.text.now (c.len.ensures ∙ ok) c.hash_of-hash.ensures c.address_of-here.ensures in
    let past = c.if-here-len.true in
    let count = c.len-2.ensures in
    let beyond : length buckets ≤ here = grind (arith, past, count, ok) in
    sym (none_beyond g.K.TextKey.text half buckets c.self.invariant c.args.text.now here place beyond) ∙ ap (at c.args.text.now) c.self.view_is

pub returns-then-here-len-clause-rest : goal.returns-then-here-len-clause-rest
returns-then-here-len-clause-rest g c =
    let buckets = c.self.inside.buckets.items in
    let half = c.self.inside.half in
    let here = c.address_of-here.result in
    let ok = c.self.inside.buckets.ok.0 in
    let place = place_from half c.len.result (length buckets) here c.hash_of-hash.result c.args.text.now (c.len.ensures ∙ ok) c.hash_of-hash.ensures c.address_of-here.ensures in
    let past = c.if-here-len.true in
    let count = c.len-2.ensures in
    let beyond : length buckets ≤ here = grind (arith, past, count, ok) in
    sym (nothing_without c.args.text.now c.args.self.now (sym (ap (at c.args.text.now) c.self.view_is) ∙ none_beyond g.K.TextKey.text half buckets c.self.invariant c.args.text.now here place beyond))

pub take-requires-clause-hashed : goal.take-requires-clause-hashed
take-requires-clause-hashed g c =
    let buckets = c.self.inside.buckets.items in
    let half = c.self.inside.half in
    let here = c.address_of-here.result in
    let ok = c.self.inside.buckets.ok.0 in
    let place = place_from half c.len.result (length buckets) here c.hash_of-hash.result c.args.text.now (c.len.ensures ∙ ok) c.hash_of-hash.ensures c.address_of-here.ensures in
    let before = c.if-here-len.false in
    let count = c.len-2.ensures in
    let within : here < length buckets = grind (arith, before, count, ok) in
    (bucket_is g.K.TextKey.text half buckets c.self.invariant c.args.text.now here place c.index_mut.result.now within c.index_mut.ensures.value).hashed

pub invariant_of-self : goal.invariant_of-self
invariant_of-self g c =
    let buckets = c.self.inside.buckets.items in
    let half = c.self.inside.half in
    let here = c.address_of-here.result in
    let ok = c.self.inside.buckets.ok.0 in
    let place = place_from half c.len.result (length buckets) here c.hash_of-hash.result c.args.text.now (c.len.ensures ∙ ok) c.hash_of-hash.ensures c.address_of-here.ensures in
    let before = c.if-here-len.false in
    let count = c.len-2.ensures in
    let within : here < length buckets = grind (arith, before, count, ok) in
    subst (λ l. IsTable g.K.TextKey.text half (slice_set buckets here l)) (sym c.take.ensures.rest) (table_removed g.K.TextKey.text half buckets c.self.invariant c.args.text.now here place c.index_mut.result.now within c.index_mut.ensures.value)

pub returns-in_err-slot-clause-is : goal.returns-in_err-slot-clause-is
returns-in_err-slot-clause-is g c =
    let buckets = c.self.inside.buckets.items in
    let half = c.self.inside.half in
    let here = c.address_of-here.result in
    let ok = c.self.inside.buckets.ok.0 in
    let place = place_from half c.len.result (length buckets) here c.hash_of-hash.result c.args.text.now (c.len.ensures ∙ ok) c.hash_of-hash.ensures c.address_of-here.ensures in
    let before = c.if-here-len.false in
    let count = c.len-2.ensures in
    let within : here < length buckets = grind (arith, before, count, ok) in
    ap (option_map (λ entry. entry.1)) c.from_residual.ensures ∙ c.in_err-slot.ensures.is ∙ table_read g.K.TextKey.text half buckets c.self.invariant c.args.text.now here place c.index_mut.result.now within c.index_mut.ensures.value ∙ ap (at c.args.text.now) c.self.view_is

pub returns-in_err-slot-clause-rest : goal.returns-in_err-slot-clause-rest
returns-in_err-slot-clause-rest g c =
    let buckets = c.self.inside.buckets.items in
    let half = c.self.inside.half in
    let here = c.address_of-here.result in
    let ok = c.self.inside.buckets.ok.0 in
    let place = place_from half c.len.result (length buckets) here c.hash_of-hash.result c.args.text.now (c.len.ensures ∙ ok) c.hash_of-hash.ensures c.address_of-here.ensures in
    let before = c.if-here-len.false in
    let count = c.len-2.ensures in
    let within : here < length buckets = grind (arith, before, count, ok) in
    ap (λ l. table_in g.K.TextKey.text (slice_set buckets here l)) c.take.ensures.rest ∙ rest_removed g.K.TextKey.text half buckets c.self.invariant c.args.text.now here place c.index_mut.result.now within c.index_mut.ensures.value ∙ ap (without_text c.args.text.now) c.self.view_is

pub invariant_of-self-2 : goal.invariant_of-self-2
invariant_of-self-2 g c =
    let buckets = c.self.inside.buckets.items in
    let half = c.self.inside.half in
    let here = c.address_of-here.result in
    let ok = c.self.inside.buckets.ok.0 in
    let place = place_from half c.len.result (length buckets) here c.hash_of-hash.result c.args.text.now (c.len.ensures ∙ ok) c.hash_of-hash.ensures c.address_of-here.ensures in
    let before = c.if-here-len.false in
    let count = c.len-2.ensures in
    let within : here < length buckets = grind (arith, before, count, ok) in
    subst (λ l. IsTable g.K.TextKey.text half (slice_set buckets here l)) (sym c.take.ensures.rest) (table_removed g.K.TextKey.text half buckets c.self.invariant c.args.text.now here place c.index_mut.result.now within c.index_mut.ensures.value)

pub returns-clause-is : goal.returns-clause-is
returns-clause-is g c =
    let buckets = c.self.inside.buckets.items in
    let half = c.self.inside.half in
    let here = c.address_of-here.result in
    let ok = c.self.inside.buckets.ok.0 in
    let place = place_from half c.len.result (length buckets) here c.hash_of-hash.result c.args.text.now (c.len.ensures ∙ ok) c.hash_of-hash.ensures c.address_of-here.ensures in
    let before = c.if-here-len.false in
    let count = c.len-2.ensures in
    let within : here < length buckets = grind (arith, before, count, ok) in
    let told = c.in_ok-slot.ensures.is in
    told ∙ table_read g.K.TextKey.text half buckets c.self.invariant c.args.text.now here place c.index_mut.result.now within c.index_mut.ensures.value ∙ ap (at c.args.text.now) c.self.view_is

pub returns-clause-rest : goal.returns-clause-rest
returns-clause-rest g c =
    let buckets = c.self.inside.buckets.items in
    let half = c.self.inside.half in
    let here = c.address_of-here.result in
    let ok = c.self.inside.buckets.ok.0 in
    let place = place_from half c.len.result (length buckets) here c.hash_of-hash.result c.args.text.now (c.len.ensures ∙ ok) c.hash_of-hash.ensures c.address_of-here.ensures in
    let before = c.if-here-len.false in
    let count = c.len-2.ensures in
    let within : here < length buckets = grind (arith, before, count, ok) in
    ap (λ l. table_in g.K.TextKey.text (slice_set buckets here l)) c.take.ensures.rest ∙ rest_removed g.K.TextKey.text half buckets c.self.invariant c.args.text.now here place c.index_mut.result.now within c.index_mut.ensures.value ∙ ap (without_text c.args.text.now) c.self.view_is
