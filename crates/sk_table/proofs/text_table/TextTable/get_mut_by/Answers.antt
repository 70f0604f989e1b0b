use Rattle.std.proofs.Common.{◌≡◌, ◌<◌, ◌≤◌, sym, ◌∙◌, ap, length, slice_set, refl, subst, inr, arith}
use Rattle.sk_table.specs.Entries.{at}
use Rattle.sk_table.specs.Table.{all_entries, table_in}
use Rattle.sk_table.proofs.Finds.{bucket_is, none_beyond, place_from, rest_written, same_as_was, table_as_was, table_read, table_written}
use Rattle.std.specs.BTreeMap.{is_at}
use Rattle.std.specs.Map.{keys_of, set_value}
use Rattle.std.specs.List.Sorted.{IsStrictlySortedBy}
use Rattle.sk_resp.specs.WordOrder.{text_cmp}
use Rattle.sk_table.specs.Slots.{place_of, with_value}
use Rattle.sk_table.proofs.Ordered.{up_in_order}
use Rattle.sk_table.proofs.Slots.{read_alike}
use Rattle.sk_table.proofs.text_table.TextTable.get_mut_by.Goals as goal

pub get_mut-requires-in-Some-clause-hashed : goal.get_mut-requires-in-Some-clause-hashed
get_mut-requires-in-Some-clause-hashed g c =
    let buckets = c.self.inside.buckets.items in
    let half = c.self.inside.half in
    let here = c.address_of-here.result in
    let ok = c.self.inside.buckets.ok.0 in
    let place = place_from half c.len.result (length buckets) here c.hash_of-hash.result c.args.text.now (c.len.ensures ∙ ok) c.hash_of-hash.ensures c.address_of-here.ensures in
    let told = c.in-Some.ensures in
    let within : here < length buckets = subst (λ n. here < n) ok (told.variant.0 refl) in
    (bucket_is g.K.TextKey.text half buckets c.self.invariant c.args.text.now here place c.in-Some.bucket.now within told.value).hashed

pub invariant_of-self-lent : goal.invariant_of-self-lent
invariant_of-self-lent g c = λ lent.
    let buckets = c.self.inside.buckets.items in
    let half = c.self.inside.half in
    let here = c.address_of-here.result in
    let ok = c.self.inside.buckets.ok.0 in
    let place = place_from half c.len.result (length buckets) here c.hash_of-hash.result c.args.text.now (c.len.ensures ∙ ok) c.hash_of-hash.ensures c.address_of-here.ensures in
    let told = c.in-Some.ensures in
    let within : here < length buckets = subst (λ n. here < n) ok (told.variant.0 refl) in
    ((λ w. table_written g.K.TextKey.text half buckets c.self.invariant c.args.text.now here place c.in-Some.bucket.now within told.value w), table_as_was g.K.TextKey.text half buckets c.self.invariant c.args.text.now here place c.in-Some.bucket.now within told.value)

pub returns-in-Some : goal.returns-in-Some
returns-in-Some g c =
    let buckets = c.self.inside.buckets.items in
    let half = c.self.inside.half in
    let here = c.address_of-here.result in
    let ok = c.self.inside.buckets.ok.0 in
    let place = place_from half c.len.result (length buckets) here c.hash_of-hash.result c.args.text.now (c.len.ensures ∙ ok) c.hash_of-hash.ensures c.address_of-here.ensures in
    let told = c.in-Some.ensures in
    let within : here < length buckets = subst (λ n. here < n) ok (told.variant.0 refl) in
    let written : (w : g.row.V.Denot) → table_in g.K.TextKey.text (slice_set buckets here (with_value c.in-Some.bucket.now (place_of g.K.TextKey.text c.args.text.now c.in-Some.bucket.now) w)) ≡ set_value (is_at (text_cmp c.args.text.now)) c.args.self.now w =
    λ w. rest_written g.K.TextKey.text half buckets c.self.invariant c.args.text.now here place c.in-Some.bucket.now within told.value w ∙ ap (λ t. set_value (is_at (text_cmp c.args.text.now)) t w) c.self.view_is in
    let as_was : table_in g.K.TextKey.text (slice_set buckets here c.in-Some.bucket.now) ≡ c.args.self.now = ap (table_in g.K.TextKey.text) (same_as_was g.K.TextKey.text half buckets c.self.invariant c.args.text.now here place c.in-Some.bucket.now within told.value) ∙ c.self.view_is in
    let value = c.get_mut-in-Some.ensures.value ∙ table_read g.K.TextKey.text half buckets c.self.invariant c.args.text.now here place c.in-Some.bucket.now within told.value ∙ ap (at c.args.text.now) c.self.view_is in
    let ordered = subst (λ e. IsStrictlySortedBy text_cmp (keys_of e)) c.self.view_is (up_in_order (all_entries g.K.TextKey.text buckets)) in
    (read_alike _ written as_was, record { writes_back = tt; value = value; ordered = ordered })

pub returns-in-None : goal.returns-in-None
returns-in-None g c =
    let buckets = c.self.inside.buckets.items in
    let half = c.self.inside.half in
    let here = c.address_of-here.result in
    let ok = c.self.inside.buckets.ok.0 in
    let place = place_from half c.len.result (length buckets) here c.hash_of-hash.result c.args.text.now (c.len.ensures ∙ ok) c.hash_of-hash.ensures c.address_of-here.ensures in
    let told = c.in-None.ensures in
    let past = told.variant.1 in
    let beyond : length buckets ≤ here = grind (arith, past, ok) in
    let ordered = subst (λ e. IsStrictlySortedBy text_cmp (keys_of e)) c.self.view_is (up_in_order (all_entries g.K.TextKey.text buckets)) in
    (ap inr c.self.view_is, record { writes_back = tt; value = sym (none_beyond g.K.TextKey.text half buckets c.self.invariant c.args.text.now here place beyond) ∙ ap (at c.args.text.now) c.self.view_is; ordered = ordered })
