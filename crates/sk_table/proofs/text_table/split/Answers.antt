use Rattle.std.proofs.Common.{◌≡◌, ◌-◌, ◌++◌, ◌∷◌, [], not, filter, refl, sym, ◌∙◌, ap, subst, length, slice_index_or, slice_set, arith}
use Rattle.std.proofs.lemmas.Option.{slice_get_read}
use Rattle.sk_table.specs.Slots.{goes_to}
use Rattle.sk_table.specs.Table.{IsTable, table_in}
use Rattle.sk_table.proofs.Growth.{parted, same_split, table_split}
use Rattle.sk_table.proofs.text_table.split.Goals as goal

pub returns-clause-table : goal.returns-clause-table
returns-clause-table g c =
    let buckets = c.args.buckets.now.items in
    let half = c.args.half in
    let bucket = c.index_mut.result.now in
    let number = c.len-count.result in
    let same = c.reserve.ensures.items in
    let count : number ≡ length buckets = c.len-count.ensures ∙ c.args.buckets.now.ok.0 in
    let read : bucket ≡ slice_index_or buckets (length buckets - half) bucket =
    c.index_mut.ensures.value ∙ ap (λ l. slice_index_or l (number - half) bucket) same ∙ ap (λ n. slice_index_or buckets (n - half) bucket) count in
    let low = c.requires.table.low in
    let some = c.requires.some in
    let there = slice_get_read buckets (length buckets) (length buckets - half) bucket refl (grind (arith, low, some)) read in
    let pushed : c.push_reserved.new.self.items ≡ parted half buckets bucket (length buckets) =
    c.push_reserved.ensures.items ∙ ap (λ l. slice_set c.reserve.new.self.items (number - half) l ++ c.in_ok-far.far ∷ []) c.in_ok-far.ensures.near
    ∙ ap (λ l. slice_set c.reserve.new.self.items (number - half) (filter (λ slot. not (goes_to half number slot)) bucket) ++ l ∷ []) c.in_ok-far.ensures.far
    ∙ ap (λ l. parted half l bucket number) same ∙ ap (parted half buckets bucket) count in
    subst (IsTable g.K.TextKey.text half) (sym pushed) (table_split g.K.TextKey.text half (length buckets - half) buckets bucket c.requires.table some c.requires.room refl there)

pub returns-clause-same : goal.returns-clause-same
returns-clause-same g c =
    let buckets = c.args.buckets.now.items in
    let half = c.args.half in
    let bucket = c.index_mut.result.now in
    let number = c.len-count.result in
    let same = c.reserve.ensures.items in
    let count : number ≡ length buckets = c.len-count.ensures ∙ c.args.buckets.now.ok.0 in
    let read : bucket ≡ slice_index_or buckets (length buckets - half) bucket =
    c.index_mut.ensures.value ∙ ap (λ l. slice_index_or l (number - half) bucket) same ∙ ap (λ n. slice_index_or buckets (n - half) bucket) count in
    let low = c.requires.table.low in
    let some = c.requires.some in
    let there = slice_get_read buckets (length buckets) (length buckets - half) bucket refl (grind (arith, low, some)) read in
    let pushed : c.push_reserved.new.self.items ≡ parted half buckets bucket (length buckets) =
    c.push_reserved.ensures.items ∙ ap (λ l. slice_set c.reserve.new.self.items (number - half) l ++ c.in_ok-far.far ∷ []) c.in_ok-far.ensures.near
    ∙ ap (λ l. slice_set c.reserve.new.self.items (number - half) (filter (λ slot. not (goes_to half number slot)) bucket) ++ l ∷ []) c.in_ok-far.ensures.far
    ∙ ap (λ l. parted half l bucket number) same ∙ ap (parted half buckets bucket) count in
    ap (table_in g.K.TextKey.text) pushed ∙ same_split g.K.TextKey.text half (length buckets - half) buckets bucket c.requires.table some c.requires.room refl there
