use Rattle.std.proofs.Common.{◌≡◌, ◌<◌, sym, ◌∙◌, ap, subst, length, true≢false}
use Rattle.std.specs.Option.{is_some, unwrap_or}
use Rattle.sk_undo.specs.Balance.{most}
use Rattle.sk_undo.specs.Versions.{edited}
use Rattle.sk_table.specs.Counts.{count_in, counted, is_among, with_count}
use Rattle.sk_table.proofs.Counts.{count_is}
use Rattle.sk_table.proofs.CountSteps.{put_is, put_list, ready_there, some_counts}
use Rattle.sk_table.proofs.undo_counts.UndoCounts.put.Goals as goal

pub len_after-self-inside-requires-clause-some : goal.len_after-self-inside-requires-clause-some
len_after-self-inside-requires-clause-some g c =
    let t = c.self.inside.table in
    let up = c.exchange.ensures.ordered in
    let old = ap (λ o. unwrap_or o 0) c.in-Some.ensures.is ∙ sym (count_is c.args.text.now t up) in
    λ more. subst (λ n. 0 < n) (sym c.self.invariant.is_len) (some_counts c.args.text.now c.in-Some.before t old more)

pub len_after-self-inside-requires-clause-few : goal.len_after-self-inside-requires-clause-few
len_after-self-inside-requires-clause-few g c =
    let t = c.self.inside.table in
    let up = c.exchange.ensures.ordered in
    let old = ap (λ o. unwrap_or o 0) c.in-Some.ensures.is ∙ sym (count_is c.args.text.now t up) in
    let now = ap (λ v. v.list.current) c.self.view_is in
    λ none. subst (λ n. n < most) (sym (c.self.invariant.is_len ∙ ap length now)) (c.requires.room (sym (ap (count_in c.args.text.now) now) ∙ sym old ∙ none))

pub invariant_of-self : goal.invariant_of-self
invariant_of-self g c =
    let t = c.self.inside.table in
    let up = c.exchange.ensures.ordered in
    let old = ap (λ o. unwrap_or o 0) c.in-Some.ensures.is ∙ sym (count_is c.args.text.now t up) in
    let counts = c.exchange.ensures.counts (sym (ap is_some c.in-Some.ensures.is)) in
    let ready = ap (λ v. is_among c.args.text.now v.ready) c.self.view_is ∙ c.requires.ready in
    put_is g.K.TextKey.text c.self.inside.log.items t c.exchange.new.table c.self.inside.len c.self.inside.len_then c.args.text.now c.args.count c.exchange.ensures.keys counts up c.self.inside.in_step c.in-Some.before c.len_after-self-inside.result c.self.invariant ready old c.len_after-self-inside.ensures.is c.len_after-self-inside.ensures.small

pub invariant_of-self-in_default : goal.invariant_of-self-in_default
invariant_of-self-in_default g c =
    let t = c.self.inside.table in
    let ready = ap (λ v. is_among c.args.text.now v.ready) c.self.view_is ∙ c.requires.ready in
    let some = ready_there g.K.TextKey.text c.self.inside.log.items t t c.self.inside.len c.self.inside.len_then c.args.text.now c.self.inside.in_step c.self.invariant ready in
    absurd (true≢false (sym some ∙ sym (ap is_some c.in_default.ensures.is)))

pub returns-in-Some-clause-list : goal.returns-in-Some-clause-list
returns-in-Some-clause-list g c =
    let t = c.self.inside.table in
    let up = c.exchange.ensures.ordered in
    let old = ap (λ o. unwrap_or o 0) c.in-Some.ensures.is ∙ sym (count_is c.args.text.now t up) in
    let counts = c.exchange.ensures.counts (sym (ap is_some c.in-Some.ensures.is)) in
    let ready = ap (λ v. is_among c.args.text.now v.ready) c.self.view_is ∙ c.requires.ready in
    put_list g.K.TextKey.text c.self.inside.log.items t c.exchange.new.table c.self.inside.len c.self.inside.len_then c.args.text.now c.args.count c.exchange.ensures.keys counts up c.self.inside.in_step ready ∙ ap (λ v. edited (with_count c.args.text.now c.args.count v.list.current) v.list) c.self.view_is

pub returns-in_default-clause-list : goal.returns-in_default-clause-list
returns-in_default-clause-list g c =
    let t = c.self.inside.table in
    let ready = ap (λ v. is_among c.args.text.now v.ready) c.self.view_is ∙ c.requires.ready in
    let some = ready_there g.K.TextKey.text c.self.inside.log.items t t c.self.inside.len c.self.inside.len_then c.args.text.now c.self.inside.in_step c.self.invariant ready in
    absurd (true≢false (sym some ∙ sym (ap is_some c.in_default.ensures.is)))
