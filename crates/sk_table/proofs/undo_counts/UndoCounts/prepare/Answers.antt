use Rattle.std.proofs.Common.{◌≡◌, Some, nat_eq, not, sym, ◌∙◌, ap, subst}
use Rattle.std.specs.Map.{keys_of}
use Rattle.std.specs.Option.{is_some, unwrap_or}
use Rattle.sk_table.specs.Counts.{count_in, counted, counts_in, is_among, noted, ready_in}
use Rattle.sk_table.specs.CountsInvariant.{AreCounts}
use Rattle.sk_table.specs.Entries.{at}
use Rattle.sk_table.proofs.Counts.{count_is, some_counts_some}
use Rattle.sk_table.proofs.CountSteps.{entered, noted_is, noted_list, noted_ready}
use Rattle.sk_table.proofs.undo_counts.UndoCounts.prepare.Goals as goal

pub invariant_of-self-in_err-count : goal.invariant_of-self-in_err-count
invariant_of-self-in_err-count g c =
    subst (λ l. AreCounts g.K.TextKey.text c.self.inside.in_step l c.enter.new.table c.self.inside.len c.self.inside.len_then) (sym c.reserve.ensures.items)
    (entered g.K.TextKey.text c.self.inside.log.items c.self.inside.table c.enter.new.table c.self.inside.len c.self.inside.len_then c.self.inside.in_step c.self.invariant c.enter.ensures.same c.enter.ensures.keeps)

pub invariant_of-self-then-count : goal.invariant_of-self-then-count
invariant_of-self-then-count g c =
    subst (λ l. AreCounts g.K.TextKey.text c.self.inside.in_step l c.enter.new.table c.self.inside.len c.self.inside.len_then) (sym c.reserve.ensures.items)
    (entered g.K.TextKey.text c.self.inside.log.items c.self.inside.table c.enter.new.table c.self.inside.len c.self.inside.len_then c.self.inside.in_step c.self.invariant c.enter.ensures.same c.enter.ensures.keeps)

pub invariant_of-self-2 : goal.invariant_of-self-2
invariant_of-self-2 g c =
    let there : at (g.K.TextKey.text c.args.again) c.enter.new.table ≡ Some c.in_ok-count.count = ap (λ x. at x c.enter.new.table) c.requires ∙ c.in_ok-count.ensures.there in
    let count : c.in_ok-count.count ≡ count_in (g.K.TextKey.text c.args.again) (counted c.enter.new.table) = sym (ap (λ o. unwrap_or o 0) there) ∙ sym (count_is (g.K.TextKey.text c.args.again) c.enter.new.table c.in_order.ensures) in
    let log = c.note_down.ensures ∙ ap (noted c.self.inside.in_step (record { key = c.args.again; count = c.in_ok-count.count })) c.reserve.ensures.items in
    subst (λ l. AreCounts g.K.TextKey.text c.self.inside.in_step l c.enter.new.table c.self.inside.len c.self.inside.len_then) (sym log) (noted_is g.K.TextKey.text c.self.inside.log.items c.self.inside.table c.enter.new.table c.self.inside.len c.self.inside.len_then (record { key = c.args.again; count = c.in_ok-count.count }) c.enter.ensures.same c.enter.ensures.keeps c.in_order.ensures there count c.self.inside.in_step c.self.invariant)

pub returns-clause-list : goal.returns-clause-list
returns-clause-list g c =
    let there : at (g.K.TextKey.text c.args.again) c.enter.new.table ≡ Some c.in_ok-count.count = ap (λ x. at x c.enter.new.table) c.requires ∙ c.in_ok-count.ensures.there in
    let count : c.in_ok-count.count ≡ count_in (g.K.TextKey.text c.args.again) (counted c.enter.new.table) = sym (ap (λ o. unwrap_or o 0) there) ∙ sym (count_is (g.K.TextKey.text c.args.again) c.enter.new.table c.in_order.ensures) in
    let log = c.note_down.ensures ∙ ap (noted c.self.inside.in_step (record { key = c.args.again; count = c.in_ok-count.count })) c.reserve.ensures.items in
    ap (λ l. counts_in g.K.TextKey.text c.self.inside.in_step l c.enter.new.table) log ∙ noted_list g.K.TextKey.text c.self.inside.log.items c.self.inside.table c.enter.new.table c.self.inside.len c.self.inside.len_then (record { key = c.args.again; count = c.in_ok-count.count }) c.enter.ensures.same c.enter.ensures.keeps c.in_order.ensures there count c.self.inside.in_step ∙ ap (λ v. v.list) c.self.view_is

pub returns-clause-is : goal.returns-clause-is
returns-clause-is g c =
    sym (ap (λ o. unwrap_or o 0) c.in_ok-count.ensures.there) ∙ sym (count_is (g.K.TextKey.text c.args.key) c.enter.new.table c.in_order.ensures) ∙ ap (count_in (g.K.TextKey.text c.args.key)) (c.enter.ensures.same ∙ ap (λ v. v.list.current) c.self.view_is)

pub returns-clause-ready : goal.returns-clause-ready
returns-clause-ready g c =
    let there : at (g.K.TextKey.text c.args.again) c.enter.new.table ≡ Some c.in_ok-count.count = ap (λ x. at x c.enter.new.table) c.requires ∙ c.in_ok-count.ensures.there in
    let count : c.in_ok-count.count ≡ count_in (g.K.TextKey.text c.args.again) (counted c.enter.new.table) = sym (ap (λ o. unwrap_or o 0) there) ∙ sym (count_is (g.K.TextKey.text c.args.again) c.enter.new.table c.in_order.ensures) in
    let log = c.note_down.ensures ∙ ap (noted c.self.inside.in_step (record { key = c.args.again; count = c.in_ok-count.count })) c.reserve.ensures.items in
    ap (λ l. is_among (g.K.TextKey.text c.args.key) (ready_in g.K.TextKey.text c.self.inside.in_step l c.enter.new.table)) log
    ∙ ap (λ x. is_among x (ready_in g.K.TextKey.text c.self.inside.in_step (noted c.self.inside.in_step (record { key = c.args.again; count = c.in_ok-count.count }) c.self.inside.log.items) c.enter.new.table)) (sym c.requires)
    ∙ noted_ready g.K.TextKey.text c.self.inside.log.items c.self.inside.table c.enter.new.table c.self.inside.len c.self.inside.len_then (record { key = c.args.again; count = c.in_ok-count.count }) c.enter.ensures.same c.enter.ensures.keeps c.in_order.ensures there count c.self.inside.in_step

pub returns-clause-some : goal.returns-clause-some
returns-clause-some g c =
    let text = g.K.TextKey.text c.args.key in
    let now = c.enter.ensures.same ∙ ap (λ v. v.list.current) c.self.view_is in
    let count = sym (ap (λ o. unwrap_or o 0) c.in_ok-count.ensures.there) ∙ sym (count_is text c.enter.new.table c.in_order.ensures) in
    ap (λ l. is_some (at text l)) (sym now) ∙ some_counts_some text c.enter.new.table c.in_order.ensures ∙ ap (λ n. not (nat_eq n 0)) (sym count)
