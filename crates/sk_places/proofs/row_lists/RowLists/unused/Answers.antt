use Rattle.std.proofs.Common.{◌≡◌, ◌-◌, [], ap, refl, take, ◌∙◌}
use Rattle.sk_places.specs.declared.row_lists.RowLists.{RowLists}
use Rattle.sk_places.proofs.Naming.{grown_unused, lists_grown, lists_popped, popped_unused}
use Rattle.sk_places.proofs.row_lists.RowLists.unused.Goals as goal

pub returns-in-Some-clause-lists : goal.returns-in-Some-clause-lists
returns-in-Some-clause-lists c =
    let l : RowLists = c.args.self.now in
    let m : RowLists = record { names = c.args.self.now.names; deques = c.args.self.now.deques; sets = c.args.self.now.sets; spare = record { numbers = c.pop.new.self; next = c.args.self.now.spare.next; looks = c.args.self.now.spare.looks } } in
    (lists_popped l m c.in-Some.list refl refl refl c.in-Some.ensures.items c.requires.lists).0

pub returns-in-Some-clause-unused : goal.returns-in-Some-clause-unused
returns-in-Some-clause-unused c =
    let l : RowLists = c.args.self.now in
    let m : RowLists = record { names = c.args.self.now.names; deques = c.args.self.now.deques; sets = c.args.self.now.sets; spare = record { numbers = c.pop.new.self; next = c.args.self.now.spare.next; looks = c.args.self.now.spare.looks } } in
    popped_unused l m c.in-Some.list refl refl refl c.in-Some.ensures.items c.requires.lists

pub returns-in_ok-list-in-None-clause-lists : goal.returns-in_ok-list-in-None-clause-lists
returns-in_ok-list-in-None-clause-lists c =
    let l : RowLists = c.args.self.now in
    let m : RowLists = record { names = c.args.self.now.names; deques = c.add.new.self; sets = c.args.self.now.sets; spare = record { numbers = c.reserve.new.self; next = c.args.self.now.spare.next; looks = c.args.self.now.spare.looks } } in
    let none : c.reserve.new.self.items ≡ [] = c.in_ok-reserve-in-None.ensures.items ∙ c.in-None.ensures.rest ∙ ap (λ n. take (n - 1) c.args.self.now.spare.numbers.items) c.in-None.ensures.cases.0 in
    (lists_grown l m c.in_ok-list-in-None.ensures.ok refl refl none c.requires.lists).0

pub returns-in_ok-list-in-None-clause-rows : goal.returns-in_ok-list-in-None-clause-rows
returns-in_ok-list-in-None-clause-rows c =
    let l : RowLists = c.args.self.now in
    let m : RowLists = record { names = c.args.self.now.names; deques = c.add.new.self; sets = c.args.self.now.sets; spare = record { numbers = c.reserve.new.self; next = c.args.self.now.spare.next; looks = c.args.self.now.spare.looks } } in
    let none : c.reserve.new.self.items ≡ [] = c.in_ok-reserve-in-None.ensures.items ∙ c.in-None.ensures.rest ∙ ap (λ n. take (n - 1) c.args.self.now.spare.numbers.items) c.in-None.ensures.cases.0 in
    (lists_grown l m c.in_ok-list-in-None.ensures.ok refl refl none c.requires.lists).1

pub returns-in_ok-list-in-None-clause-unused : goal.returns-in_ok-list-in-None-clause-unused
returns-in_ok-list-in-None-clause-unused c =
    let l : RowLists = c.args.self.now in
    let m : RowLists = record { names = c.args.self.now.names; deques = c.add.new.self; sets = c.args.self.now.sets; spare = record { numbers = c.reserve.new.self; next = c.args.self.now.spare.next; looks = c.args.self.now.spare.looks } } in
    let none : c.reserve.new.self.items ≡ [] = c.in_ok-reserve-in-None.ensures.items ∙ c.in-None.ensures.rest ∙ ap (λ n. take (n - 1) c.args.self.now.spare.numbers.items) c.in-None.ensures.cases.0 in
    grown_unused l m c.in_ok-list-in-None.ensures.ok refl refl none c.requires.lists c.in_ok-list-in-None.list c.in_ok-list-in-None.ensures.number
