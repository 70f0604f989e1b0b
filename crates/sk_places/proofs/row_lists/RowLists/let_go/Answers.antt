use Rattle.std.proofs.Common.{◌≡◌, [], refl, sym, ◌∙◌}
use Rattle.sk_deques.specs.DequeMoves.{list_at}
use Rattle.sk_places.specs.declared.row_lists.RowLists.{RowLists}
use Rattle.sk_places.proofs.Holding.{list_there}
use Rattle.sk_places.proofs.Naming.{closed_lists, lists_left, no_items}
use Rattle.sk_places.proofs.row_lists.RowLists.let_go.Goals as goal

pub len-requires : goal.len-requires
len-requires c = list_there c.args.self.now c.args.place.now c.in-Some.list c.requires.lists (sym c.number_of.ensures ∙ c.in-Some.is)

pub give_back-requires-clause-list : goal.give_back-requires-clause-list
give_back-requires-clause-list c = list_there c.args.self.now c.args.place.now c.in-Some.list c.requires.lists (sym c.number_of.ensures ∙ c.in-Some.is)

pub returns-then-len-capacity-clause-lists : goal.returns-then-len-capacity-clause-lists
returns-then-len-capacity-clause-lists c =
    let l : RowLists = c.args.self.now in
    let m : RowLists = record { names = c.take.new.self; deques = c.give_back.new.self; sets = c.args.self.now.sets; spare = record { numbers = c.push_reserved.new.self; next = c.args.self.now.spare.next; looks = c.args.self.now.spare.looks } } in
    let empty : list_at c.in-Some.list c.args.self.now.deques.lists.current ≡ [] = no_items _ (sym c.len.ensures.is ∙ c.if-len-eq0.true) in
    (lists_left l m c.args.place.now c.in-Some.list (sym c.number_of.ensures ∙ c.in-Some.is) empty (closed_lists l c.requires.lists c.requires.closed) c.take.ensures.list c.len-count.ensures.sorted c.give_back.ensures refl c.push_reserved.ensures.items c.requires.lists).0

pub returns-then-len-capacity-clause-rows : goal.returns-then-len-capacity-clause-rows
returns-then-len-capacity-clause-rows c =
    let l : RowLists = c.args.self.now in
    let m : RowLists = record { names = c.take.new.self; deques = c.give_back.new.self; sets = c.args.self.now.sets; spare = record { numbers = c.push_reserved.new.self; next = c.args.self.now.spare.next; looks = c.args.self.now.spare.looks } } in
    let empty : list_at c.in-Some.list c.args.self.now.deques.lists.current ≡ [] = no_items _ (sym c.len.ensures.is ∙ c.if-len-eq0.true) in
    (lists_left l m c.args.place.now c.in-Some.list (sym c.number_of.ensures ∙ c.in-Some.is) empty (closed_lists l c.requires.lists c.requires.closed) c.take.ensures.list c.len-count.ensures.sorted c.give_back.ensures refl c.push_reserved.ensures.items c.requires.lists).1
