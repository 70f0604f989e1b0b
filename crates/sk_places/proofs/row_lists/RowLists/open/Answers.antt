use Rattle.std.proofs.Common.{◌≡◌, None, ap, refl, sym, subst, ◌∙◌}
use Rattle.std.specs.BTreeMap.{is_at}
use Rattle.std.specs.Map.{lookup}
use Rattle.sk_places.specs.declared.row_lists.RowLists.{RowLists}
use Rattle.sk_places.specs.RowLists.{kept_rows}
use Rattle.sk_places.specs.Rows.{place_cmp}
use Rattle.sk_places.proofs.Naming.{found_inserted, lists_more, same_itself}
use Rattle.sk_places.proofs.row_lists.RowLists.open.Goals as goal

pub returns-clause-lists : goal.returns-clause-lists
returns-clause-lists c =
    let l : RowLists = c.unused.new.self in
    let m : RowLists = record { names = c.put.new.self; deques = c.unused.new.self.deques; sets = c.unused.new.self.sets; spare = c.look_further.new.self } in
    let new : lookup (is_at (place_cmp c.args.place)) c.unused.new.self.names.list.current ≡ None = subst (λ u. lookup (is_at (place_cmp c.args.place)) u.list.current ≡ None) (sym c.in_ok-list.ensures.names) (subst (λ u. lookup (is_at (place_cmp c.args.place)) u.current ≡ None) (sym c.reserve.ensures.list) c.requires.new) in
    (lists_more l m c.args.place c.in_ok-list.list c.in_ok-list.ensures.unused c.put.ensures.list c.len-count.ensures.sorted c.requires.list refl refl (ap (λ v. v.items) c.look_further.ensures) new c.in_ok-list.ensures.lists).0

pub returns-clause-rows : goal.returns-clause-rows
returns-clause-rows c =
    let l : RowLists = c.unused.new.self in
    let m : RowLists = record { names = c.put.new.self; deques = c.unused.new.self.deques; sets = c.unused.new.self.sets; spare = c.look_further.new.self } in
    let new : lookup (is_at (place_cmp c.args.place)) c.unused.new.self.names.list.current ≡ None = subst (λ u. lookup (is_at (place_cmp c.args.place)) u.list.current ≡ None) (sym c.in_ok-list.ensures.names) (subst (λ u. lookup (is_at (place_cmp c.args.place)) u.current ≡ None) (sym c.reserve.ensures.list) c.requires.new) in
    (lists_more l m c.args.place c.in_ok-list.list c.in_ok-list.ensures.unused c.put.ensures.list c.len-count.ensures.sorted c.requires.list refl refl (ap (λ v. v.items) c.look_further.ensures) new c.in_ok-list.ensures.lists).1
    ∙ c.in_ok-list.ensures.rows
    ∙ ap (λ u. kept_rows u.current c.args.self.now.deques.lists c.args.self.now.sets.list) c.reserve.ensures.list

pub returns-clause-found : goal.returns-clause-found
returns-clause-found c =
    let new : lookup (is_at (place_cmp c.args.place)) c.unused.new.self.names.list.current ≡ None = subst (λ u. lookup (is_at (place_cmp c.args.place)) u.list.current ≡ None) (sym c.in_ok-list.ensures.names) (subst (λ u. lookup (is_at (place_cmp c.args.place)) u.current ≡ None) (sym c.reserve.ensures.list) c.requires.new) in
    ap (λ u. lookup (is_at (place_cmp c.args.place)) u.current) c.put.ensures.list ∙ found_inserted c.unused.new.self.names.list.current c.args.place c.in_ok-list.list new (same_itself c.args.place)
