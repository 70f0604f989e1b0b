use Rattle.std.proofs.Common.{◌∙◌, ap, sym}
use Rattle.sk_undo.specs.Entries.{entries_in}
use Rattle.sk_undo.specs.Versions.{edited, map_versions}
use Rattle.sk_undo.proofs.Maps.{add_none, change_there, sorted_add, sorted_change}
use Rattle.sk_undo.proofs.undo_map.UndoMap.put.Goals as goal

pub invariant_of-self : goal.invariant_of-self
invariant_of-self g c = rw (c.shift.ensures.list) (record {
  current = sorted_change g.met.K.Ord.total c.args.key c.args.value c.self.inside.entries.list.current c.seek-at.result.0 c.self.invariant.current c.seek-at.ensures.place (sym c.if-is_there.true ∙ c.seek-at.ensures.there);
  saved = c.self.invariant.saved;
})

pub invariant_of-self-else-is_there : goal.invariant_of-self-else-is_there
invariant_of-self-else-is_there g c = rw (c.put_new.ensures.list) (record {
  current = sorted_add g.met.K.Ord.total c.args.key c.args.value c.self.inside.entries.list.current c.self.invariant.current (sym c.if-is_there.false ∙ c.seek-at.ensures.there);
  saved = c.self.invariant.saved;
})

pub returns-then-is_there-clause-list : goal.returns-then-is_there-clause-list
returns-then-is_there-clause-list g c =
    let es = change_there g.met.K.Ord.total c.args.key c.args.value c.self.inside.entries.list.current c.seek-at.result.0 c.seek-at.ensures.place (sym c.if-is_there.true ∙ c.seek-at.ensures.there) in
    rw (c.shift.ensures.list, ← c.self.view_is) (ap (λ l. edited l (map_versions entries_in c.self.inside.entries.list)) es)

pub returns-else-is_there-clause-list : goal.returns-else-is_there-clause-list
returns-else-is_there-clause-list g c =
    let es = add_none g.met.K.Ord.total c.args.key c.args.value c.self.inside.entries.list.current (sym c.if-is_there.false ∙ c.seek-at.ensures.there) in
    rw (c.put_new.ensures.list, ← c.self.view_is) (ap (λ l. edited l (map_versions entries_in c.self.inside.entries.list)) es)
