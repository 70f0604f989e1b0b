use Rattle.std.proofs.Common.{◌∙◌, ap, cond, not, sym}
use Rattle.std.specs.BTreeMap.{insert_entry}
use Rattle.sk_undo.specs.Entries.{entries_in}
use Rattle.sk_undo.specs.Queries.{key_query}
use Rattle.sk_undo.specs.Versions.{edited, map_versions}
use Rattle.sk_undo.proofs.Maps.{add_none, has_match, sorted_add}
use Rattle.sk_undo.proofs.undo_map.UndoMap.add.Goals as goal

pub returns-then-is_there-clause-answer : goal.returns-then-is_there-clause-answer
returns-then-is_there-clause-answer g c =
    let has = has_match (key_query g.met.K.Ord.total c.args.key) c.self.inside.entries.list.current c.self.invariant.current in
    rw (← c.self.view_is) (ap not (sym c.if-is_there.true ∙ c.seek-at.ensures.there ∙ has))

pub returns-then-is_there-clause-list : goal.returns-then-is_there-clause-list
returns-then-is_there-clause-list g c =
    let entries = entries_in c.self.inside.entries.list.current in
    let has = has_match (key_query g.met.K.Ord.total c.args.key) c.self.inside.entries.list.current c.self.invariant.current in
    let there = sym c.if-is_there.true ∙ c.seek-at.ensures.there ∙ has in
    rw (← c.self.view_is) (ap (λ b. edited (cond b entries (insert_entry g.K.Ord.cmp entries c.args.key c.args.value)) (map_versions entries_in c.self.inside.entries.list)) there)

pub invariant_of-self : goal.invariant_of-self
invariant_of-self g c = rw (c.put_new.ensures.list) (record {
  current = sorted_add g.met.K.Ord.total c.args.key c.args.value c.self.inside.entries.list.current c.self.invariant.current (sym c.if-is_there.false ∙ c.seek-at.ensures.there);
  saved = c.self.invariant.saved;
})

pub returns-clause-answer : goal.returns-clause-answer
returns-clause-answer g c =
    let has = has_match (key_query g.met.K.Ord.total c.args.key) c.self.inside.entries.list.current c.self.invariant.current in
    rw (← c.self.view_is) (ap not (sym c.if-is_there.false ∙ c.seek-at.ensures.there ∙ has))

pub returns-clause-list : goal.returns-clause-list
returns-clause-list g c =
    let current = c.self.inside.entries.list.current in
    let none = sym c.if-is_there.false ∙ c.seek-at.ensures.there in
    let has = has_match (key_query g.met.K.Ord.total c.args.key) current c.self.invariant.current in
    let es = add_none g.met.K.Ord.total c.args.key c.args.value current none in
    let entries = entries_in current in
    let new = ap (λ b. cond b entries (insert_entry g.K.Ord.cmp entries c.args.key c.args.value)) (none ∙ has) in
    rw (c.put_new.ensures.list, ← c.self.view_is) (ap (λ l. edited l (map_versions entries_in c.self.inside.entries.list)) (es ∙ new))
