use Rattle.std.proofs.Common.{◌∙◌, ap, not}
use Rattle.std.specs.BTreeMap.{is_at}
use Rattle.std.specs.Map.{keys_of}
use Rattle.sk_undo.specs.Versions.{edited, map_versions}
use Rattle.sk_undo.proofs.Keys.{keys_lookup, keys_with}
use Rattle.sk_undo.proofs.undo_set.UndoSet.insert.Goals as goal

pub returns-clause-answer : goal.returns-clause-answer
returns-clause-answer g c = rw (← c.self.view_is) (c.add.ensures.answer ∙ ap not (keys_lookup (is_at (g.K.Ord.cmp c.args.key)) c.self.inside.keys.list.current))

pub returns-clause-list : goal.returns-clause-list
returns-clause-list g c =
    let keys = keys_with g.met.K.Ord.total c.args.key tt c.self.inside.keys.list.current c.len-len.ensures.sorted in
    rw (c.add.ensures.list, ← c.self.view_is) (ap (λ l. edited l (map_versions keys_of c.self.inside.keys.list)) keys)
