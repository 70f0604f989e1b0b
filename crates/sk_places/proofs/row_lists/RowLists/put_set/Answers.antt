use Rattle.std.proofs.Common.{ap₂, not, refl, ◌∙◌}
use Rattle.std.specs.List.{position_or_len}
use Rattle.sk_places.specs.JobSets.{comes_before}
use Rattle.sk_places.proofs.SetRows.{behind_rises, set_put_is}
use Rattle.sk_places.proofs.row_lists.RowLists.put_set.Goals as goal

pub place_for-at-requires : goal.place_for-at-requires
place_for-at-requires c = behind_rises c.args.self.now c.args.set c.requires.lists c.of.result.now.list.current c.of.ensures c.requires.ordered c.args.end (c.args.score, c.text.result.now)

pub returns-clause-lists : goal.returns-clause-lists
returns-clause-lists c =
    let at = c.place_for-at.ensures.is ∙ ap₂ (λ text items. position_or_len (λ item. not (comes_before c.args.end (c.args.score, text) item)) items) c.text.ensures c.of.ensures in
    (set_put_is c.args.self.now c.args.set c.requires.lists c.requires.ordered (record { names = c.args.self.now.names; spare = c.args.self.now.spare; deques = c.args.self.now.deques; sets = c.insert.new.self }) c.args.end c.place_for-at.result (c.args.score, c.args.payload) refl refl refl at c.insert.ensures.list).0

pub returns-clause-rows : goal.returns-clause-rows
returns-clause-rows c =
    let at = c.place_for-at.ensures.is ∙ ap₂ (λ text items. position_or_len (λ item. not (comes_before c.args.end (c.args.score, text) item)) items) c.text.ensures c.of.ensures in
    (set_put_is c.args.self.now c.args.set c.requires.lists c.requires.ordered (record { names = c.args.self.now.names; spare = c.args.self.now.spare; deques = c.args.self.now.deques; sets = c.insert.new.self }) c.args.end c.place_for-at.result (c.args.score, c.args.payload) refl refl refl at c.insert.ensures.list).1
