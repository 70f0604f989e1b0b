use Rattle.std.proofs.Common.{refl}
use Rattle.sk_places.proofs.SetRows.{set_get, set_removed_is, set_within}
use Rattle.sk_places.proofs.row_lists.RowLists.take_set.Goals as goal

pub take-requires-clause-within : goal.take-requires-clause-within
take-requires-clause-within c = set_within c.args.self.now c.args.set c.requires.lists _ refl c.args.at c.requires.within

pub returns-clause-lists : goal.returns-clause-lists
returns-clause-lists c = (set_removed_is c.args.self.now c.args.set c.requires.lists (record { names = c.args.self.now.names; spare = c.args.self.now.spare; deques = c.args.self.now.deques; sets = c.take.new.self }) c.args.at refl refl refl c.take.ensures.list).0

pub returns-clause-row : goal.returns-clause-row
returns-clause-row c = set_get c.args.self.now c.args.set c.requires.lists _ refl c.args.at c.take.result c.requires.within c.take.ensures.item

pub returns-clause-rows : goal.returns-clause-rows
returns-clause-rows c = (set_removed_is c.args.self.now c.args.set c.requires.lists (record { names = c.args.self.now.names; spare = c.args.self.now.spare; deques = c.args.self.now.deques; sets = c.take.new.self }) c.args.at refl refl refl c.take.ensures.list).1
