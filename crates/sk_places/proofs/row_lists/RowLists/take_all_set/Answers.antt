use Rattle.std.proofs.Common.{ap, map, refl, sym, ◌∙◌}
use Rattle.sk_places.proofs.SetRows.{set_emptied_is, set_gone}
use Rattle.sk_places.proofs.row_lists.RowLists.take_all_set.Goals as goal

pub returns-clause-lists : goal.returns-clause-lists
returns-clause-lists c = (set_emptied_is c.args.self.now c.args.set c.requires.lists (record { names = c.args.self.now.names; spare = c.args.self.now.spare; deques = c.args.self.now.deques; sets = c.take_all.new.self }) refl refl refl c.take_all.ensures.rest).0

pub returns-clause-own : goal.returns-clause-own
returns-clause-own c = set_gone c.args.self.now c.args.set c.requires.lists _ refl ∙ sym (ap (λ s. map (λ item. item.1) s.current) c.take_all.ensures.own)

pub returns-clause-rows : goal.returns-clause-rows
returns-clause-rows c = (set_emptied_is c.args.self.now c.args.set c.requires.lists (record { names = c.args.self.now.names; spare = c.args.self.now.spare; deques = c.args.self.now.deques; sets = c.take_all.new.self }) refl refl refl c.take_all.ensures.rest).1
