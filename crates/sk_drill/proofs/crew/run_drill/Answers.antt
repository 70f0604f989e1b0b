use Rattle.std.proofs.Common.{◌≡◌, arith, length, refl, rules}
use Rattle.sk_drill.proofs.Apart.{hired_apart}
use Rattle.sk_drill.proofs.Assigning.{then_ok}
use Rattle.sk_drill.proofs.Lanes.{all_stories}
use Rattle.sk_drill.proofs.crew.run_drill.Goals as goal

pub returns-clause-stories : goal.returns-clause-stories
returns-clause-stories g c =
    let teams : c.from.result.items ≡ c.args.teams.now.items = search rules in
    let own : c.from-2.result.items ≡ c.args.rules.items = search rules in
    let count : length c.hire_all.new.staff.items ≡ length c.args.posts.working.items =
    omega (arith, c.hire_all.ensures.len, c.len-count.ensures, c.hire_all.new.staff.ok) in
    let apart = hired_apart g.S.Seats.last g.S.Seats.left c.args.posts.pushing c.args.posts.polling _ _ _ c.hire_all.ensures.seats c.requires.apart in
    then_ok c.run_hired-stories.result c.run_hired-stories.ensures.told
    (λ stories t. all_stories g.S.Seats _ c.args.plan _ _ _ _ _ _ _ _ _ _ _ stories.items teams own c.return_teams.ensures c.hire_all.ensures.hired count refl refl apart t)
